-- Served in turn: each claim is split into parts, and the totals of the parts are served one after the other.
use Rattle.std.specs.Prelude.{◌≡◌, ℕ, zero, suc, ◌+◌, ◌-◌, ◌<◌, min, List, length, replicate, sum}
use Rattle.rules.specs.Claims.{Admitted}
use Rattle.rules.specs.Laws.{Rule, Lawful}
use Rattle.rules.specs.Places.{plus}

-- a part of each claim, found without a look at the estate, and the rule that divides what is served to it
pub record Part : Type 0 where
  pub portion : List ℕ → List ℕ
  pub rule : Rule

-- the first n parts of each claim together
abbrev pub joined : (ℕ → Part) → ℕ → List ℕ → List ℕ
joined p zero cs = replicate (length cs) 0
joined p (suc n) cs = plus (joined p n cs) ((p n).portion cs)

-- the claims total of the parts before part n
abbrev pub earlier : (ℕ → Part) → ℕ → List ℕ → ℕ
earlier p zero cs = 0
earlier p (suc n) cs = earlier p n cs + sum ((p n).portion cs)

-- what part n is served: the lesser of its total and what the estate leaves after the totals of the parts before it
abbrev pub share : (ℕ → Part) → ℕ → ℕ → List ℕ → ℕ
share p n e cs = min (e - earlier p n cs) (sum ((p n).portion cs))

-- what the first n parts bring each creditor
abbrev pub in_turn : (ℕ → Part) → ℕ → Rule
in_turn p zero e cs = replicate (length cs) 0
in_turn p (suc n) e cs = plus (in_turn p n e cs) ((p n).rule (share p n e cs) ((p n).portion cs))

-- n parts that make up each claim, each divided by a lawful rule
pub record Splits (p : ℕ → Part) (n : ℕ) : Type 0 where
  pub places : (k : ℕ) → k < n → (cs : List ℕ) → Admitted cs → length ((p k).portion cs) ≡ length cs
  pub whole : (cs : List ℕ) → Admitted cs → joined p n cs ≡ cs
  pub lawful : (k : ℕ) → k < n → Lawful (p k).rule

-- whatever the split, its parts served in turn make a lawful rule
abbrev pub InTurnLawful : Type 0
InTurnLawful = (p : ℕ → Part) (n : ℕ) → Splits p n → Lawful (in_turn p n)
