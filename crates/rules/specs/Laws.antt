-- The laws of a division rule.
use Rattle.std.specs.Prelude.{◌≡◌, ℕ, ◌≤◌, min, List, length, sum, slice_index}
use Rattle.rules.specs.Claims.{Admitted}

-- a division rule: from an estate and a list of claims to a list of awards
abbrev pub Rule : Type 0
Rule = ℕ → List ℕ → List ℕ

pub record Lawful (f : Rule) : Type 0 where
  -- as many awards as claims
  pub count : (e : ℕ) (cs : List ℕ) → Admitted cs → length (f e cs) ≡ length cs
  -- the awards add up to the lesser of the estate and the claims total
  pub total : (e : ℕ) (cs : List ℕ) → Admitted cs → sum (f e cs) ≡ min e (sum cs)
  -- no award is above its claim
  pub within : (e : ℕ) (cs : List ℕ) → Admitted cs → (k : ℕ) → slice_index (f e cs) k ≤ slice_index cs k
  -- a larger estate gives no creditor less
  pub grows : (e more : ℕ) (cs : List ℕ) → Admitted cs → e ≤ more → (k : ℕ) → slice_index (f e cs) k ≤ slice_index (f more cs) k
