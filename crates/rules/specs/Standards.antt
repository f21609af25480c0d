-- Standards: the scores by which creditors compete for the next unit.
use Rattle.std.specs.Prelude.{◌≡◌, ℕ, ◌+◌, ◌≤◌, Bool, true, cond, ◌||◌, nat_le, nat_lt}

-- a fraction, as numerator and denominator
abbrev pub Score : Type 0
Score = ℕ × ℕ

-- the score of a creditor, by its number, its claim and the units that it holds
abbrev pub Scoring : Type 0
Scoring = ℕ → ℕ → ℕ → Score

-- no such creditor, no such claim, or a claim that is met
abbrev pub out_of_reach : ℕ → ℕ → ℕ → Bool
out_of_reach creditor claim held = nat_lt 31 creditor || (nat_lt 10000 claim || nat_le claim held)

-- what the scores of a standard keep to, given the largest numerator and the largest denominator
pub record Measured (f : Scoring) (top bottom : ℕ) : Type 0 where
  pub numerator : (creditor claim held : ℕ) → (f creditor claim held).0 ≤ top
  pub denominator : (creditor claim held : ℕ) → (f creditor claim held).1 ≤ bottom
  pub positive : (creditor claim held : ℕ) → 1 ≤ (f creditor claim held).1
  -- nobody competes out of reach
  pub outside : (creditor claim held : ℕ) → out_of_reach creditor claim held ≡ true → f creditor claim held ≡ (0, 1)

-- a score within reach, and 0 over 1 out of it
abbrev pub within_reach : Scoring → Scoring
within_reach f creditor claim held = cond (out_of_reach creditor claim held) (0, 1) (f creditor claim held)

-- equal awards: 1 over one more than the units held
abbrev pub equal_score : Scoring
equal_score = within_reach (λ creditor claim held. (1, held + 1))

-- Jefferson: the claim over one more than the units held
abbrev pub jefferson_score : Scoring
jefferson_score = within_reach (λ creditor claim held. (claim, held + 1))
