-- What the unit rule keeps while it hands out units: the score of every creditor's next unit.
use Rattle.std.specs.Prelude.{◌≡◌, ℕ, ◌<◌, ◌≤◌, List, length, slice_index, slice_index_or}
use Rattle.rules.specs.Standards.{Score, Scoring}
use Rattle.rules.specs.Theorems.{last_score}
use Rattle.rules.specs.Unit.{NotAbove, dealt}

-- the score that is kept of creditor k
abbrev pub head : List Score → ℕ → Score
head heads k = slice_index_or heads k (0, 0)

-- a score that a standard may answer
pub record Small (s : Score) : Type 0 where
  pub numerator : s.0 ≤ 65535
  pub denominator : s.1 ≤ 65535
  pub positive : 1 ≤ s.1

-- s is the score of a creditor, by its number, its claim and the units that it holds
pub record Answers (f : Scoring) (creditor claim held : ℕ) (s : Score) : Type 0 where
  pub is : s ≡ f creditor claim held
  pub small : Small s
  -- whose claim is met scores 0
  pub met : claim ≤ held → s.0 ≡ 0

-- a score for each creditor's next unit, where the creditors hold hs of their claims cs
pub record Heads (f : Scoring) (cs hs : List ℕ) (heads : List Score) : Type 0 where
  pub listed : length hs ≡ length cs
  pub count : length cs ≤ length heads
  pub next : (k : ℕ) → k < length cs → Answers f k (slice_index cs k) (slice_index hs k) (head heads k)

-- n units are handed out, and the scores of the next ones kept
pub record Underway (f : Scoring) (cs : List ℕ) (n : ℕ) (hs : List ℕ) (heads : List Score) : Type 0 where
  pub held : hs ≡ dealt f cs n
  pub scores : Heads f cs hs heads

-- no unit that is held scores below s
abbrev pub UnderHeld : Scoring → List ℕ → List ℕ → ℕ → Score → Type 0
UnderHeld f cs hs n s = (k : ℕ) → k < n → 0 < slice_index hs k → NotAbove s (last_score f cs hs k)

-- none of the first n scores is above s
abbrev pub OverFirst : List Score → ℕ → Score → Type 0
OverFirst heads n s = (k : ℕ) → k < n → NotAbove (head heads k) s
