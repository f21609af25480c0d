-- The unit rule: one unit at a time, each to the highest score.
use Rattle.std.specs.Prelude.{ℕ, zero, suc, ◌+◌, ◌*◌, ◌<◌, ◌≤◌, min, Bool, cond, List, length, replicate, Some, None, sum, Option, nat_lt, slice_index, slice_set}
use Rattle.rules.specs.Laws.{Rule}
use Rattle.rules.specs.Standards.{Score, Scoring, equal_score, jefferson_score}

-- fractions in order, by cross products
abbrev pub Below : Score → Score → Type 0
Below p q = p.0 * q.1 < q.0 * p.1

abbrev pub NotAbove : Score → Score → Type 0
NotAbove p q = p.0 * q.1 ≤ q.0 * p.1

-- whether p is above q
abbrev pub above : Score → Score → Bool
above p q = nat_lt (q.0 * p.1) (p.0 * q.1)

-- the score of creditor j for its next unit, where the creditors hold hs of their claims cs
abbrev pub next_score : Scoring → List ℕ → List ℕ → ℕ → Score
next_score f cs hs j = f j (slice_index cs j) (slice_index hs j)

-- creditor j has the best right to the next unit: it holds less than its claim, and of those that do none scores
-- higher, nor as high with a lower number
pub record First (f : Scoring) (cs hs : List ℕ) (j : ℕ) : Type 0 where
  pub listed : j < length cs
  pub short : slice_index hs j < slice_index cs j
  pub highest : (k : ℕ) → slice_index hs k < slice_index cs k → NotAbove (next_score f cs hs k) (next_score f cs hs j)
  pub earliest : (k : ℕ) → k < j → slice_index hs k < slice_index cs k → Below (next_score f cs hs k) (next_score f cs hs j)

-- the better of the best creditor so far and creditor j: the earlier one where they score alike
abbrev pub better : Scoring → List ℕ → List ℕ → Option ℕ → ℕ → Option ℕ
better f cs hs None j = Some j
better f cs hs (Some b) j = cond (above (next_score f cs hs j) (next_score f cs hs b)) (Some j) (Some b)

-- the same where creditor j competes only if it holds less than its claim
abbrev pub contended : Scoring → List ℕ → List ℕ → Option ℕ → ℕ → Option ℕ
contended f cs hs best j = cond (nat_lt (slice_index hs j) (slice_index cs j)) (better f cs hs best j) best

-- the best of the first n creditors, if one of them holds less than its claim
abbrev pub picked : Scoring → List ℕ → List ℕ → ℕ → Option ℕ
picked f cs hs zero = None
picked f cs hs (suc j) = contended f cs hs (picked f cs hs j) j

-- one unit more for creditor j
abbrev pub raised : List ℕ → Option ℕ → List ℕ
raised hs None = hs
raised hs (Some j) = slice_set hs j (slice_index hs j + 1)

-- one unit more for the best of all creditors
abbrev pub handed : Scoring → List ℕ → List ℕ → List ℕ
handed f cs hs = raised hs (picked f cs hs (length cs))

-- what the creditors hold after n units
abbrev pub dealt : Scoring → List ℕ → ℕ → List ℕ
dealt f cs zero = replicate (length cs) 0
dealt f cs (suc n) = handed f cs (dealt f cs n)

-- the lesser of the estate and the claims total, one unit at a time
abbrev pub unit_rule : Scoring → Rule
unit_rule f e cs = dealt f cs (min e (sum cs))

abbrev pub equal_awards : Rule
equal_awards = unit_rule equal_score

abbrev pub jefferson : Rule
jefferson = unit_rule jefferson_score
