-- What is proved of the rules above their definitions, in the words of the literature on claims problems.
use Rattle.std.specs.Prelude.{◌≡◌, ℕ, ◌+◌, ◌-◌, ◌*◌, ◌<◌, ◌≤◌, min, cond, List, length, replicate, sum, nat_lt, slice_index, slice_set}
use Rattle.rules.specs.Claims.{Admitted}
use Rattle.rules.specs.Classes.{of_class, by_class}
use Rattle.rules.specs.Dual.{shortfall, dual}
use Rattle.rules.specs.Laws.{Rule}
use Rattle.rules.specs.Places.{each, minus}
use Rattle.rules.specs.Standards.{Score, Scoring}
use Rattle.rules.specs.Unit.{Below, NotAbove, First, next_score, unit_rule}

-- hs divides an estate over claims: an award for each, none above its claim, in all the lesser of estate and claims total
pub record Divides (e : ℕ) (cs hs : List ℕ) : Type 0 where
  pub count : length hs ≡ length cs
  pub total : sum hs ≡ min e (sum cs)
  pub within : (k : ℕ) → slice_index hs k ≤ slice_index cs k

-- the rule's awards have a property, and no other division of the estate has it
pub record Only (f : Rule) (P : List ℕ → List ℕ → Type 0) : Type 0 where
  pub holds : (e : ℕ) (cs : List ℕ) → Admitted cs → P cs (f e cs)
  pub alone : (e : ℕ) (cs hs : List ℕ) → Admitted cs → Divides e cs hs → P cs hs → hs ≡ f e cs

-- whoever gets a unit sees all lower-numbered creditors paid in full
abbrev pub InOrder : List ℕ → List ℕ → Type 0
InOrder cs hs = (i j : ℕ) → i < j → 0 < slice_index hs j → slice_index hs i ≡ slice_index cs i

-- no creditor is more than one unit ahead of one that is short of its claim, and none is ahead at all of a
-- lower-numbered one that is short
abbrev pub Level : List ℕ → List ℕ → Type 0
Level cs hs =
    (i j : ℕ) → slice_index hs j < slice_index cs j →
    (slice_index hs i ≤ slice_index hs j + 1) × (j < i → slice_index hs i ≤ slice_index hs j)

-- the same of what the creditors go without
abbrev pub LevelLosses : List ℕ → List ℕ → Type 0
LevelLosses cs hs = Level cs (minus cs hs)

-- the divisor inequality: nobody holds more for its claim than a creditor short of its claim would hold with one unit
-- more, nor as much as a lower-numbered one would
abbrev pub Proportionate : List ℕ → List ℕ → Type 0
Proportionate cs hs =
    (i j : ℕ) → 0 < slice_index hs i → slice_index hs j < slice_index cs j →
    (slice_index cs j * slice_index hs i ≤ slice_index cs i * (slice_index hs j + 1)) ×
    (j < i → slice_index cs j * slice_index hs i < slice_index cs i * (slice_index hs j + 1))

-- nobody falls a whole unit short of its proportional share of what is awarded
abbrev pub LowerQuota : List ℕ → List ℕ → Type 0
LowerQuota cs hs = (k : ℕ) → 0 < slice_index cs k → slice_index cs k * sum hs < (slice_index hs k + 1) * sum cs

-- a score that never rises with the units held
abbrev pub NeverRises : Scoring → Type 0
NeverRises f = (creditor claim held more : ℕ) → held ≤ more → more < claim → NotAbove (f creditor claim more) (f creditor claim held)

-- the score at which creditor i got its last unit
abbrev pub last_score : Scoring → List ℕ → List ℕ → ℕ → Score
last_score f cs hs i = f i (slice_index cs i) (slice_index hs i - 1)

-- no unit that is still wanted scores higher than one that is held, nor as high for a lower-numbered creditor
abbrev pub Foremost : Scoring → List ℕ → List ℕ → Type 0
Foremost f cs hs =
    (i j : ℕ) → 0 < slice_index hs i → slice_index hs j < slice_index cs j →
    NotAbove (next_score f cs hs j) (last_score f cs hs i) × (j < i → Below (next_score f cs hs j) (last_score f cs hs i))

-- the unit rule as its estate grows: each unit more goes to the creditor with the best right to it, until all are
-- paid in full
pub record UnitByUnit (f : Scoring) : Type 0 where
  pub start : (cs : List ℕ) → unit_rule f 0 cs ≡ replicate (length cs) 0
  pub next : (e : ℕ) (cs : List ℕ) → e < sum cs → (j : ℕ) × First f cs (unit_rule f e cs) j × (unit_rule f (e + 1) cs ≡ slice_set (unit_rule f e cs) j (slice_index (unit_rule f e cs) j + 1))
  pub full : (e : ℕ) (cs : List ℕ) → sum cs ≤ e → unit_rule f e cs ≡ cs

-- a rule and its dual
pub record DualOf (f : Rule) : Type 0 where
  -- the creditors go without what f awards from the shortfall
  pub losses : (e : ℕ) (cs : List ℕ) → Admitted cs → minus cs (dual f e cs) ≡ f (shortfall e cs) cs
  -- the dual of the dual is the rule itself
  pub twice : (e : ℕ) (cs : List ℕ) → Admitted cs → dual (dual f) e cs ≡ f e cs

-- creditor k's claim, if its class is below t
abbrev pub lower_claim : List ℕ → ℕ → List ℕ → ℕ → ℕ
lower_claim ts t cs k = cond (nat_lt (slice_index ts k) t) (slice_index cs k) 0

-- the claims total of the classes below t
abbrev pub lower_claims : List ℕ → ℕ → List ℕ → ℕ
lower_claims ts t cs = sum (each cs (lower_claim ts t cs))

-- what class t is served: the lesser of what the estate leaves after the claims of lower classes and its claims total
abbrev pub class_share : List ℕ → ℕ → ℕ → List ℕ → ℕ
class_share ts t e cs = min (e - lower_claims ts t cs) (sum (of_class ts t cs))

-- a rule f under classes ts
pub record ByClass (ts : List ℕ) (f : Rule) : Type 0 where
  -- a creditor gets what f awards it from its class's share, over the claims of its class
  pub award :
      (e : ℕ) (cs : List ℕ) → Admitted cs → (k : ℕ) →
      slice_index (by_class ts f e cs) k ≡ slice_index (f (class_share ts (slice_index ts k) e cs) (of_class ts (slice_index ts k) cs)) k
  -- whoever gets a unit sees all creditors of lower classes paid in full
  pub order :
      (e : ℕ) (cs : List ℕ) → Admitted cs → (i j : ℕ) → slice_index ts i < slice_index ts j → 0 < slice_index (by_class ts f e cs) j →
      slice_index (by_class ts f e cs) i ≡ slice_index cs i
