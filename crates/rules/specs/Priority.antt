-- Priority: the creditors are paid in the order of their numbers.
use Rattle.std.specs.Prelude.{ℕ, ◌-◌, min, List, take, sum, slice_index}
use Rattle.rules.specs.Laws.{Rule}
use Rattle.rules.specs.Places.{each}

-- the lesser of creditor k's claim and what the estate leaves after the claims of all lower-numbered creditors
abbrev pub priority_award : ℕ → List ℕ → ℕ → ℕ
priority_award e cs k = min (slice_index cs k) (e - sum (take k cs))

abbrev pub priority : Rule
priority e cs = each cs (priority_award e cs)
