-- Reverse priority: the creditors are paid from the highest number down.
use Rattle.std.specs.Prelude.{◌≡◌, ℕ, suc, ◌-◌, min, List, drop, sum, slice_index}
use Rattle.rules.specs.Dual.{dual}
use Rattle.rules.specs.Laws.{Rule}
use Rattle.rules.specs.Places.{each}
use Rattle.rules.specs.Priority.{priority}

-- the lesser of creditor k's claim and what the estate leaves after the claims of all higher-numbered creditors
abbrev pub reverse_award : ℕ → List ℕ → ℕ → ℕ
reverse_award e cs k = min (slice_index cs k) (e - sum (drop (suc k) cs))

abbrev pub reverse_priority : Rule
reverse_priority e cs = each cs (reverse_award e cs)

-- it is the dual of priority
abbrev pub DualOfPriority : Type 0
DualOfPriority = (e : ℕ) (cs : List ℕ) → reverse_priority e cs ≡ dual priority e cs
