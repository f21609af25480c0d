use Rattle.std.proofs.Common.{◌-◌, ◌≤◌, length, take}
use Rattle.netfile.proofs.Steps.{Stands}
use Rattle.netfile.proofs.loading.load.Given as goal

abbrev pub invariant-loop-number : goal.invariant-loop-number
invariant-loop-number l =
    (l.byte ≤ length l.file) × Stands l.draft.figures.n l.next.figures l.due (take l.byte l.file)

abbrev pub decreases-loop-number : goal.decreases-loop-number
decreases-loop-number l = length l.file - l.byte
