use Rattle.std.proofs.Common.{◌-◌}
use Rattle.clearing.specs.Networks.{units_paid}
use Rattle.book.specs.Tables.{network_of}
use Rattle.book.specs.Views.{payments_of}
use Rattle.book.specs.Visits.{Kept}
use Rattle.book.proofs.Resting.{Rounded}
use Rattle.book.proofs.book.Book.come_to_rest.Given as goal

abbrev pub invariant-loop-tallies : goal.invariant-loop-tallies
invariant-loop-tallies g l =
    let A = g.R.Rulebook.awarded l.rulebook in
    Rounded A l.initial.self.figures (payments_of l.initial.self) l.rounds l.units l.self × Kept A l.self l.tallies

abbrev pub decreases-loop-tallies : goal.decreases-loop-tallies
decreases-loop-tallies g l = 10240000 - units_paid (network_of l.initial.self.figures) (payments_of l.self)
