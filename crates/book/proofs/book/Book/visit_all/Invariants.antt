use Rattle.book.specs.Views.{payments_of}
use Rattle.book.specs.Visits.{Kept}
use Rattle.book.proofs.Turning.{Turned}
use Rattle.book.proofs.book.Book.visit_all.Given as goal

abbrev pub invariant-loop-m : goal.invariant-loop-m
invariant-loop-m g l =
    let A = g.R.Rulebook.awarded l.rulebook in
    Turned A l.initial.self.figures (payments_of l.initial.self) l.m l.units l.passed l.self × Kept A l.self l.tallies
