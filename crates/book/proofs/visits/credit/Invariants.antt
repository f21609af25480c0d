use Rattle.book.proofs.Visiting.{Raised}
use Rattle.book.proofs.visits.credit.Given as goal

abbrev pub invariant-loop-j : goal.invariant-loop-j
invariant-loop-j l = Raised l.initial.tallies l.tallies l.before l.after l.j
