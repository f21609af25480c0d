use Rattle.std.proofs.Common.{◌≡◌, ℕ, ◌<◌, length}
use Rattle.book.specs.Visits.{Fresh, tally_at}
use Rattle.book.proofs.book.Book.no_visits.Given as goal

abbrev pub invariant-loop-m : goal.invariant-loop-m
invariant-loop-m l = (length l.tallies ≡ 32) × ((k : ℕ) → k < l.m → Fresh l.self k (tally_at l.tallies k))
