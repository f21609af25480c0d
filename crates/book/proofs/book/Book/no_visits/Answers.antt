use Rattle.std.proofs.Common.{arith}
use Rattle.book.proofs.Visiting.{keeps_none}
use Rattle.book.proofs.book.Book.no_visits.Goals as goal

pub returns : goal.returns
returns c A = keeps_none A c.args.self.now c.loop-m.tallies c.loop-m.invariant.0 (λ m l. c.loop-m.invariant.1 m (omega arith))
