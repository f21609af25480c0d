use Rattle.std.proofs.Common.{◌≡◌, take}
use Rattle.book.specs.Lives.{Works, calls_of}
use Rattle.book.proofs.book.Book.work.Given as goal

abbrev pub invariant-loop-task : goal.invariant-loop-task
invariant-loop-task g l =
    Works (g.R.Rulebook.awarded l.rulebook) l.initial.self (take l.task-index l.tasks) l.self × (calls_of l.tasks ≡ calls_of l.initial.tasks)
