use Rattle.std.proofs.Common.{refl, ◌∙◌, arith}
use Rattle.book.specs.Lives.{rest}
use Rattle.book.proofs.Working.{works_more, works_all, calls_set}
use Rattle.book.proofs.book.Book.work.Goals as goal

pub loop-task-init : goal.loop-task-init
loop-task-init g c = (rest, refl)

pub loop-task-preserved : goal.loop-task-preserved
loop-task-preserved g c =
    let tasks = c.loop-task.tasks in
    let i = c.loop-task.task-index in (
      works_more (g.R.Rulebook.awarded c.args.rulebook.now) c.args.self.now c.loop-task.self c.perform-answer.new.self tasks i _ c.perform-answer.result
          (omega arith) c.loop-task.invariant.0 c.perform-answer.ensures,
      calls_set tasks i _ _ ∙ c.loop-task.invariant.1,
    )

pub returns : goal.returns
returns g c =
    record {
      works = works_all (g.R.Rulebook.awarded c.args.rulebook.now) c.args.self.now c.loop-task.self c.loop-task.tasks c.loop-task.task-index (omega arith) c.loop-task.invariant.0;
      calls = c.loop-task.invariant.1;
    }
