use Rattle.std.proofs.Common.{arith}
use Rattle.std.proofs.lemmas.List.FromFn.{fill_by_all}
use Rattle.rules.specs.Priority.{priority_award}
use Rattle.rules.proofs.priority.pay_in_order.Goals as goal

pub returns : goal.returns
returns c =
    fill_by_all (priority_award c.args.estate c.args.claims.now) c.loop-k.awards _ 0 (omega arith)
    (λ k lt. c.loop-k.invariant.1 k (omega arith))
