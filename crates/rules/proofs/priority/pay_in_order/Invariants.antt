use Rattle.std.proofs.Common.{◌≡◌, ℕ, ◌-◌, ◌<◌, get_or, take, sum}
use Rattle.rules.specs.Priority.{priority_award}
use Rattle.rules.proofs.priority.pay_in_order.Given as goal

abbrev pub invariant-loop-k : goal.invariant-loop-k
invariant-loop-k l =
    (l.left ≡ l.estate - sum (take l.k l.claims)) ×
    ((j : ℕ) → j < l.k → get_or l.awards j 0 ≡ priority_award l.estate l.claims j)
