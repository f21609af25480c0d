use Rattle.std.proofs.Common.{◌≡◌, ℕ, ◌-◌, ◌<◌, ◌≤◌, length, get_or, drop, sum}
use Rattle.other_rule.specs.Reverse.{reverse_award}
use Rattle.other_rule.proofs.reverse.pay_from_last.Given as goal

abbrev pub invariant-loop-k : goal.invariant-loop-k
invariant-loop-k l =
    (l.left ≡ l.estate - sum (drop l.k l.claims)) ×
    ((j : ℕ) → l.k ≤ j → j < length l.claims → get_or l.awards j 0 ≡ reverse_award l.estate l.claims j)
