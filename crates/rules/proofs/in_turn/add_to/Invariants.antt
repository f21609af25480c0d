use Rattle.std.proofs.Common.{◌≡◌, ℕ, ◌+◌, ◌<◌, ◌≤◌, get_or}
use Rattle.rules.proofs.in_turn.add_to.Given as goal

abbrev pub invariant-loop-k : goal.invariant-loop-k
invariant-loop-k l =
    ((j : ℕ) → j < l.k → get_or l.awards j 0 ≡ get_or l.initial.awards j 0 + get_or l.more j 0) ×
    ((j : ℕ) → l.k ≤ j → get_or l.awards j 0 ≡ get_or l.initial.awards j 0)
