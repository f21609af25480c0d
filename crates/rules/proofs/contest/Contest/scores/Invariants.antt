use Rattle.std.proofs.Common.{ℕ, ◌<◌, ◌≤◌, length, get_or}
use Rattle.rules.specs.Kept.{Answers, head}
use Rattle.rules.proofs.contest.Contest.scores.Given as goal

abbrev pub invariant-loop-k : goal.invariant-loop-k
invariant-loop-k g l = (length l.self.claims.list.now ≤ length l.heads) ×
    ((j : ℕ) → j < l.k → Answers (g.S.Standard.scored l.self.standard.now) j (get_or l.self.claims.list.now j 0) (get_or l.held j 0) (head l.heads j))
