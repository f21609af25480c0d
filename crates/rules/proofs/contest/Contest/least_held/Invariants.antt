use Rattle.rules.specs.Kept.{Small, UnderHeld}
use Rattle.rules.proofs.contest.Contest.least_held.Given as goal

abbrev pub invariant-loop-k : goal.invariant-loop-k
invariant-loop-k g l = Small l.least × UnderHeld (g.S.Standard.scored l.self.standard.now) l.self.claims.list.now l.held l.k l.least
