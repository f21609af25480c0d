use Rattle.std.proofs.Common.{◌-◌, length}
use Rattle.rules.proofs.KeptScores.{Best}
use Rattle.rules.proofs.contest.Contest.pick.Given as goal

abbrev pub invariant-loop-behind : goal.invariant-loop-behind
invariant-loop-behind g l = Best (g.S.Standard.scored l.self.standard.now) l.self.claims.list.now l.held l.best

abbrev pub decreases-loop-behind : goal.decreases-loop-behind
decreases-loop-behind g l = length l.self.claims.list.now - l.best
