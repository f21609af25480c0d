use Rattle.rules.specs.Kept.{Underway}
use Rattle.rules.proofs.contest.Contest.deal.Given as goal

abbrev pub invariant-loop-unit : goal.invariant-loop-unit
invariant-loop-unit g l = Underway (g.S.Standard.scored l.self.standard.now) l.self.claims.list.now l._unit l.awards l.begun.heads
