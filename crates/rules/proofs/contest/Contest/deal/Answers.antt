use Rattle.std.proofs.Common.{ap}
use Rattle.rules.proofs.KeptScores.{unit_goes, unit_stays}
use Rattle.rules.proofs.contest.Contest.deal.Goals as goal
use Rattle.rules.proofs.contest.Contest.deal.Goals.{in-Some, in_default}

pub loop-unit-preserved : goal.loop-unit-preserved
loop-unit-preserved g c =
    elim c.match-pick.branch [
      | in-Some w ↦ unit_goes _ _ _ _ _ c.loop-unit.invariant _ _ _ _ w.in-Some.ensures.value w.in-Some.ensures.first.listed w.awards-is w.score.ensures (ap (λ s. s.heads) w.begun-is)
      | in_default w ↦ simp (w.awards-is, w.begun-is) (unit_stays _ _ _ _ _ c.loop-unit.invariant w.in_default.ensures.value)
    ]
