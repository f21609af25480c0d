use Rattle.std.proofs.Common.{refl}
use Rattle.rules.proofs.ForemostAwards.{foremost_only}
use Rattle.rules.proofs.UnitSteps.{unit_by_unit}
use Rattle.rules.proofs.unit.UnitRule.new.Goals as goal

pub returns : goal.returns
returns g c =
    let scores = g.S.Standard.scored c.args.standard in
    let positive = (g.met.S.Standard.measured c.args.standard).positive in
    record { made = refl; steps = unit_by_unit scores positive; apart = foremost_only scores positive }
