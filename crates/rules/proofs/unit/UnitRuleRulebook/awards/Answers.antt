use Rattle.std.proofs.Common.{sum, sym, ap, ◌∙◌, arith}
use Rattle.rules.proofs.UnitSteps.{unit_by_unit}
use Rattle.rules.proofs.unit.UnitRuleRulebook.awards.Goals as goal

pub returns-then-estate-total : goal.returns-then-estate-total
returns-then-estate-total g c =
    let f = g.S.Standard.scored c.args.self.now.standard in
    let positive = (g.met.S.Standard.measured c.args.self.now.standard).positive in
    let enough = (unit_by_unit f positive).full c.args.estate c.args.claims.now (omega (arith, ap sum c.in_ok-admitted.ensures.1.0)) in
    (c.in_ok-admitted.ensures.0, c.copy_from_slice.ensures.after ∙ sym enough)
