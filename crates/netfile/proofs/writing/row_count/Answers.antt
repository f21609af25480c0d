use Rattle.std.proofs.Common.{take, arith}
use Rattle.std.proofs.lemmas.Grind.{common_steps}
use Rattle.std.proofs.lemmas.List.{length-take-le}
use Rattle.std.proofs.lemmas.List.Sums.{count_by-le-length, count_by_more_yes, count_by_more_no}
use Rattle.netfile.proofs.Cells.{above_0}
use Rattle.netfile.proofs.writing.row_count.Goals as goal

pub overflow_add-claims : goal.overflow_add-claims
overflow_add-claims c =
    let row = c.args.row.now in
    omega (arith, c.loop-units.invariant, count_by-le-length above_0 (take c.loop-units.units-index row), length-take-le c.loop-units.units-index row (omega arith))

pub loop-units-preserved : goal.loop-units-preserved
loop-units-preserved c = grind (arith, common_steps, count_by_more_yes, count_by_more_no)
