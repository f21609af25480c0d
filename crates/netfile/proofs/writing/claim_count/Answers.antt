use Rattle.std.proofs.Common.{take, get_or, [], arith}
use Rattle.std.specs.List.{flat_map}
use Rattle.std.proofs.lemmas.List.Sums.{count_by-le-length}
use Rattle.netfile.proofs.Cells.{whole_row, above_0, length_rows}
use Rattle.netfile.proofs.writing.claim_count.Goals as goal

pub overflow_add-claims : goal.overflow_add-claims
overflow_add-claims c =
    let f = c.args.figures.now in
    let i = c.loop-row.row-index in
    let before = flat_map whole_row (take i f.claims) in
    let row = get_or f.claims i [] in
    omega (arith, c.loop-row.invariant, count_by-le-length above_0 before, length_rows f i (omega arith), c.row_count-claims.ensures, count_by-le-length above_0 row, f.columns i (omega arith))
