use Rattle.std.proofs.Common.{get_or, ◌∙◌, arith, rules}
use Rattle.clearing.proofs.Totals.{total_cap}
use Rattle.book.proofs.Sums.{sum_total_front}
use Rattle.book.proofs.rows.row_total.Goals as goal

pub sum_of-requires : goal.sum_of-requires
sum_of-requires c =
    let n = c.args.n in
    let row = c.args.row.now in
    omega (arith, sum_total_front row n (search rules), total_cap n (λ j. get_or row j 0) 10000 (λ k _. c.requires.small k), c.requires.few)

pub returns : goal.returns
returns c = c.sum_of.ensures ∙ sum_total_front c.args.row.now c.args.n (search rules)
