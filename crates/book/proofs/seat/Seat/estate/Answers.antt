use Rattle.std.proofs.Common.{◌∙◌, ap, ◌+◌, arith}
use Rattle.book.specs.Views.{net_of}
use Rattle.book.proofs.Tables.{column_is, estate_cap}
use Rattle.book.proofs.seat.Seat.estate.Goals as goal

pub column_of-received-requires-clause-fits : goal.column_of-received-requires-clause-fits
column_of-received-requires-clause-fits c =
    let B = c.args.self.now.book.now in
    let m = c.args.self.now.at in
    omega (arith, column_is B m (omega (arith, B.rows, B.figures.few)), estate_cap B m B.figures.n B.figures.few)

pub overflow_add-result : goal.overflow_add-result
overflow_add-result c =
    let B = c.args.self.now.book.now in
    let m = c.args.self.now.at in
    omega (arith, c.column_of-received.ensures, column_is B m (omega (arith, B.rows, B.figures.few)), estate_cap B m B.figures.n B.figures.few)

pub returns-clause-value : goal.returns-clause-value
returns-clause-value c =
    let B = c.args.self.now.book.now in
    let m = c.args.self.now.at in
    ap (λ x. (net_of B).endowment m + x) (c.column_of-received.ensures ∙ column_is B m (omega (arith, B.rows, B.figures.few)))

pub returns-clause-bound : goal.returns-clause-bound
returns-clause-bound c =
    let B = c.args.self.now.book.now in
    let m = c.args.self.now.at in
    omega (arith, c.column_of-received.ensures, column_is B m (omega (arith, B.rows, B.figures.few)), estate_cap B m B.figures.n B.figures.few)
