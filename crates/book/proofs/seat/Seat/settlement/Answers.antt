use Rattle.std.proofs.Common.{get_or, ◌∙◌, arith}
use Rattle.clearing.proofs.Totals.{total_le}
use Rattle.book.specs.Views.{payments_of}
use Rattle.book.proofs.Cases.{receded_is, steady_is}
use Rattle.book.proofs.seat.Seat.settlement.Goals as goal

pub overflow_sub-result : goal.overflow_sub-result
overflow_sub-result g c =
    let A = g.R.Rulebook.awarded c.args.rulebook.now in
    let B = c.args.self.now.book.now in
    let m = c.args.self.now.at in
    let row = c.due_row-due.result in
    omega (
      arith,
      c.row_total.ensures,
      c.outlay.ensures,
      total_le B.figures.n (payments_of B m) (λ j. get_or row j 0) (steady_is A B m row c.due_row-due.ensures c.recedes.result c.recedes.ensures c.if-recedes.false),
    )

pub returns : goal.returns
returns g c =
    let A = g.R.Rulebook.awarded c.args.rulebook.now in
    let B = c.args.self.now.book.now in
    let m = c.args.self.now.at in
    let row = c.due_row-due.result in
    record {
      steady = receded_is A B m row c.due_row-due.ensures c.recedes.result c.recedes.ensures ∙ c.if-recedes.false;
      due = c.due_row-due.ensures;
      more = steady_is A B m row c.due_row-due.ensures c.recedes.result c.recedes.ensures c.if-recedes.false;
      units = omega (arith, c.row_total.ensures, c.outlay.ensures);
    }
