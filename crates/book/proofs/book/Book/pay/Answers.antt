use Rattle.std.proofs.Common.{◌≡◌, refl, ap, ◌∙◌, arith, length-set}
use Rattle.book.specs.Views.{payments_of}
use Rattle.book.proofs.Cases.{at_seat, row_told, receded_is, steady_is, pay_recedes, pay_beyond, pay_passes, pay_pays, pay_columns, pay_kept}
use Rattle.book.proofs.book.Book.pay.Goals as goal

pub returns-then-recedes : goal.returns-then-recedes
returns-then-recedes g c =
    let A = g.R.Rulebook.awarded c.args.rulebook.now in
    let B = c.args.self.now in
    let d = c.args.debtor in
    let o = c.args.creditor in
    let known = c.in_ok-payer.ensures.1 in
    let row = c.due_row-due.result in
    let told = row_told A c.in_ok-payer.payer known.0 row c.recedes.result c.due_row-due.ensures c.recedes.ensures in
    let fault = pay_recedes A B d o c.args.units known.2 known.3 (omega arith) (receded_is A B d row told.0 c.recedes.result told.1 ∙ c.if-recedes.true) in
    let named = c.of_pair-then-recedes.ensures in
    (cc, refl)

pub overflow_sub-due : goal.overflow_sub-due
overflow_sub-due g c =
    let A = g.R.Rulebook.awarded c.args.rulebook.now in
    let B = c.args.self.now in
    let d = c.args.debtor in
    let o = c.args.creditor in
    let known = c.in_ok-payer.ensures.1 in
    let row = c.due_row-due.result in
    let told = row_told A c.in_ok-payer.payer known.0 row c.recedes.result c.due_row-due.ensures c.recedes.ensures in
    let paid = at_seat (λ X k. c.paid_to-paid.result ≡ payments_of X k c.in_ok-payer.payee.at) c.in_ok-payer.payer known.0 c.paid_to-paid.ensures ∙ ap (payments_of B d) known.1.1 in
    omega (arith, paid, steady_is A B d row told.0 c.recedes.result told.1 c.if-recedes.false o known.3)

pub returns-then-units-due : goal.returns-then-units-due
returns-then-units-due g c =
    let A = g.R.Rulebook.awarded c.args.rulebook.now in
    let B = c.args.self.now in
    let d = c.args.debtor in
    let o = c.args.creditor in
    let known = c.in_ok-payer.ensures.1 in
    let row = c.due_row-due.result in
    let told = row_told A c.in_ok-payer.payer known.0 row c.recedes.result c.due_row-due.ensures c.recedes.ensures in
    let paid = at_seat (λ X k. c.paid_to-paid.result ≡ payments_of X k c.in_ok-payer.payee.at) c.in_ok-payer.payer known.0 c.paid_to-paid.ensures ∙ ap (payments_of B d) known.1.1 in
    let fault =
    pay_beyond A B d o c.args.units known.2 known.3 (omega arith) row told.0 (receded_is A B d row told.0 c.recedes.result told.1 ∙ c.if-recedes.false)
    c.paid_to-paid.result paid c.if-units-due.true in
    let named = c.of_pair-then-units-due.ensures in
    (cc, refl)

pub invariant_of-self : goal.invariant_of-self
invariant_of-self g c =
    let A = g.R.Rulebook.awarded c.args.rulebook.now in
    let B = c.args.self.now in
    let d = c.args.debtor in
    let o = c.args.creditor in
    let known = c.in_ok-payer.ensures.1 in
    let row = c.due_row-due.result in
    let told = row_told A c.in_ok-payer.payer known.0 row c.recedes.result c.due_row-due.ensures c.recedes.ensures in
    let paid = at_seat (λ X k. c.paid_to-paid.result ≡ payments_of X k c.in_ok-payer.payee.at) c.in_ok-payer.payer known.0 c.paid_to-paid.ensures ∙ ap (payments_of B d) known.1.1 in
    let steady = receded_is A B d row told.0 c.recedes.result told.1 ∙ c.if-recedes.false in
    let v = c.paid_to-paid.result in
    let room = c.if-units-due.false in
    let kept =
    pay_kept A B d o c.args.units known.2 known.3 (omega arith) row told.0 steady v paid room (steady_is A B d row told.0 c.recedes.result told.1 c.if-recedes.false) in
    record {
      rows = length-set B.paid d _ ∙ B.rows;
      columns = pay_columns A B d o c.args.units known.2 known.3 (omega arith) row told.0 steady v paid room;
      capped = kept.0;
      solvent = kept.1;
    }

pub returns : goal.returns
returns g c =
    let A = g.R.Rulebook.awarded c.args.rulebook.now in
    let B = c.args.self.now in
    let d = c.args.debtor in
    let o = c.args.creditor in
    let known = c.in_ok-payer.ensures.1 in
    let row = c.due_row-due.result in
    let told = row_told A c.in_ok-payer.payer known.0 row c.recedes.result c.due_row-due.ensures c.recedes.ensures in
    let paid = at_seat (λ X k. c.paid_to-paid.result ≡ payments_of X k c.in_ok-payer.payee.at) c.in_ok-payer.payer known.0 c.paid_to-paid.ensures ∙ ap (payments_of B d) known.1.1 in
    let steady = receded_is A B d row told.0 c.recedes.result told.1 ∙ c.if-recedes.false in
    let v = c.paid_to-paid.result in
    let room = c.if-units-due.false in (
      pay_passes A B d o c.args.units known.2 known.3 (omega arith) row told.0 steady v paid room,
      pay_pays A B d o c.args.units known.2 known.3 (omega arith) row told.0 steady v paid room refl refl,
    )
