use Rattle.std.proofs.Common.{◌≡◌, eqb, ◌++◌, [], ◌∷◌, get_or, length, refl, sym, ap, ◌∙◌, arith}
use Rattle.std.specs.List.{zip, range_with_len}
use Rattle.std.proofs.lemmas.Bool.{cond-true, cond-false, eq-eqb, ne_eqb}
use Rattle.std.proofs.lemmas.List.{append-nil}
use Rattle.std.proofs.lemmas.List.FromFn.{length-range_with_len}
use Rattle.std.proofs.lemmas.Slice.Zip.{length-zip}
use Rattle.std.proofs.lemmas.Iterator.{YieldsList-from_range, YieldsList-from_slice, YieldsList-from_zip}
use Rattle.std.proofs.lemmas.Iterator.Consumers.{YieldsList-at, YieldsList-turn, YieldsList-end}
use Rattle.report.proofs.Rows.{claim_pushed}
use Rattle.report.specs.Sheets.{row_lines}
use Rattle.report.specs.declared.line.Line.TheVariants.{Paid}
use Rattle.report.proofs.statement.push_row.Goals as goal

pub loop-creditor-preserved-in-Continue-1 : goal.loop-creditor-preserved-in-Continue-1
loop-creditor-preserved-in-Continue-1 c =
    let S = c.args.sheet.now in
    let n = S.figures.n in
    let claims = get_or S.figures.claims c.args.debtor [] in
    let paid = get_or S.paid c.args.debtor [] in
    let m = c.in-Some.creditor in
    let claim = c.in-Some.claim.now in
    let units = c.in-Some.units.now in
    let turn = YieldsList-turn
    (YieldsList-at c.into_iter-creditor-iterator.ensures.into_iter_gives
    (YieldsList-from_zip (YieldsList-at c.zip-creditor-items.ensures.first (YieldsList-from_range 0 n n refl (omega arith)))
    (YieldsList-at c.zip-creditor-items.ensures.second (YieldsList-from_zip (YieldsList-at c.zip.ensures.first (YieldsList-from_slice claims c.iter.ensures.rest)) (YieldsList-at c.zip.ensures.second (YieldsList-from_slice paid c.iter-2.ensures.rest))))))
    c.loop-creditor.yielded c.loop-creditor.creditor-iterator c.loop-creditor.yielded_by c.next.result c.next.new.self (m, (c.in-Some.claim, c.in-Some.units)) c.in-Some.is c.next.ensures.steps in
    claim_pushed S c.args.debtor c.args.lines.now.items c.loop-creditor.lines.items _ c.loop-creditor.yielded _ (m, (claim, units)) (omega (arith, c.iter.ensures.len, S.figures.few)) (omega (arith, c.iter-2.ensures.len, S.figures.few)) turn c.loop-creditor.invariant
    (c.in_ok-push.ensures.items ∙ ap (λ ys. c.loop-creditor.lines.items ++ ys) (sym (cond-false (eqb claim 0) [] (Paid c.args.debtor m units ∷ []) (ne_eqb claim 0 c.if-claim-ne0.true))))

pub loop-creditor-preserved : goal.loop-creditor-preserved
loop-creditor-preserved c =
    let S = c.args.sheet.now in
    let n = S.figures.n in
    let claims = get_or S.figures.claims c.args.debtor [] in
    let paid = get_or S.paid c.args.debtor [] in
    let m = c.in-Some.creditor in
    let claim = c.in-Some.claim.now in
    let units = c.in-Some.units.now in
    let turn = YieldsList-turn
    (YieldsList-at c.into_iter-creditor-iterator.ensures.into_iter_gives
    (YieldsList-from_zip (YieldsList-at c.zip-creditor-items.ensures.first (YieldsList-from_range 0 n n refl (omega arith)))
    (YieldsList-at c.zip-creditor-items.ensures.second (YieldsList-from_zip (YieldsList-at c.zip.ensures.first (YieldsList-from_slice claims c.iter.ensures.rest)) (YieldsList-at c.zip.ensures.second (YieldsList-from_slice paid c.iter-2.ensures.rest))))))
    c.loop-creditor.yielded c.loop-creditor.creditor-iterator c.loop-creditor.yielded_by c.next.result c.next.new.self (m, (c.in-Some.claim, c.in-Some.units)) c.in-Some.is c.next.ensures.steps in
    claim_pushed S c.args.debtor c.args.lines.now.items c.loop-creditor.lines.items _ c.loop-creditor.yielded _ (m, (claim, units)) (omega (arith, c.iter.ensures.len, S.figures.few)) (omega (arith, c.iter-2.ensures.len, S.figures.few)) turn c.loop-creditor.invariant
    (sym (append-nil c.loop-creditor.lines.items) ∙ ap (λ ys. c.loop-creditor.lines.items ++ ys) (sym (cond-true (eqb claim 0) [] (Paid c.args.debtor m units ∷ []) (eq-eqb claim 0 c.if-claim-ne0.false))))

pub returns : goal.returns
returns c =
    let S = c.args.sheet.now in
    let n = S.figures.n in
    let claims = get_or S.figures.claims c.args.debtor [] in
    let paid = get_or S.paid c.args.debtor [] in
    let end = YieldsList-end
    (YieldsList-at c.into_iter-creditor-iterator.ensures.into_iter_gives
    (YieldsList-from_zip (YieldsList-at c.zip-creditor-items.ensures.first (YieldsList-from_range 0 n n refl (omega arith)))
    (YieldsList-at c.zip-creditor-items.ensures.second (YieldsList-from_zip (YieldsList-at c.zip.ensures.first (YieldsList-from_slice claims c.iter.ensures.rest)) (YieldsList-at c.zip.ensures.second (YieldsList-from_slice paid c.iter-2.ensures.rest))))))
    c.loop-creditor.yielded c.loop-creditor.creditor-iterator c.loop-creditor.yielded_by c.next.result c.next.new.self c.in-None.is c.next.ensures.steps in
    let all : length (zip (range_with_len 0 n) (zip claims paid)) ≡ n =
    rw length-zip rw length-zip rw length-range_with_len omega (arith, c.iter.ensures.len, c.iter-2.ensures.len, S.figures.few) in
    c.loop-creditor.invariant ∙ ap (λ m. c.args.lines.now.items ++ row_lines S c.args.debtor m) (end.1 ∙ all)
