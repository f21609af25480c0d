use Rattle.std.proofs.Common.{false, ◌++◌, get_or, refl, ap}
use Rattle.std.proofs.lemmas.Bool.{cond-true, cond-false}
use Rattle.report.specs.Sheets.{default_lines}
use Rattle.network.proofs.Growing.{grown, kept}
use Rattle.report.proofs.statement.push_defaults.Goals as goal
use Rattle.report.proofs.statement.push_defaults.Goals.{then-defaulted+in_ok-push, else-defaulted}

pub loop-member-preserved : goal.loop-member-preserved
loop-member-preserved c =
    let S = c.args.sheet.now in
    let m = c.loop-member.member in
    elim c.if-defaulted.branch [
      | then-defaulted+in_ok-push w ↦ rw w.lines-is
          (grown _ _ _ (default_lines S) m _ c.loop-member.invariant w.in_ok-push.ensures.items (ap (λ xs. default_lines S m ++ xs) (cond-true (get_or S.defaults m false) _ _ w.if-defaulted.true)))
      | else-defaulted w ↦ rw w.lines-is
          (kept _ _ _ (default_lines S) m c.loop-member.invariant refl (ap (λ xs. default_lines S m ++ xs) (cond-false (get_or S.defaults m false) _ _ w.if-defaulted.false)))
    ]
