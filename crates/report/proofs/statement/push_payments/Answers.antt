use Rattle.std.proofs.Common.{refl}
use Rattle.report.specs.Sheets.{paid_lines}
use Rattle.network.proofs.Growing.{grown}
use Rattle.report.proofs.statement.push_payments.Goals as goal

pub loop-debtor-preserved : goal.loop-debtor-preserved
loop-debtor-preserved c = grown _ _ _ (paid_lines c.args.sheet.now) c.loop-debtor.debtor _ c.loop-debtor.invariant c.in_ok-push_row.ensures refl
