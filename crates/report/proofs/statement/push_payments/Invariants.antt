use Rattle.std.proofs.Common.{◌≡◌, ◌++◌, vec_items}
use Rattle.report.specs.Sheets.{paid_lines}
use Rattle.report.proofs.statement.push_payments.Given as goal

abbrev pub invariant-loop-debtor : goal.invariant-loop-debtor
invariant-loop-debtor l = vec_items l.lines ≡ vec_items l.initial.lines ++ paid_lines l.sheet l.debtor
