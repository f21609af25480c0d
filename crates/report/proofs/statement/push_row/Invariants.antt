use Rattle.std.proofs.Common.{◌≡◌, ◌++◌, vec_items, length}
use Rattle.report.specs.Sheets.{row_lines}
use Rattle.report.proofs.statement.push_row.Given as goal

abbrev pub invariant-loop-creditor : goal.invariant-loop-creditor
invariant-loop-creditor l = vec_items l.lines ≡ vec_items l.initial.lines ++ row_lines l.sheet l.debtor (length l.yielded)
