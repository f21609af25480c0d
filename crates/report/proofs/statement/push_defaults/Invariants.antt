use Rattle.std.proofs.Common.{◌≡◌, ◌++◌, vec_items}
use Rattle.report.specs.Sheets.{default_lines}
use Rattle.report.proofs.statement.push_defaults.Given as goal

abbrev pub invariant-loop-member : goal.invariant-loop-member
invariant-loop-member l = vec_items l.lines ≡ vec_items l.initial.lines ++ default_lines l.sheet l.member
