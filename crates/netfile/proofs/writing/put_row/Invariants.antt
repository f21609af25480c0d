use Rattle.std.proofs.Common.{◌≡◌}
use Rattle.netfile.specs.Files.{run, row_bytes}
use Rattle.netfile.specs.Writes.{Put}
use Rattle.netfile.proofs.writing.put_row.Given as goal

abbrev pub invariant-loop-creditor : goal.invariant-loop-creditor
invariant-loop-creditor l =
    (l.writer.buffer.ghost_name ≡ l.initial.writer.buffer.ghost_name)
    × Put l.initial.writer.end (run (row_bytes l.debtor l.row) 0 l.creditor) l.initial.writer.buffer.now l.writer.end l.writer.buffer.now
