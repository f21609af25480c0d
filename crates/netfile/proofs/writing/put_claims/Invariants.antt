use Rattle.std.proofs.Common.{◌≡◌, ◌*◌}
use Rattle.netfile.specs.Files.{run, claim_bytes}
use Rattle.netfile.specs.Writes.{Put}
use Rattle.netfile.proofs.writing.put_claims.Given as goal

abbrev pub invariant-loop-debtor : goal.invariant-loop-debtor
invariant-loop-debtor l =
    (l.writer.buffer.ghost_name ≡ l.initial.writer.buffer.ghost_name)
    × Put l.initial.writer.end (run (claim_bytes l.figures) 0 (32 * l.debtor)) l.initial.writer.buffer.now l.writer.end l.writer.buffer.now
