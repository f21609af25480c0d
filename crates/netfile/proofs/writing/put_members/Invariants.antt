use Rattle.std.proofs.Common.{◌≡◌}
use Rattle.netfile.specs.Files.{run, member_bytes}
use Rattle.netfile.specs.Writes.{Put}
use Rattle.netfile.proofs.writing.put_members.Given as goal

abbrev pub invariant-loop-member : goal.invariant-loop-member
invariant-loop-member l =
    (l.writer.buffer.ghost_name ≡ l.initial.writer.buffer.ghost_name)
    × Put l.initial.writer.end (run (member_bytes l.figures) 0 l.member) l.initial.writer.buffer.now l.writer.end l.writer.buffer.now
