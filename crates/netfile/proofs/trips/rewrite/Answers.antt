use Rattle.netfile.proofs.RoundTrips.{written_again}
use Rattle.netfile.proofs.trips.rewrite.Goals as goal

pub returns : goal.returns
returns c =
    written_again c.load.new.draft.figures c.args.file.now c.args.buffer.now c.write.new.buffer c.write.result
    c.in_ok-load.ensures.loaded.1 c.write.ensures.written
