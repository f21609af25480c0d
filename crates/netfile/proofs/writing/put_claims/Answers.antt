use Rattle.std.proofs.Common.{◌+◌, ◌*◌, [], length, get_or, sym, refl, ap, ◌∙◌, arith}
use Rattle.std.proofs.lemmas.List.{length-append}
use Rattle.netfile.specs.Files.{run, row_of, claim_bytes}
use Rattle.netfile.proofs.Files.{rows_more}
use Rattle.netfile.proofs.Puts.{put_as, put_none, put_room, put_then}
use Rattle.netfile.proofs.Runs.{run_room}
use Rattle.netfile.proofs.writing.put_claims.Goals as goal

pub loop-debtor-init : goal.loop-debtor-init
unfolding run
loop-debtor-init c = (refl, put_none c.args.writer.now.end c.args.writer.now.buffer.now)

pub put_row-requires : goal.put_row-requires
put_row-requires c =
    let f = c.args.figures.now in
    let F = claim_bytes f in
    let i = c.loop-debtor.debtor in
    let row = row_of i (get_or f.claims i []) in
    let room = run_room F (32 * (i + 1)) 1024 (omega (arith, f.rows)) in
    let more = ap length (rows_more f i) ∙ length-append (run F 0 (32 * i)) row in
    put_room row c.loop-debtor.invariant.1 (omega (arith, room, more, c.requires))

pub loop-debtor-preserved : goal.loop-debtor-preserved
loop-debtor-preserved c =
    let f = c.args.figures.now in
    let i = c.loop-debtor.debtor in
    let room = run_room (claim_bytes f) (32 * i) 1024 (omega (arith, f.rows)) in (
      c.put_row.ensures.same ∙ c.loop-debtor.invariant.0,
      put_as (put_then c.loop-debtor.invariant.1 c.put_row.ensures.put (omega (arith, room, c.requires))) (sym (rows_more f i)) refl refl,
    )
