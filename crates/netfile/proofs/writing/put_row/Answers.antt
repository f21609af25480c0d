use Rattle.std.proofs.Common.{ℕ, ◌+◌, List, length, get_or, sym, refl, ap, ◌∙◌, arith}
use Rattle.netfile.specs.declared.writer.Writer.{Writer}
use Rattle.netfile.specs.Files.{run, row_bytes}
use Rattle.netfile.proofs.Files.{claim_none, claim_some}
use Rattle.netfile.proofs.Puts.{put_as, put_none, put_room, put_more, put_skip}
use Rattle.netfile.proofs.Runs.{run_room, length_more}
use Rattle.netfile.proofs.writing.put_row.Goals as goal
use Rattle.netfile.proofs.writing.put_row.Goals.{then-units-gt0, else-units-gt0}

pub loop-creditor-init : goal.loop-creditor-init
unfolding run
loop-creditor-init c = (refl, put_none c.args.writer.now.end c.args.writer.now.buffer.now)

pub put-requires : goal.put-requires
put-requires c =
    let F = row_bytes c.args.debtor c.args.row.now in
    let j = c.loop-creditor.creditor in
    let room = run_room F (j + 1) 32 (omega arith) in
    let long = ap length (claim_some c.args.debtor j (get_or c.args.row.now j 0) c.if-units-gt0.true) in
    put_room c.claim_record.result c.loop-creditor.invariant.1 (omega (arith, room, length_more F j, c.requires, ap length c.claim_record.ensures, long))

pub loop-creditor-preserved : goal.loop-creditor-preserved
loop-creditor-preserved c =
    let i = c.args.debtor in
    let row = c.args.row.now in
    let F = row_bytes i row in
    let j = c.loop-creditor.creditor in
    let before = c.loop-creditor.invariant in
    let room = run_room F j 32 (omega arith) in
    let name = λ (x : Writer). x.buffer.ghost_name in
    let end : Writer → ℕ = λ x. x.end in
    let bytes : Writer → List ℕ = λ x. x.buffer.now in
    elim c.if-units-gt0.branch [
      | then-units-gt0 w ↦
          let is = w.claim_record.ensures ∙ sym (claim_some i j (get_or row j 0) w.if-units-gt0.true) in (
            ap name w.writer-is ∙ (w.put.ensures.same ∙ before.0),
            put_more F before.1 (put_as w.put.ensures.put is (ap end w.writer-is) (ap bytes w.writer-is)) (omega (arith, room, c.requires)),
          )
      | else-units-gt0 w ↦ (
        ap name w.writer-is ∙ before.0,
        put_as (put_skip F (claim_none i j (get_or row j 0) w.if-units-gt0.false) before.1) refl (ap end w.writer-is) (ap bytes w.writer-is),
      )
    ]
