use Rattle.std.proofs.Common.{◌≡◌, ◌+◌, length, refl, ap, ◌∙◌, arith}
use Rattle.std.proofs.lemmas.List.{get_or-take}
use Rattle.network.specs.Limits.{nobody}
use Rattle.netfile.specs.Files.{run, member_record, member_bytes}
use Rattle.netfile.proofs.Puts.{put_as, put_none, put_room, put_more}
use Rattle.netfile.proofs.Runs.{run_room, length_more}
use Rattle.netfile.proofs.writing.put_members.Goals as goal

pub loop-member-init : goal.loop-member-init
unfolding run
loop-member-init c = (refl, put_none c.args.writer.now.end c.args.writer.now.buffer.now)

pub put-requires : goal.put-requires
put-requires c =
    let F = member_bytes c.args.figures.now in
    let i = c.loop-member.member in
    let room = run_room F (i + 1) c.args.figures.now.n (omega arith) in
    put_room c.member_record.result c.loop-member.invariant.1 (omega (arith, room, length_more F i, c.requires, ap length c.member_record.ensures))

pub loop-member-preserved : goal.loop-member-preserved
loop-member-preserved c =
    let f = c.args.figures.now in
    let F = member_bytes f in
    let i = c.loop-member.member in
    let room = run_room F i f.n (omega arith) in
    let is : c.member_record.result ≡ F i = c.member_record.ensures ∙ ap (member_record i) (get_or-take f.n f.members i nobody (omega arith)) in (
      c.put.ensures.same ∙ c.loop-member.invariant.0,
      put_more F c.loop-member.invariant.1 (put_as c.put.ensures.put is refl refl) (omega (arith, room, c.requires)),
    )
