use Rattle.std.proofs.Common.{◌≡◌, ◌≤◌, length, None, subst, arith, rules}
use Rattle.std.proofs.lemmas.List.{length-append}
use Rattle.std.proofs.lemmas.Bool.{le-ltb}
use Rattle.netfile.specs.Files.{network_record, members_of, claims_of, members_to, end_record, file_of}
use Rattle.netfile.specs.Writes.{short_fault, Written}
use Rattle.netfile.proofs.Files.{length_file}
use Rattle.netfile.proofs.Puts.{put_room, members_put, claims_put, file_put}
use Rattle.netfile.proofs.Unique.{one_file}
use Rattle.netfile.proofs.writing.write.Goals as goal

pub put-requires : goal.put-requires
put-requires c = omega (arith, length_file c.figures-figures.result.now)

pub put_members-requires : goal.put_members-requires
put_members-requires c =
    let f = c.figures-figures.result.now in
    put_room (members_of f) c.put.ensures.put (omega (arith, length_file f))

pub put_claims-requires : goal.put_claims-requires
put_claims-requires c =
    let f = c.figures-figures.result.now in
    let room : length (file_of f) ≤ length c.args.buffer.now = omega arith in
    let members = members_put f room c.put.ensures.put c.put_members.ensures.put in
    put_room (claims_of f) members (omega (arith, length_file f, length-append (network_record f.n) (members_of f)))

pub put-requires-2 : goal.put-requires-2
put-requires-2 c =
    let f = c.figures-figures.result.now in
    let room : length (file_of f) ≤ length c.args.buffer.now = omega arith in
    let members = members_put f room c.put.ensures.put c.put_members.ensures.put in
    let claims = claims_put f room members c.put_claims.ensures.put in
    let l = length-append (network_record f.n) (members_of f) in
    put_room end_record claims (omega (arith, length_file f, l, length-append (members_to f f.n) (claims_of f)))

pub returns-then-buffer-file_length-clause-sole : goal.returns-then-buffer-file_length-clause-sole
returns-then-buffer-file_length-clause-sole c = λ g e. one_file g c.args.draft.now.figures e

pub returns-clause-written : goal.returns-clause-written
returns-clause-written c =
    let f = c.figures-figures.result.now in
    let xs = c.args.buffer.now in
    let end = c.put-2.new.self.end in
    let now = c.put-2.new.self.buffer.now in
    let room : length (file_of f) ≤ length xs = omega arith in
    let members = members_put f room c.put.ensures.put c.put_members.ensures.put in
    let claims = claims_put f room members c.put_claims.ensures.put in
    let done = file_put f room claims c.put-2.ensures.put in
    let fits : short_fault f xs ≡ None = rw (le-ltb (length xs) (length (file_of f)) room) in
    let both = subst (λ g. (short_fault g xs ≡ None) × Written g xs end now) c.figures-figures.ensures (fits, done) in
    (both.0, search (rules, both.1))

pub returns-clause-sole : goal.returns-clause-sole
returns-clause-sole c = λ g e. one_file g c.args.draft.now.figures e
