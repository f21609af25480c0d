use Rattle.std.proofs.Common.{arith}
use Rattle.std.proofs.lemmas.List.{length-append}
use Rattle.netfile.specs.Files.{network_record, members_of}
use Rattle.netfile.proofs.Cells.{few_claims, length_claims}
use Rattle.netfile.proofs.Files.{length_file, length_members}
use Rattle.netfile.proofs.writing.file_length.Goals as goal

pub overflow_mul-claims : goal.overflow_mul-claims
overflow_mul-claims c = rw c.record_length-2.ensures (omega (arith, c.claim_count.ensures, few_claims c.args.figures.now))

pub overflow_add-result-2 : goal.overflow_add-result-2
overflow_add-result-2 c =
    let f = c.args.figures.now in
    rw (c.record_length-2.ensures, c.record_length.ensures) (omega (arith, c.record_length-3.ensures, c.claim_count.ensures, few_claims f, f.few))

pub overflow_add-result-3 : goal.overflow_add-result-3
overflow_add-result-3 c =
    let f = c.args.figures.now in
    rw (c.record_length-2.ensures, c.record_length.ensures)
    (omega (arith, c.record_length-3.ensures, c.record_length-4.ensures, c.claim_count.ensures, few_claims f, f.few))

pub returns : goal.returns
returns c =
    let f = c.args.figures.now in
    let l = length-append (network_record f.n) (members_of f) in
    rw (c.record_length-2.ensures, c.record_length.ensures)
    (omega (arith, c.record_length-3.ensures, c.record_length-4.ensures, c.claim_count.ensures, length_file f, length_claims f, length_members f f.n, l))
