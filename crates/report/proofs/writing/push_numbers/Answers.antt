use Rattle.std.proofs.Common.{◌++◌, string_bytes, ap, ◌∙◌, arith}
use Rattle.report.proofs.Printing.{trail_all, trail_more}
use Rattle.report.proofs.writing.push_numbers.Goals as goal

pub loop-n-preserved : goal.loop-n-preserved
loop-n-preserved c =
    let gap = c.in_ok-push.ensures in
    trail_more c.args.numbers.now c.loop-n.n-index _ _ _ _ (omega arith) c.loop-n.invariant
    (gap.bytes ∙ ap (λ xs. string_bytes c.loop-n.text ++ xs) (gap.ascii (omega arith))) c.in_ok-push_number.ensures

pub returns : goal.returns
returns c =
    trail_all c.args.numbers.now c.loop-n.n-index _ _ _ _ (omega arith) c.in_ok-push_str.ensures.bytes c.loop-n.invariant
