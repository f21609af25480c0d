use Rattle.std.proofs.Common.{◌≡◌, ◌++◌, vec_items, length}
use Rattle.nettext.specs.Networks.{claim_lines}
use Rattle.nettext.proofs.writing.push_claims.Given as goal

abbrev pub invariant-loop-debtor : goal.invariant-loop-debtor
invariant-loop-debtor l = vec_items l.lines ≡ vec_items l.initial.lines ++ claim_lines l.figures (length l.yielded)
