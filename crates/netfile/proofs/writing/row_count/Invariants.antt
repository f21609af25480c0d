use Rattle.std.proofs.Common.{◌≡◌, count_by, nat_lt, take}
use Rattle.netfile.proofs.writing.row_count.Given as goal

abbrev pub invariant-loop-units : goal.invariant-loop-units
invariant-loop-units l = l.claims ≡ count_by (λ x. nat_lt 0 x) (take l.units-index l.row)
