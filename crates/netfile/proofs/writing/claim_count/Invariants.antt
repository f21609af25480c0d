use Rattle.std.proofs.Common.{◌≡◌, count_by, nat_lt, take}
use Rattle.std.specs.List.{flat_map}
use Rattle.netfile.proofs.writing.claim_count.Given as goal

abbrev pub invariant-loop-row : goal.invariant-loop-row
invariant-loop-row l = l.claims ≡ count_by (λ x. nat_lt 0 x) (flat_map (λ row. row) (take l.row-index l.figures.claims))
