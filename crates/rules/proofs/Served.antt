-- Parts that are served in full, and parts that are served nothing.
use Rattle.std.specs.Prelude.{◌≡◌, ℕ, List, length, sum}
use Rattle.std.proofs.Common.{sym, arith}
use Rattle.std.proofs.lemmas.List.{ext_get_or}
use Rattle.std.proofs.lemmas.List.Sums.{get_or-le-sum_by}
use Rattle.rules.specs.Claims.{Admitted}
use Rattle.rules.specs.Laws.{Rule, Lawful}
use Rattle.rules.specs.Places.{plus}
use Rattle.rules.specs.Lists.{length_plus, get_or_plus}
use Rattle.rules.proofs.Exchange.{same_by_sum}

-- a part that is served in full brings everyone its claim
pub served_in_full : (f : Rule) → Lawful f → (part : List ℕ) → Admitted part → f (sum part) part ≡ part
served_in_full f laws part ok = same_by_sum (f (sum part) part) part (laws.count (sum part) part ok) (laws.within (sum part) part ok) (omega (arith, laws.total (sum part) part ok))

-- a part that is served nothing brings nobody a unit
pub nothing_served : (f : Rule) → Lawful f → (part awards : List ℕ) → Admitted part → length awards ≡ length part → awards ≡ plus awards (f 0 part)
nothing_served f laws part awards ok same =
    let count = laws.count 0 part ok in
    let total = laws.total 0 part ok in
    ext_get_or 0 awards (plus awards (f 0 part)) (sym (length_plus awards (f 0 part) (omega arith)))
    (λ k lt. omega (arith, get_or_plus awards (f 0 part) k, get_or-le-sum_by (λ x. x) (f 0 part) k 0 (omega arith)))
