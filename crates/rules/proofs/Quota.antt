-- Jefferson's awards leave nobody a whole unit short of its proportional share.
use Rattle.std.proofs.Common.{◌≡◌, ℕ, zero, suc, ◌+◌, ◌*◌, ◌<◌, ◌≤◌, List, [], ◌∷◌, length, get_or, sum, ⊎_elim, mul_comm, add-mul, mul-le-mul, mul-add, arith}
use Rattle.std.proofs.lemmas.List.Sums.{sum_by-cons}
use Rattle.std.proofs.lemmas.Bool.{cases_lt}
use Rattle.rules.specs.Claims.{Admitted}
use Rattle.rules.specs.Standards.{jefferson_score}
use Rattle.rules.specs.Theorems.{Proportionate, LowerQuota}
use Rattle.rules.specs.Unit.{jefferson}
use Rattle.rules.specs.Picks.{in_list}
use Rattle.rules.proofs.StandardAwards.{jefferson_only}
use Rattle.rules.proofs.StandardScores.{jefferson_positive}
use Rattle.rules.specs.UnitLaws.{unit_laws}

-- an inequality that holds at each place holds of the sums
module _ (x y : ℕ) where
  in_all : (hs cs : List ℕ) → length hs ≡ length cs → ((k : ℕ) → x * get_or hs k 0 ≤ get_or cs k 0 * y) → x * sum hs ≤ sum cs * y
  in_all [] [] same le = omega arith
  in_all [] (c ∷ cs) same le = absurd (omega arith)
  in_all (h ∷ hs) [] same le = absurd (omega arith)
  in_all (h ∷ hs) (c ∷ cs) same le =
      rw (sum_by-cons (λ x. x) h hs, sum_by-cons (λ x. x) c cs)
      (omega (arith, mul-add x h (sum hs), add-mul c (sum cs) y, le 0, in_all hs cs (omega arith) (λ k. le (suc k))))

  in_all_strictly :
      (hs cs : List ℕ) (j : ℕ) → length hs ≡ length cs → j < length cs → ((k : ℕ) → x * get_or hs k 0 ≤ get_or cs k 0 * y) → x * get_or hs j 0 < get_or cs j 0 * y →
      x * sum hs < sum cs * y
  in_all_strictly [] [] j same lt le less = absurd (omega arith)
  in_all_strictly [] (c ∷ cs) j same lt le less = absurd (omega arith)
  in_all_strictly (h ∷ hs) [] j same lt le less = absurd (omega arith)
  in_all_strictly (h ∷ hs) (c ∷ cs) zero same lt le less =
      rw (sum_by-cons (λ x. x) h hs, sum_by-cons (λ x. x) c cs)
      (omega (arith, mul-add x h (sum hs), add-mul c (sum cs) y, less, in_all hs cs (omega arith) (λ k. le (suc k))))
  in_all_strictly (h ∷ hs) (c ∷ cs) (suc j) same lt le less =
      rw (sum_by-cons (λ x. x) h hs, sum_by-cons (λ x. x) c cs)
      (omega (arith, mul-add x h (sum hs), add-mul c (sum cs) y, le 0, in_all_strictly hs cs j (omega arith) (omega arith) (λ k. le (suc k)) less))

quota : (cs hs : List ℕ) → length hs ≡ length cs → ((k : ℕ) → get_or hs k 0 ≤ get_or cs k 0) → Proportionate cs hs → LowerQuota cs hs
quota cs hs same within even k some =
    let x : ℕ = get_or cs k 0 in
    let y : ℕ = get_or hs k 0 + 1 in
    let each : (j : ℕ) → x * get_or hs j 0 ≤ get_or cs j 0 * y =
    λ j.
    ⊎_elim
    (λ held.
    ⊎_elim
    (λ short. (even j k held short).0)
    (λ full. rw (mul_comm x (get_or hs j 0)) (mul-le-mul (within j) (omega arith)))
    (cases_lt (get_or hs k 0) (get_or cs k 0)))
    (λ (none : get_or hs j 0 ≤ 0). let is : get_or hs j 0 ≡ 0 = omega arith in rw is (omega arith))
    (cases_lt 0 (get_or hs j 0)) in
    let own : x * get_or hs k 0 < get_or cs k 0 * y = omega (arith, mul-add x (get_or hs k 0) 1) in
    rw (mul_comm (get_or hs k 0 + 1) (sum cs)) (in_all_strictly x y hs cs k same (in_list cs k some) each own)

pub jefferson_quota : (e : ℕ) (cs : List ℕ) → Admitted cs → LowerQuota cs (jefferson e cs)
jefferson_quota e cs ok =
    let laws = unit_laws jefferson_score jefferson_positive in
    quota cs (jefferson e cs) (laws.count e cs ok) (laws.within e cs ok) (jefferson_only.holds e cs ok)
