-- Priority is lawful.
use Rattle.std.specs.Prelude.{◌≡◌, ℕ, zero, suc, ◌≤◌, min, List, map, length, take, sum, slice_index}
use Rattle.std.proofs.Common.{⊎_elim, subst, ap, ◌∙◌, add-one, arith}
use Rattle.std.specs.List.{range_with_len}
use Rattle.std.proofs.lemmas.List.FromFn.{sum_by-map-range_with_len_more}
use Rattle.std.proofs.lemmas.List.{take_all, get_or_past}
use Rattle.std.proofs.lemmas.List.Sums.{sum_by_more}
use Rattle.std.proofs.lemmas.Bool.{cases_lt}
use Rattle.rules.specs.Laws.{Lawful}
use Rattle.rules.specs.Priority.{priority_award, priority}
use Rattle.rules.specs.Lists.{length_each, get_or_each}

-- the first n creditors together get the lesser of the estate and their claims
first_total : (e : ℕ) (cs : List ℕ) (n : ℕ) → n ≤ length cs → sum (map (priority_award e cs) (range_with_len 0 n)) ≡ min e (sum (take n cs))
first_total e cs zero le = omega arith
first_total e cs (suc n) le =
    let more = sum_by-map-range_with_len_more (λ x. x) (priority_award e cs) 0 n n (omega arith) in
    let claim = sum_by_more (λ x. x) cs n 0 le in
    let before = first_total e cs n (omega arith) in
    subst (λ m. sum (map (priority_award e cs) (range_with_len 0 m)) ≡ min e (sum (take m cs))) (add-one n) (omega arith)

-- past the list there is no claim, and so no award
pub award_at : (e : ℕ) (cs : List ℕ) (k : ℕ) → slice_index (priority e cs) k ≡ priority_award e cs k
award_at e cs k =
    ⊎_elim
    (λ lt. get_or_each cs (priority_award e cs) k lt)
    (λ past. omega (arith, get_or_past (priority e cs) k 0 (omega (arith, length_each cs (priority_award e cs))), get_or_past cs k 0 past))
    (cases_lt k (length cs))

pub priority_within : (e : ℕ) (cs : List ℕ) (k : ℕ) → slice_index (priority e cs) k ≤ slice_index cs k
priority_within e cs k = omega (arith, award_at e cs k)

pub priority_laws : Lawful priority
priority_laws = record {
  count = λ e cs ok. length_each cs (priority_award e cs);
  total = λ e cs ok. first_total e cs (length cs) (omega arith) ∙ ap (λ xs. min e (sum xs)) (take_all (length cs) cs (omega arith));
  within = λ e cs ok. priority_within e cs;
  grows = λ e more cs ok le k. omega (arith, award_at e cs k, award_at more cs k);
}
