-- Reverse priority is the dual of priority, and so it is lawful.
use Rattle.std.specs.Prelude.{◌≡◌, ℕ, suc, ◌+◌, ◌<◌, List, length, take, drop, sum, slice_index}
use Rattle.std.proofs.Common.{sym, ap, ◌∙◌, add-one, arith}
use Rattle.std.proofs.lemmas.List.{ext_get_or}
use Rattle.std.proofs.lemmas.List.Sums.{sum_by-take-drop, sum_by-drop_more}
use Rattle.rules.specs.Dual.{shortfall, dual}
use Rattle.rules.specs.Laws.{Lawful}
use Rattle.rules.specs.Priority.{priority_award, priority}
use Rattle.rules.specs.DualLaws.{dual_laws}
use Rattle.rules.specs.Lists.{length_each, get_or_each, length_minus, get_or_minus}
use Rattle.rules.specs.PriorityLaws.{priority_laws}
use Rattle.other_rule.specs.Reverse.{reverse_award, reverse_priority, DualOfPriority}

-- the claims of the creditors before k, of k and of those after it
claims_around : (cs : List ℕ) (k : ℕ) → k < length cs → sum (take k cs) + (slice_index cs k + sum (drop (suc k) cs)) ≡ sum cs
claims_around cs k lt =
    omega (arith, sum_by-take-drop (λ x. x) cs k, sum_by-drop_more (λ x. x) cs k 0 lt, ap (λ n. sum (drop n cs)) (add-one k))

pub dual_of_priority : DualOfPriority
dual_of_priority e cs =
    let x : ℕ = shortfall e cs in
    ext_get_or 0 (reverse_priority e cs) (dual priority e cs) (length_each cs (reverse_award e cs) ∙ sym (length_minus cs (priority x cs)))
    (λ k lt.
    let listed : k < length cs = omega (arith, length_each cs (reverse_award e cs)) in
    omega (
      arith,
      get_or_each cs (reverse_award e cs) k listed,
      get_or_minus cs (priority x cs) k,
      get_or_each cs (priority_award x cs) k listed,
      claims_around cs k listed,
    ))

pub reverse_laws : Lawful reverse_priority
reverse_laws =
    let laws = dual_laws priority priority_laws in
    record {
      count = λ e cs ok. rw (dual_of_priority e cs) (laws.count e cs ok);
      total = λ e cs ok. rw (dual_of_priority e cs) (laws.total e cs ok);
      within = λ e cs ok k. rw (dual_of_priority e cs) (laws.within e cs ok k);
      grows = λ e more cs ok le k. rw (dual_of_priority e cs, dual_of_priority more cs) (laws.grows e more cs ok le k);
    }
