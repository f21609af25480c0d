-- Priority is the one division in which the creditors are paid in the order of their numbers.
use Rattle.std.proofs.Common.{ℕ, ◌+◌, ◌<◌, ◌≤◌, List, length, get_or, take, sum, sym, ap, ◌∙◌, ⊎_elim, arith}
use Rattle.std.proofs.lemmas.List.{take-take}
use Rattle.std.proofs.lemmas.List.Sums.{sum_by_more, sum_by-take-le}
use Rattle.std.proofs.lemmas.Bool.{cases_lt, cases_eq}
use Rattle.rules.specs.Priority.{priority}
use Rattle.rules.specs.Theorems.{Only, InOrder}
use Rattle.rules.proofs.Exchange.{same_unless}
use Rattle.rules.specs.Picks.{in_list}
use Rattle.rules.specs.PriorityLaws.{award_at, priority_within, priority_laws}

-- the claims of a creditor and of those before it are claims before any later one
claims_before : (cs : List ℕ) (i j : ℕ) → i < j → i < length cs → sum (take i cs) + get_or cs i 0 ≤ sum (take j cs)
claims_before cs i j lt listed =
    let front = ap sum (take-take (i + 1) j cs (omega arith)) in
    omega (arith, sum_by_more (λ x. x) cs i 0 listed, sum_by-take-le (λ x. x) (take j cs) (i + 1))

priority_in_order : (e : ℕ) (cs : List ℕ) → InOrder cs (priority e cs)
priority_in_order e cs i j lt some =
    let in-j : j < length cs = in_list cs j (omega (arith, priority_within e cs j)) in
    omega (arith, award_at e cs j, award_at e cs i, claims_before cs i j lt (omega arith))

never_both : (cs bs hs : List ℕ) → ((k : ℕ) → get_or bs k 0 ≤ get_or cs k 0) → ((k : ℕ) → get_or hs k 0 ≤ get_or cs k 0) → InOrder cs bs → InOrder cs hs → (i j : ℕ) → get_or bs i 0 < get_or hs i 0 → get_or hs j 0 < get_or bs j 0 → ⊥
never_both cs bs hs within_b within-h order-b order-h i j more less =
    ⊎_elim
    (λ is. omega (arith, ap (λ k. get_or bs k 0) is, ap (λ k. get_or hs k 0) is))
    (λ ne.
    ⊎_elim
    (λ lt. omega (arith, order-b i j lt (omega arith), within-h i))
    (λ le. omega (arith, order-h j i (omega arith) (omega arith), within_b j))
    (cases_lt i j))
    (cases_eq i j)

pub priority_only : Only priority InOrder
priority_only = record {
  holds = λ e cs ok. priority_in_order e cs;
  alone = λ e cs hs ok d order.
      sym (same_unless (priority e cs) hs (priority_laws.count e cs ok ∙ sym d.count) (priority_laws.total e cs ok ∙ sym d.total)
      (never_both cs (priority e cs) hs (priority_laws.within e cs ok) d.within (priority_in_order e cs) order));
}
