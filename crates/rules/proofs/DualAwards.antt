-- What a rule awards, its dual withholds.
use Rattle.std.proofs.Common.{◌≡◌, ℕ, ◌≤◌, min, List, length, get_or, sum, sym, ap, ◌∙◌, subst, ⊎_elim, arith}
use Rattle.std.proofs.lemmas.List.{ext_get_or}
use Rattle.std.proofs.lemmas.Bool.{cases_lt}
use Rattle.rules.specs.Claims.{Admitted}
use Rattle.rules.specs.Dual.{shortfall, dual}
use Rattle.rules.specs.Laws.{Rule, Lawful}
use Rattle.rules.specs.Places.{minus}
use Rattle.rules.specs.Theorems.{Divides, Only, DualOf}
use Rattle.rules.proofs.Exchange.{same_by_sum}
use Rattle.rules.specs.Lists.{length_minus, get_or_minus, sum_minus}

minus_minus : (cs hs : List ℕ) → length hs ≡ length cs → ((k : ℕ) → get_or hs k 0 ≤ get_or cs k 0) → minus cs (minus cs hs) ≡ hs
minus_minus cs hs same within =
    ext_get_or 0 (minus cs (minus cs hs)) hs (length_minus cs (minus cs hs) ∙ sym same)
    (λ k lt. omega (arith, get_or_minus cs (minus cs hs) k, get_or_minus cs hs k, within k))

-- an estate that meets all claims pays them in full
pub paid_in_full : (f : Rule) → Lawful f → (e : ℕ) (cs : List ℕ) → Admitted cs → sum cs ≤ e → f e cs ≡ cs
paid_in_full f laws e cs ok enough = same_by_sum (f e cs) cs (laws.count e cs ok) (laws.within e cs ok) (omega (arith, laws.total e cs ok))

-- what is above the claims total makes no difference
capped : (f : Rule) → Lawful f → (e : ℕ) (cs : List ℕ) → Admitted cs → f (min e (sum cs)) cs ≡ f e cs
capped f laws e cs ok =
    ⊎_elim
    (λ lt. let is : min e (sum cs) ≡ e = omega arith in ap (λ x. f x cs) is)
    (λ le. paid_in_full f laws (min e (sum cs)) cs ok (omega arith) ∙ sym (paid_in_full f laws e cs ok le))
    (cases_lt e (sum cs))

module _ (f : Rule) (laws : Lawful f) where
  losses : (e : ℕ) (cs : List ℕ) → Admitted cs → minus cs (dual f e cs) ≡ f (shortfall e cs) cs
  losses e cs ok = minus_minus cs (f (shortfall e cs) cs) (laws.count (shortfall e cs) cs ok) (laws.within (shortfall e cs) cs ok)

  pub dual_of : DualOf f
  dual_of = record {
    losses = losses;
    twice = λ e cs ok.
        let same : shortfall (shortfall e cs) cs ≡ min e (sum cs) = omega arith in
        losses (shortfall e cs) cs ok ∙ ap (λ x. f x cs) same ∙ capped f laws e cs ok;
  }

  divides_losses : (e : ℕ) (cs hs : List ℕ) → Divides e cs hs → Divides (shortfall e cs) cs (minus cs hs)
  divides_losses e cs hs d = record {
    count = length_minus cs hs;
    total = omega (arith, sum_minus cs hs d.count d.within, d.total);
    within = λ k. omega (arith, get_or_minus cs hs k);
  }

  -- what sets the rule apart sets its dual apart when it is said of the losses
  pub dual_only : (P : List ℕ → List ℕ → Type 0) → Only f P → Only (dual f) (λ cs hs. P cs (minus cs hs))
  dual_only P only = record {
    holds = λ e cs ok. subst (P cs) (sym (losses e cs ok)) (only.holds (shortfall e cs) cs ok);
    alone = λ e cs hs ok d has.
        sym (minus_minus cs hs d.count d.within) ∙
        ap (minus cs) (only.alone (shortfall e cs) cs (minus cs hs) ok (divides_losses e cs hs d) has);
  }
