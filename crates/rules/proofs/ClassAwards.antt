-- What a creditor gets hangs on its own class and the claims of the lower ones.
use Rattle.std.proofs.Common.{◌≡◌, ℕ, zero, suc, ◌-◌, ◌<◌, ◌≤◌, min, cond, ltb, List, length, get_or, sum, sym, ap, ◌∙◌, ⊎_elim, arith}
use Rattle.std.proofs.lemmas.List.{ext_get_or}
use Rattle.std.proofs.lemmas.List.Sums.{get_or-le-sum_by}
use Rattle.std.proofs.lemmas.Bool.{cond-true, lt-ltb, le-ltb, ne_eqb, cases_eq}
use Rattle.std.proofs.lemmas.Bool.Decides.{nat_tests}
use Rattle.rules.specs.Claims.{Admitted}
use Rattle.rules.specs.Classes.{of_class, class_part, by_class}
use Rattle.rules.specs.InTurn.{Part, joined, earlier, share, in_turn}
use Rattle.rules.specs.Laws.{Rule, Lawful}
use Rattle.rules.specs.Places.{each}
use Rattle.rules.specs.Theorems.{lower_claim, lower_claims, class_share, ByClass}
use Rattle.rules.specs.ClassLaws.{length_of_class, get_or_of_class, length_joined, get_or_joined}
use Rattle.rules.proofs.DualAwards.{paid_in_full}
use Rattle.rules.specs.InTurnLaws.{earlier_is, earlier_grows}
use Rattle.rules.specs.Lists.{length_each, get_or_each, get_or_plus, get_or_zeros}
use Rattle.rules.specs.Picks.{in_list}

pub class_admitted : (ts : List ℕ) (t : ℕ) (cs : List ℕ) → Admitted cs → Admitted (of_class ts t cs)
class_admitted ts t cs ok = record {
  few = omega (arith, length_of_class ts t cs, ok.few);
  small = λ k. let claim = get_or_of_class ts t cs k in let small = ok.small k in grind (arith, nat_tests);
}

module _ (ts : List ℕ) (f : Rule) (low : (k : ℕ) → get_or ts k 0 ≤ 7) (laws : Lawful f) (cs : List ℕ) (ok : Admitted cs) where
  abbrev parts : ℕ → Part
  parts = class_part ts f

  abbrev brought : ℕ → ℕ → List ℕ
  brought t e = f (share parts t e cs) (of_class ts t cs)

  -- a class brings nothing to creditors of another
  nothing_else : (t e k : ℕ) → (get_or ts k 0 ≡ t → ⊥) → get_or (brought t e) k 0 ≡ 0
  nothing_else t e k ne =
      let other = ne_eqb (get_or ts k 0) t ne in
      let claim = get_or_of_class ts t cs k in
      let none : get_or (of_class ts t cs) k 0 ≡ 0 = grind (arith, nat_tests) in
      omega (arith, laws.within (share parts t e cs) (of_class ts t cs) (class_admitted ts t cs ok) k)

  so_far : (n e k : ℕ) → n ≤ 8 → get_or (in_turn parts n e cs) k 0 ≡ cond (ltb (get_or ts k 0) n) (get_or (brought (get_or ts k 0) e) k 0) 0
  so_far zero e k le = rw (le-ltb (get_or ts k 0) 0 (omega arith)) (get_or_zeros (length cs) k)
  so_far (suc n) e k le =
      let both = get_or_plus (in_turn parts n e cs) (brought n e) k in
      let before = so_far n e k (omega arith) in
      ⊎_elim
      (λ is.
      let here = ap (λ t. get_or (brought t e) k 0) is in
      grind (arith, nat_tests))
      (λ ne.
      let other = nothing_else n e k ne in
      grind (arith, nat_tests))
      (cases_eq (get_or ts k 0) n)

  earlier_are_lower : (t : ℕ) → earlier parts t cs ≡ lower_claims ts t cs
  earlier_are_lower t =
      earlier_is parts cs t ∙
      ap sum (ext_get_or 0 (joined parts t cs) (each cs (lower_claim ts t cs))
      (length_joined ts f cs t ∙ sym (length_each cs (lower_claim ts t cs)))
      (λ k lt. get_or_joined ts f cs t k ∙ sym (get_or_each cs (lower_claim ts t cs) k (omega (arith, length_joined ts f cs t)))))

  class_award : (e k : ℕ) → get_or (by_class ts f e cs) k 0 ≡ get_or (brought (get_or ts k 0) e) k 0
  class_award e k =
      so_far 8 e k (omega arith) ∙
      cond-true (ltb (get_or ts k 0) 8) (get_or (brought (get_or ts k 0) e) k 0) 0 (lt-ltb (get_or ts k 0) 8 (omega (arith, low k)))

  shares : (t e : ℕ) → share parts t e cs ≡ class_share ts t e cs
  shares t e = ap (λ x. min (e - x) (sum (of_class ts t cs))) (earlier_are_lower t)

  -- whoever gets a unit is of a class that is served something
  served : (e j : ℕ) → 0 < get_or (by_class ts f e cs) j 0 → earlier parts (get_or ts j 0) cs < e
  served e j some =
      let t : ℕ = get_or ts j 0 in
      let s : ℕ = share parts t e cs in
      let ok-t = class_admitted ts t cs ok in
      let listed = in_list (brought t e) j (omega (arith, class_award e j)) in
      omega (arith, class_award e j, get_or-le-sum_by (λ x. x) (brought t e) j 0 listed, laws.total s (of_class ts t cs) ok-t)

  lower_full : (e i j : ℕ) → get_or ts i 0 < get_or ts j 0 → 0 < get_or (by_class ts f e cs) j 0 → get_or (by_class ts f e cs) i 0 ≡ get_or cs i 0
  lower_full e i j less some =
      let t : ℕ = get_or ts i 0 in
      let ok-t = class_admitted ts t cs ok in
      let enough : sum (of_class ts t cs) ≤ share parts t e cs = omega (arith, served e j some, earlier_grows parts cs (suc t) (get_or ts j 0) (omega arith)) in
      let full = ap (λ xs. get_or xs i 0) (paid_in_full f laws (share parts t e cs) (of_class ts t cs) ok-t enough) in
      let own = get_or_of_class ts t cs i in
      let award = class_award e i in
      grind (arith, nat_tests)

pub classes_apart : (ts : List ℕ) (f : Rule) → ((k : ℕ) → get_or ts k 0 ≤ 7) → Lawful f → ByClass ts f
classes_apart ts f low laws = record {
  award = λ e cs ok k. class_award ts f low laws cs ok e k ∙ ap (λ s. get_or (f s (of_class ts (get_or ts k 0) cs)) k 0) (shares ts f low laws cs ok (get_or ts k 0) e);
  order = λ e cs ok. lower_full ts f low laws cs ok e;
}
