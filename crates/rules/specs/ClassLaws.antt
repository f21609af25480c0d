-- The claims by class are a split of the claims, so classes over a lawful rule are lawful.
use Rattle.std.specs.Prelude.{◌≡◌, ℕ, zero, suc, ◌≤◌, List, length, nat_lt, slice_index}
use Rattle.std.proofs.Common.{⊎_elim, sym, ◌∙◌, arith}
use Rattle.std.proofs.lemmas.List.{ext_get_or, get_or_past, length-replicate}
use Rattle.std.proofs.lemmas.Bool.{cond-true, lt-ltb, le-ltb, cases_lt}
use Rattle.std.proofs.lemmas.Bool.Decides.{nat_tests}
use Rattle.rules.specs.Classes.{class_claim, of_class, class_part, by_class}
use Rattle.rules.specs.InTurn.{joined, Splits}
use Rattle.rules.specs.Laws.{Rule, Lawful}
use Rattle.rules.specs.Theorems.{lower_claim}
use Rattle.rules.specs.InTurnLaws.{in_turn_laws}
use Rattle.rules.specs.Lists.{length_each, get_or_each, length_plus, get_or_plus, get_or_zeros}

pub length_of_class : (ts : List ℕ) (t : ℕ) (cs : List ℕ) → length (of_class ts t cs) ≡ length cs
length_of_class ts t cs = length_each cs (class_claim ts t cs)

pub get_or_of_class : (ts : List ℕ) (t : ℕ) (cs : List ℕ) (k : ℕ) → slice_index (of_class ts t cs) k ≡ class_claim ts t cs k
get_or_of_class ts t cs k =
    ⊎_elim
    (λ lt. get_or_each cs (class_claim ts t cs) k lt)
    (λ past.
    let none = get_or_past (of_class ts t cs) k 0 (omega (arith, length_of_class ts t cs)) in
    let no-claim = get_or_past cs k 0 past in
    grind (arith, nat_tests))
    (cases_lt k (length cs))

module _ (ts : List ℕ) (f : Rule) (cs : List ℕ) where
  pub length_joined : (n : ℕ) → length (joined (class_part ts f) n cs) ≡ length cs
  length_joined zero = length-replicate (length cs) 0
  length_joined (suc n) = length_plus (joined (class_part ts f) n cs) (of_class ts n cs) (length_joined n ∙ sym (length_of_class ts n cs)) ∙ length_joined n

  -- the claims of the classes below n
  pub get_or_joined : (n k : ℕ) → slice_index (joined (class_part ts f) n cs) k ≡ lower_claim ts n cs k
  get_or_joined zero k = rw (le-ltb (slice_index ts k) 0 (omega arith)) (get_or_zeros (length cs) k)
  get_or_joined (suc n) k =
      let both = get_or_plus (joined (class_part ts f) n cs) (of_class ts n cs) k in
      let before = get_or_joined n k in
      let here = get_or_of_class ts n cs k in
      grind (arith, nat_tests)

pub class_splits : (ts : List ℕ) (f : Rule) → ((k : ℕ) → slice_index ts k ≤ 7) → Lawful f → Splits (class_part ts f) 8
class_splits ts f low lawful = record {
  places = λ t lt cs ok. length_of_class ts t cs;
  whole = λ cs ok.
      ext_get_or 0 (joined (class_part ts f) 8 cs) cs (length_joined ts f cs 8)
      (λ k lt. get_or_joined ts f cs 8 k ∙ cond-true (nat_lt (slice_index ts k) 8) (slice_index cs k) 0 (lt-ltb (slice_index ts k) 8 (omega (arith, low k))));
  lawful = λ t lt. lawful;
}

pub class_laws : (ts : List ℕ) (f : Rule) → ((k : ℕ) → slice_index ts k ≤ 7) → Lawful f → Lawful (by_class ts f)
class_laws ts f low lawful = in_turn_laws (class_part ts f) 8 (class_splits ts f low lawful)
