-- Parts of the claims that are served in turn, each by a lawful rule, make a lawful rule.
use Rattle.std.specs.Prelude.{◌≡◌, ℕ, zero, suc, ◌+◌, ◌-◌, ◌<◌, ◌≤◌, min, List, length, sum, slice_index}
use Rattle.std.proofs.Common.{⊎_elim, ap, ◌∙◌, add-one, arith}
use Rattle.std.proofs.lemmas.List.{length-replicate}
use Rattle.std.proofs.lemmas.List.Folds.{sum_by-replicate}
use Rattle.std.proofs.lemmas.Bool.{cases_eq}
use Rattle.rules.specs.Claims.{Admitted}
use Rattle.rules.specs.InTurn.{Part, joined, earlier, share, in_turn, Splits, InTurnLawful}
use Rattle.rules.specs.Places.{plus}
use Rattle.rules.specs.Lists.{length_plus, get_or_plus, sum_plus}

module _ (p : ℕ → Part) (cs : List ℕ) where
  joined_grows : (m n k : ℕ) → m ≤ n → slice_index (joined p m cs) k ≤ slice_index (joined p n cs) k
  joined_grows m zero k le = let is : m ≡ 0 = omega arith in rw is (omega arith)
  joined_grows m (suc n) k le =
      ⊎_elim
      (λ is. rw is (omega arith))
      (λ ne. omega (arith, joined_grows m n k (omega arith), get_or_plus (joined p n cs) ((p n).portion cs) k))
      (cases_eq m (suc n))

  pub earlier_is : (n : ℕ) → earlier p n cs ≡ sum (joined p n cs)
  earlier_is zero = omega (arith, sum_by-replicate (λ x. x) (length cs) 0)
  earlier_is (suc n) = omega (arith, earlier_is n, sum_plus (joined p n cs) ((p n).portion cs))

  pub earlier_grows : (m n : ℕ) → m ≤ n → earlier p m cs ≤ earlier p n cs
  earlier_grows m zero le = let is : m ≡ 0 = omega arith in rw is (omega arith)
  earlier_grows m (suc n) le = ⊎_elim (λ is. rw is (omega arith)) (λ ne. omega (arith, earlier_grows m n (omega arith))) (cases_eq m (suc n))

module _ (p : ℕ → Part) (all : ℕ) (s : Splits p all) (cs : List ℕ) (ok : Admitted cs) where
  joined_within : (n k : ℕ) → n ≤ all → slice_index (joined p n cs) k ≤ slice_index cs k
  joined_within n k le = omega (arith, joined_grows p cs n all k le, ap (λ xs. slice_index xs k) (s.whole cs ok))

  portion_within : (n k : ℕ) → n < all → slice_index (joined p n cs) k + slice_index ((p n).portion cs) k ≤ slice_index cs k
  portion_within n k lt = omega (arith, joined_within (suc n) k lt, get_or_plus (joined p n cs) ((p n).portion cs) k)

  pub portion_admitted : (n : ℕ) → n < all → Admitted ((p n).portion cs)
  portion_admitted n lt = record {
    few = omega (arith, s.places n lt cs ok, ok.few);
    small = λ k. omega (arith, portion_within n k lt, ok.small k);
  }

  -- what part n brings each creditor
  abbrev pub brought : ℕ → ℕ → List ℕ
  brought n e = (p n).rule (share p n e cs) ((p n).portion cs)

  length_in_turn : (n e : ℕ) → n ≤ all → length (in_turn p n e cs) ≡ length cs
  length_in_turn zero e le = length-replicate (length cs) 0
  length_in_turn (suc n) e le =
      let before = length_in_turn n e (omega arith) in
      let here = (s.lawful n le).count (share p n e cs) ((p n).portion cs) (portion_admitted n le) in
      length_plus (in_turn p n e cs) (brought n e) (omega (arith, s.places n le cs ok)) ∙ before

  sum_in_turn : (n e : ℕ) → n ≤ all → sum (in_turn p n e cs) ≡ min e (sum (joined p n cs))
  sum_in_turn zero e le = omega (arith, sum_by-replicate (λ x. x) (length cs) 0)
  sum_in_turn (suc n) e le =
      omega (
        arith,
        sum_in_turn n e (omega arith),
        earlier_is p cs n,
        (s.lawful n le).total (share p n e cs) ((p n).portion cs) (portion_admitted n le),
        sum_plus (joined p n cs) ((p n).portion cs),
        sum_plus (in_turn p n e cs) (brought n e),
      )

  in_turn_within : (n e k : ℕ) → n ≤ all → slice_index (in_turn p n e cs) k ≤ slice_index (joined p n cs) k
  in_turn_within zero e k le = omega arith
  in_turn_within (suc n) e k le =
      omega (
        arith,
        in_turn_within n e k (omega arith),
        (s.lawful n le).within (share p n e cs) ((p n).portion cs) (portion_admitted n le) k,
        get_or_plus (joined p n cs) ((p n).portion cs) k,
        get_or_plus (in_turn p n e cs) (brought n e) k,
      )

  in_turn_grows : (n e more k : ℕ) → n ≤ all → e ≤ more → slice_index (in_turn p n e cs) k ≤ slice_index (in_turn p n more cs) k
  in_turn_grows zero e more k le less = omega arith
  in_turn_grows (suc n) e more k le less =
      omega (
        arith,
        in_turn_grows n e more k (omega arith) less,
        (s.lawful n le).grows (share p n e cs) (share p n more cs) ((p n).portion cs) (portion_admitted n le) (omega arith) k,
        get_or_plus (in_turn p n e cs) (brought n e) k,
        get_or_plus (in_turn p n more cs) (brought n more) k,
      )

  -- part n can be added to what the parts before it brought
  pub in_turn_fits : (n e k : ℕ) → n < all → slice_index (in_turn p n e cs) k + slice_index ((p n).portion cs) k ≤ 10000
  in_turn_fits n e k lt = omega (arith, in_turn_within n e k (omega arith), portion_within n k lt, ok.small k)

-- the step of a loop that serves part after part
pub in_turn_more :
    (p : ℕ → Part) (n e : ℕ) (cs part before after : List ℕ) (left : ℕ) →
    before ≡ in_turn p n e cs → left ≡ e - earlier p n cs → part ≡ (p n).portion cs → after ≡ plus before ((p n).rule (min left (sum part)) part) →
    after ≡ in_turn p (n + 1) e cs
in_turn_more p n e cs part before after left earlier-parts rest is served = rw (add-one, ← earlier-parts, ← rest, ← is) served

pub left_more :
    (p : ℕ → Part) (n e : ℕ) (cs part : List ℕ) (left rest : ℕ) →
    left ≡ e - earlier p n cs → part ≡ (p n).portion cs → rest ≡ left - sum part →
    rest ≡ e - earlier p (n + 1) cs
left_more p n e cs part left rest before is less = rw add-one (omega (arith, ap sum is))

pub in_turn_laws : InTurnLawful
in_turn_laws p n s = record {
  count = λ e cs ok. length_in_turn p n s cs ok n e (omega arith);
  total = λ e cs ok. omega (arith, sum_in_turn p n s cs ok n e (omega arith), ap sum (s.whole cs ok));
  within = λ e cs ok k. omega (arith, in_turn_within p n s cs ok n e k (omega arith), joined_within p n s cs ok n k (omega arith));
  grows = λ e more cs ok le k. in_turn_grows p n s cs ok n e more k (omega arith) le;
}
