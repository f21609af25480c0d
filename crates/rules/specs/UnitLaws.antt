-- The unit rule is lawful, whatever the standard.
use Rattle.std.specs.Prelude.{◌≡◌, ℕ, zero, suc, ◌+◌, ◌<◌, ◌≤◌, min, List, length, Some, None, sum, Option, slice_index}
use Rattle.std.proofs.Common.{⊎_elim, sym, ◌∙◌, arith}
use Rattle.std.proofs.lemmas.List.{length-set, get_or-set_same, get_or-set_other, length-replicate}
use Rattle.std.proofs.lemmas.List.Folds.{sum_by-replicate}
use Rattle.std.proofs.lemmas.List.Sums.{sum_by-set}
use Rattle.std.proofs.lemmas.Bool.{cases_eq}
use Rattle.rules.specs.Laws.{Lawful}
use Rattle.rules.specs.Standards.{Scoring}
use Rattle.rules.specs.Unit.{picked, raised, dealt, unit_rule}
use Rattle.rules.specs.Lists.{sum_le, get_or_zeros}
use Rattle.rules.specs.Picks.{FirstOf, first_picked}

module _ (f : Scoring) (cs hs : List ℕ) (same : length hs ≡ length cs) where
  length_raised : (o : Option ℕ) → length (raised hs o) ≡ length cs
  length_raised None = same
  length_raised (Some j) = length-set hs j _ ∙ same

  raised_within : (o : Option ℕ) → FirstOf f cs hs (length cs) o → ((k : ℕ) → slice_index hs k ≤ slice_index cs k) → (k : ℕ) → slice_index (raised hs o) k ≤ slice_index cs k
  raised_within None _ le k = le k
  raised_within (Some j) (lt, short, _, _) le k =
      ⊎_elim
      (λ is. rw is (omega (arith, get_or-set_same hs j (slice_index hs j + 1) 0 (omega arith))))
      (λ ne. omega (arith, le k, get_or-set_other hs j k (slice_index hs j + 1) 0 ne))
      (cases_eq k j)

  raised_grows : (o : Option ℕ) → FirstOf f cs hs (length cs) o → (k : ℕ) → slice_index hs k ≤ slice_index (raised hs o) k
  raised_grows None _ k = omega arith
  raised_grows (Some j) (lt, short, _, _) k =
      ⊎_elim
      (λ is. rw is (omega (arith, get_or-set_same hs j (slice_index hs j + 1) 0 (omega arith))))
      (λ ne. omega (arith, get_or-set_other hs j k (slice_index hs j + 1) 0 ne))
      (cases_eq k j)

  sum_raised : (o : Option ℕ) → FirstOf f cs hs (length cs) o → sum hs < sum cs → sum (raised hs o) ≡ sum hs + 1
  sum_raised None full less = absurd (omega (arith, sum_le cs hs (sym same) full))
  sum_raised (Some j) (lt, short, _, _) less = omega (arith, sum_by-set (λ x. x) hs j (slice_index hs j + 1) 0 (omega arith))

module _ (f : Scoring) (positive : (j c h : ℕ) → 1 ≤ (f j c h).1) (cs : List ℕ) where
  -- whom the unit after the first n goes to
  abbrev pub next_pick : ℕ → Option ℕ
  next_pick n = picked f cs (dealt f cs n) (length cs)

  pub next_first : (n : ℕ) → FirstOf f cs (dealt f cs n) (length cs) (next_pick n)
  next_first n = first_picked f positive cs (dealt f cs n) (length cs)

  pub length_dealt : (n : ℕ) → length (dealt f cs n) ≡ length cs
  length_dealt zero = length-replicate (length cs) 0
  length_dealt (suc n) = length_raised f cs (dealt f cs n) (length_dealt n) (next_pick n)

  pub dealt_within : (n k : ℕ) → slice_index (dealt f cs n) k ≤ slice_index cs k
  dealt_within zero k = omega (arith, get_or_zeros (length cs) k)
  dealt_within (suc n) k = raised_within f cs (dealt f cs n) (length_dealt n) (next_pick n) (next_first n) (dealt_within n) k

  dealt_grows : (m n k : ℕ) → m ≤ n → slice_index (dealt f cs m) k ≤ slice_index (dealt f cs n) k
  dealt_grows m zero k le = let is : m ≡ 0 = omega arith in rw is (omega arith)
  dealt_grows m (suc n) k le =
      ⊎_elim
      (λ is. rw is (omega arith))
      (λ ne. omega (arith, dealt_grows m n k (omega arith), raised_grows f cs (dealt f cs n) (length_dealt n) (next_pick n) (next_first n) k))
      (cases_eq m (suc n))

  pub sum_dealt : (n : ℕ) → n ≤ sum cs → sum (dealt f cs n) ≡ n
  sum_dealt zero le = omega (arith, sum_by-replicate (λ x. x) (length cs) 0)
  sum_dealt (suc n) le =
      let before : sum (dealt f cs n) ≡ n = sum_dealt n (omega arith) in
      omega (arith, sum_raised f cs (dealt f cs n) (length_dealt n) (next_pick n) (next_first n) (omega arith))

pub unit_laws : (f : Scoring) → ((j c h : ℕ) → 1 ≤ (f j c h).1) → Lawful (unit_rule f)
unit_laws f positive = record {
  count = λ e cs ok. length_dealt f positive cs (min e (sum cs));
  total = λ e cs ok. sum_dealt f positive cs (min e (sum cs)) (omega arith);
  within = λ e cs ok. dealt_within f positive cs (min e (sum cs));
  grows = λ e more cs ok le k. dealt_grows f positive cs (min e (sum cs)) (min more (sum cs)) k (omega arith);
}
