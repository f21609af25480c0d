-- The creditor that is picked comes first for the next unit.
use Rattle.std.specs.Prelude.{ℕ, zero, suc, ◌<◌, ◌≤◌, List, length, IfSome, Some, None, Option, nat_lt, slice_index}
use Rattle.std.proofs.Common.{⊎_elim, ap, arith}
use Rattle.std.proofs.lemmas.List.{get_or_past}
use Rattle.std.proofs.lemmas.Bool.{cond_both, ltb-true, ltb-false, cases_eq, cases_lt}
use Rattle.rules.specs.Standards.{Scoring}
use Rattle.rules.specs.Unit.{Below, NotAbove, First, above, next_score, better, contended, picked}
use Rattle.rules.specs.Fractions.{below_trans}

-- a creditor with a claim is in the list
pub in_list : (xs : List ℕ) (k : ℕ) → 0 < slice_index xs k → k < length xs
in_list xs k some = ⊎_elim (λ lt. lt) (λ past. absurd (omega (arith, get_or_past xs k 0 past))) (cases_lt k (length xs))

-- the first among the first n creditors; or all of them hold their claims
abbrev pub FirstOf : Scoring → List ℕ → List ℕ → ℕ → Option ℕ → Type 0
FirstOf f cs hs n None = (k : ℕ) → k < n → slice_index cs k ≤ slice_index hs k
FirstOf f cs hs n (Some j) =
    (j < n) × (slice_index hs j < slice_index cs j) ×
    ((k : ℕ) → k < n → slice_index hs k < slice_index cs k → NotAbove (next_score f cs hs k) (next_score f cs hs j)) ×
    ((k : ℕ) → k < j → slice_index hs k < slice_index cs k → Below (next_score f cs hs k) (next_score f cs hs j))

module _ (f : Scoring) (cs hs : List ℕ) where
  first_more :
      (n : ℕ) → ((k : ℕ) → k < n → (c h : ℕ) → 1 ≤ (f k c h).1) → (o : Option ℕ) → FirstOf f cs hs n o →
      FirstOf f cs hs (suc n) (contended f cs hs o n)
  first_more n positive None full =
      cond_both (nat_lt (slice_index hs n) (slice_index cs n)) (Some n) None (FirstOf f cs hs (suc n))
      (λ short. (
        omega arith,
        ltb-true _ _ short,
        (λ k lt wants. ⊎_elim (λ is. rw is (omega arith)) (λ ne. absurd (omega (arith, full k (omega arith)))) (cases_eq k n)),
        (λ k lt wants. absurd (omega (arith, full k lt))),
      ))
      (λ met k lt. ⊎_elim (λ is. rw is (ltb-false _ _ met)) (λ ne. full k (omega arith)) (cases_eq k n))
  first_more n positive (Some b) (lt-b, short-b, highest, earliest) =
      cond_both (nat_lt (slice_index hs n) (slice_index cs n)) (better f cs hs (Some b) n) (Some b) (FirstOf f cs hs (suc n))
      (λ short.
      cond_both (above (next_score f cs hs n) (next_score f cs hs b)) (Some n) (Some b) (FirstOf f cs hs (suc n))
      (λ up.
      let less : (k : ℕ) → k < n → slice_index hs k < slice_index cs k → Below (next_score f cs hs k) (next_score f cs hs n) =
      λ k lt wants. below_trans (next_score f cs hs k) (next_score f cs hs b) (next_score f cs hs n) (positive k lt _ _) (highest k lt wants) (ltb-true _ _ up) in (
        omega arith,
        ltb-true _ _ short,
        (λ k lt wants. ⊎_elim (λ is. rw is (omega arith)) (λ ne. omega (arith, less k (omega arith) wants)) (cases_eq k n)),
        less,
      ))
      (λ down. (
        omega arith,
        short-b,
        (λ k lt wants. ⊎_elim (λ is. rw is (ltb-false _ _ down)) (λ ne. highest k (omega arith) wants) (cases_eq k n)),
        earliest,
      )))
      (λ met. (
        omega arith,
        short-b,
        (λ k lt wants.
            ⊎_elim
            (λ is. absurd (omega (arith, ltb-false _ _ met, ap (λ x. slice_index hs x) is, ap (λ x. slice_index cs x) is)))
            (λ ne. highest k (omega arith) wants)
            (cases_eq k n)),
        earliest,
      ))

  -- where the scores of these n creditors are fractions
  pub first_below : (n : ℕ) → ((k : ℕ) → k < n → (c h : ℕ) → 1 ≤ (f k c h).1) → FirstOf f cs hs n (picked f cs hs n)
  first_below zero positive = λ k lt. absurd (omega arith)
  first_below (suc n) positive =
      let below : (k : ℕ) → k < n → (c h : ℕ) → 1 ≤ (f k c h).1 = λ k lt. positive k (omega arith) in
      first_more n below (picked f cs hs n) (first_below n below)

pub first_picked : (f : Scoring) (positive : (j c h : ℕ) → 1 ≤ (f j c h).1) (cs hs : List ℕ) (n : ℕ) → FirstOf f cs hs n (picked f cs hs n)
first_picked f positive cs hs n = first_below f cs hs n (λ k lt. positive k)

pub first_among_all : (f : Scoring) (cs hs : List ℕ) (o : Option ℕ) → FirstOf f cs hs (length cs) o → IfSome o (First f cs hs)
first_among_all f cs hs None full = tt
first_among_all f cs hs (Some j) (lt, short, highest, earliest) =
    record { listed = lt; short = short; highest = λ k wants. highest k (in_list cs k (omega arith)) wants; earliest = earliest }
