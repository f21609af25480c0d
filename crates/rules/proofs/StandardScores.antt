-- The two standards: denominators are never 0, scores never rise, and what they are within reach.
use Rattle.std.specs.Prelude.{◌≡◌, ℕ, ◌+◌, ◌-◌, ◌<◌, ◌≤◌, Bool, true, false, cond, ◌||◌, List, nat_lt, slice_index, slice_index_or}
use Rattle.std.proofs.Common.{ap, ◌∙◌, mul-le-mul_left, arith}
use Rattle.std.proofs.lemmas.Bool.{cond_both, lt-leb, le-ltb}
use Rattle.rules.specs.Claims.{Admitted}
use Rattle.rules.specs.Standards.{Score, Scoring, out_of_reach, within_reach, equal_score, jefferson_score}
use Rattle.rules.specs.Theorems.{NeverRises, last_score}
use Rattle.rules.specs.Unit.{NotAbove, next_score}
use Rattle.rules.specs.Picks.{in_list}

reached : (f : Scoring) (creditor claim held : ℕ) → creditor < 32 → claim ≤ 10000 → held < claim → within_reach f creditor claim held ≡ f creditor claim held
reached f creditor claim held listed small short =
    rw (le-ltb 31 creditor (omega arith), le-ltb 10000 claim small, lt-leb claim held short)

lower : (none large : Bool) (w more held : ℕ) → held ≤ more → NotAbove (cond (none || (large || false)) (0, 1) (w, more)) (cond (none || (large || false)) (0, 1) (w, held))
lower true large w more held le = omega arith
lower false true w more held le = omega arith
lower false false w more held le = mul-le-mul_left w le

-- a weight, by the claim, over one more than the units held
module _ (weight : ℕ → ℕ) where
  abbrev pub over_next : Scoring
  over_next = within_reach (λ creditor claim held. (weight claim, held + 1))

  pub over_next_positive : (creditor claim held : ℕ) → 1 ≤ (over_next creditor claim held).1
  over_next_positive creditor claim held =
      cond_both {A = Score} (out_of_reach creditor claim held) (0, 1) (weight claim, held + 1) (λ s. 1 ≤ s.1) (λ _. omega arith) (λ _. omega arith)

  pub over_next_never_rises : NeverRises over_next
  over_next_never_rises creditor claim held more le short =
      rw (lt-leb claim more short, lt-leb claim held (omega arith))
      (lower (nat_lt 31 creditor) (nat_lt 10000 claim) (weight claim) (more + 1) (held + 1) (omega arith))

  module _ (cs hs : List ℕ) (ok : Admitted cs) (within : (k : ℕ) → slice_index hs k ≤ slice_index cs k) where
    pub next_is : (j : ℕ) → slice_index hs j < slice_index cs j → next_score over_next cs hs j ≡ (weight (slice_index cs j), slice_index hs j + 1)
    next_is j short =
        reached (λ creditor claim held. (weight claim, held + 1)) j (slice_index cs j) (slice_index hs j)
        (omega (arith, in_list cs j (omega arith), ok.few)) (ok.small j) short

    pub last_is : (i : ℕ) → 0 < slice_index hs i → last_score over_next cs hs i ≡ (weight (slice_index cs i), slice_index hs i)
    last_is i some =
        let held : slice_index_or hs i 0 - 1 + 1 ≡ slice_index_or hs i 0 = omega arith in
        reached (λ creditor claim held. (weight claim, held + 1)) i (slice_index cs i) (slice_index hs i - 1)
        (omega (arith, in_list cs i (omega (arith, within i)), ok.few)) (ok.small i) (omega (arith, within i)) ∙
        ap (λ h. (weight (slice_index cs i), h)) held

pub equal_positive : (creditor claim held : ℕ) → 1 ≤ (equal_score creditor claim held).1
equal_positive = over_next_positive (λ claim. 1)

pub jefferson_positive : (creditor claim held : ℕ) → 1 ≤ (jefferson_score creditor claim held).1
jefferson_positive = over_next_positive (λ claim. claim)
