-- Close comes to an end, and ends at a clearing matrix.
use Rattle.std.proofs.Common.{◌≡◌, ℕ, zero, suc, ◌+◌, ◌-◌, ◌<◌, ◌≤◌, true, false, cond, not, eqb, ◌⊎◌, Decides, sym, refl, ap, ◌∙◌, subst, inl, inr, le_trans, le_of_eq, le_refl, le_antisymm, arith}
use Rattle.std.proofs.lemmas.Bool.{cond_both, cond-true, cond-false, eq-eqb, cases_Bool, cases_lt, both_ways}
use Rattle.std.proofs.lemmas.Bool.Decides.{Decides-eqb, Decides-not}
use Rattle.clearing.specs.Networks.{Network, Division, Payments, LawfulDivision, AtMost, Clearing, Least, any, units_of_claims, units_paid, estate, outlay, due}
use Rattle.clearing.specs.Settling.{Closes, moved, receded, settled, settle, settle_below, round, rounds}
use Rattle.clearing.proofs.Totals.{any_decides, total_le, total_lt}
use Rattle.clearing.proofs.Growth.{Covers, Good, due_le, settle_grows, settle_below_grows, round_grows, rounds_good, steady}

module _ (N : Network) where
  pub moved_decides : (P Q : Payments) → Decides (moved N P Q) ((i : ℕ) × (i < N.members) × ((j : ℕ) × (j < N.members) × (P i j ≡ Q i j → ⊥)))
  moved_decides P Q =
      any_decides (λ i. any N.members (λ j. not (eqb (P i j) (Q i j)))) (λ i. (j : ℕ) × (j < N.members) × (P i j ≡ Q i j → ⊥))
      (λ i. any_decides (λ j. not (eqb (P i j) (Q i j))) (λ j. P i j ≡ Q i j → ⊥) (λ j. Decides-not (eqb (P i j) (Q i j)) (Decides-eqb (P i j) (Q i j))) N.members)
      N.members

  -- nothing moved and nothing fell
  pub unmoved : (P Q : Payments) → moved N P Q ≡ false → AtMost N Q P
  unmoved P Q e i j a b =
      elim (cases_lt (P i j) (Q i j)) [
        | inl s ↦ absurd (both_ways (moved N P Q) e ((moved_decides P Q).1 (i, a, (j, b, λ q. omega arith))))
        | inr s ↦ s
      ]

  pub paid_le : (P Q : Payments) → AtMost N P Q → units_paid N P ≤ units_paid N Q
  paid_le P Q h = total_le N.members (outlay N P) (outlay N Q) (λ i a. total_le N.members (P i) (Q i) (λ j b. h i j a b))

  pub paid_lt : (P Q : Payments) → AtMost N P Q → moved N P Q ≡ true → units_paid N P < units_paid N Q
  paid_lt P Q h e =
      let w = (moved_decides P Q).0 e in
      let i = w.0 in
      let v = w.2 in
      let s : P i v.0 < Q i v.0 = omega (arith, h i v.0 w.1 v.1, v.2) in
      total_lt N.members (outlay N P) (outlay N Q) (λ k a. total_le N.members (P k) (Q k) (λ j b. h k j a b)) i w.1
      (total_lt N.members (P i) (Q i) (λ j b. h i j w.1 b) v.0 v.1 s)

  -- a step counts for one unit at least, if it pays
  pub paid_step : (P Q : Payments) → AtMost N P Q → cond (moved N P Q) 1 0 + units_paid N P ≤ units_paid N Q
  paid_step P Q h =
      cond_both (moved N P Q) 1 0 (λ x. x + units_paid N P ≤ units_paid N Q) (λ e. omega (arith, paid_lt P Q h e)) (λ _. omega (arith, paid_le P Q h))

module _ (N : Network) (D : Division) (law : LawfulDivision N D) where
  pub paid_cap : (P : Payments) → Good N D P → units_paid N P ≤ units_of_claims N
  paid_cap P g = paid_le N P N.claim (λ i j a b. le_trans (g.within i j a b) (law.capped i (estate N P i) j a b))

  pub settle_own : (P : Payments) (m j : ℕ) → Good N D P → m < N.members → settle N D P m m j ≡ due N D P m j
  settle_own P m j g l =
      ap (λ (Q : Payments). Q m j) (cond-false (receded N D P m) P (settled N D P m) (steady N D law P m g l))
      ∙ cond-true (eqb m m) (due N D P m j) (P m j) (eq-eqb m m refl)

  -- what the first settles of a round made is no more than what the round made
  back : (P : Payments) → Good N D P → AtMost N (round N D P) P → (d k : ℕ) → k + d ≡ N.members → AtMost N (settle_below N D k P) P
  back P g h zero k e = let same : N.members ≡ k = omega arith in subst (λ n. AtMost N (settle_below N D n P) P) same h
  back P g h (suc d) k e = λ i j a b.
      le_trans ((settle_grows N D law (settle_below N D k P) k (settle_below_grows N D law k P g).good).more i j a b)
      (back P g h d (suc k) (omega arith) i j a b)

  -- where a round moves nothing, all that is due is paid
  pub rest_covers : (P : Payments) → Good N D P → moved N P (round N D P) ≡ false → Covers N D P
  rest_covers P g e k j a b =
      let R = settle_below N D k P in
      let up = settle_below_grows N D law k P g in
      let own : settle N D R k k j ≡ due N D R k j = settle_own R k j up.good a in
      let low : settle N D R k k j ≤ P k j = back P g (unmoved N P (round N D P) e) (N.members - suc k) (suc k) (omega arith) k j a b in
      le_trans (due_le N D law P R up.more k j a b) (rw own at low)

  pub rest_clears : (P : Payments) → Good N D P → Covers N D P → Clearing N D P
  rest_clears P g c i j a b = le_antisymm (g.within i j a b) (c i j a b)

  pub climb : (P : Payments) → Good N D P → (r : ℕ) → ((k : ℕ) → k < r → moved N (rounds N D k P) (rounds N D (suc k) P) ≡ true) → r + units_paid N P ≤ units_paid N (rounds N D r P)
  climb P g zero h = omega arith
  climb P g (suc r) h =
      let low = climb P g r (λ k l. h k (omega arith)) in
      let step = paid_lt N (rounds N D r P) (rounds N D (suc r) P) (round_grows N D law (rounds N D r P) (rounds_good N D law r P g)).more (h r (le_refl (suc r))) in
      omega (arith, low, step)

  -- among the first m rounds one moves nothing, or all move something
  found : (P : Payments) (m : ℕ) → ((k : ℕ) → k < m → moved N (rounds N D k P) (rounds N D (suc k) P) ≡ true) ⊎ ((r : ℕ) × Closes N D P r)
  found P zero = inl (λ k l. absurd (omega arith))
  found P (suc m) =
      elim (found P m) [
        | inr w ↦ inr w
        | inl h ↦
            elim (cases_Bool (moved N (rounds N D m P) (rounds N D (suc m) P))) [
              | inl e ↦ inl (λ k l.
                  elim (cases_lt k m) [
                    | inl s ↦ h k s
                    | inr s ↦ (let same : m ≡ k = omega arith in subst (λ x. moved N (rounds N D x P) (rounds N D (suc x) P) ≡ true) same e)
                  ])
              | inr e ↦ inr (m, record { moving = h; resting = e })
            ]
      ]

  pub comes_to_rest : (P : Payments) → Good N D P → (r : ℕ) × Closes N D P r
  comes_to_rest P g =
      let cap = units_of_claims N in
      elim (found P (suc cap)) [
        | inr w ↦ w
        | inl h ↦ absurd (omega (arith, climb P g (suc cap) h, paid_cap (rounds N D (suc cap) P) (rounds_good N D law (suc cap) P g)))
      ]

  -- the payments that close leaves
  pub close_least : (P : Payments) → Good N D P → (r : ℕ) → Closes N D P r → Least N D (rounds N D r P)
  close_least P g r c =
      let F = rounds N D r P in
      let good = rounds_good N D law r P g in
      record {
        clearing = rest_clears F good (rest_covers F good c.resting);
        least = λ Q q. good.under Q (λ i j a b. le_of_eq (sym (q i j a b)));
      }
