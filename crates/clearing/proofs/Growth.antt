-- Paying and settling within what is due keeps the payments within what is due, and below all payments that cover
-- what is due under them.
use Rattle.std.proofs.Common.{◌≡◌, ℕ, zero, suc, ◌+◌, ◌<◌, ◌≤◌, false, ◌&&◌, eqb, ltb, Decides, inl, inr, le_trans, le_refl, arith}
use Rattle.std.proofs.lemmas.Bool.{cond_both, and_parts, eqb-true, cases_Bool}
use Rattle.std.proofs.lemmas.Bool.Decides.{Decides-ltb}
use Rattle.clearing.specs.Networks.{Network, Division, Payments, LawfulDivision, AtMost, estate, due}
use Rattle.clearing.specs.Settling.{nothing, receded, paid_more, settled, settle, settle_below, round, rounds}
use Rattle.clearing.proofs.Totals.{any_decides, total_le}

-- Q pays at least what is due under it
abbrev pub Covers : Network → Division → Payments → Type 0
Covers N D Q = AtMost N (due N D Q) Q

-- the invariant of a life: nobody has paid more than is due, nor anything that covering payments do not pay
pub record Good (N : Network) (D : Division) (P : Payments) : Type 0 where
  pub within : AtMost N P (due N D P)
  pub under : (Q : Payments) → Covers N D Q → AtMost N P Q

-- a step that keeps it, and lowers no entry
pub record Grown (N : Network) (D : Division) (P P' : Payments) : Type 0 where
  pub good : Good N D P'
  pub more : AtMost N P P'

module _ (N : Network) (D : Division) (law : LawfulDivision N D) where
  pub estate_le : (P Q : Payments) → AtMost N P Q → (i : ℕ) → i < N.members → estate N P i ≤ estate N Q i
  estate_le P Q h i l = omega (arith, total_le N.members (λ k. P k i) (λ k. Q k i) (λ k m. h k i m l))

  pub due_le : (P Q : Payments) → AtMost N P Q → AtMost N (due N D P) (due N D Q)
  due_le P Q h i j a b = law.monotone i (estate N P i) (estate N Q i) j a b (estate_le P Q h i a)

  -- the one step that every call is an instance of: to anything between the payments and what is due
  pub advance : (P P' : Payments) → Good N D P → AtMost N P P' → AtMost N P' (due N D P) → Grown N D P P'
  advance P P' g up low =
      record {
        good = record {
          within = λ i j a b. le_trans (low i j a b) (due_le P P' up i j a b);
          under = λ Q c i j a b. le_trans (low i j a b) (le_trans (due_le P Q (g.under Q c) i j a b) (c i j a b));
        };
        more = up;
      }

  pub stay : (P : Payments) → Good N D P → Grown N D P P
  stay P g = record { good = g; more = λ i j a b. le_refl (P i j) }

  join : (P Q R : Payments) → Grown N D P Q → Grown N D Q R → Grown N D P R
  join P Q R g h = record { good = h.good; more = λ i j a b. le_trans (g.more i j a b) (h.more i j a b) }

  pub good_nothing : Good N D nothing
  good_nothing = record { within = λ i j a b. omega arith; under = λ Q c i j a b. omega arith }

  pub settled_grows : (P : Payments) (m : ℕ) → Good N D P → Grown N D P (settled N D P m)
  settled_grows P m g =
      advance P (settled N D P m) g
      (λ i j a b. cond_both (eqb i m) (due N D P i j) (P i j) (λ x. P i j ≤ x) (λ _. g.within i j a b) (λ _. le_refl (P i j)))
      (λ i j a b. cond_both (eqb i m) (due N D P i j) (P i j) (λ x. x ≤ due N D P i j) (λ _. le_refl (due N D P i j)) (λ _. g.within i j a b))

  pub settle_grows : (P : Payments) (m : ℕ) → Good N D P → Grown N D P (settle N D P m)
  settle_grows P m g = cond_both (receded N D P m) P (settled N D P m) (Grown N D P) (λ _. stay P g) (λ _. settled_grows P m g)

  pub settle_below_grows : (k : ℕ) (P : Payments) → Good N D P → Grown N D P (settle_below N D k P)
  settle_below_grows zero P g = stay P g
  settle_below_grows (suc k) P g =
      let h : Grown N D P (settle_below N D k P) = settle_below_grows k P g in
      join P (settle_below N D k P) (settle_below N D (suc k) P) h (settle_grows (settle_below N D k P) k h.good)

  pub round_grows : (P : Payments) → Good N D P → Grown N D P (round N D P)
  round_grows P g = settle_below_grows N.members P g

  pub rounds_good : (r : ℕ) (P : Payments) → Good N D P → Good N D (rounds N D r P)
  rounds_good zero P g = g
  rounds_good (suc r) P g = (round_grows (rounds N D r P) (rounds_good r P g)).good

  pub pay_grows : (P : Payments) (d c u : ℕ) → Good N D P → P d c + u ≤ due N D P d c → Grown N D P (paid_more P d c u)
  pay_grows P d c u g room =
      advance P (paid_more P d c u) g
      (λ i j a b. cond_both (eqb i d && eqb j c) (P i j + u) (P i j) (λ x. P i j ≤ x) (λ _. omega arith) (λ _. le_refl (P i j)))
      (λ i j a b. cond_both (eqb i d && eqb j c) (P i j + u) (P i j) (λ x. x ≤ due N D P i j)
      (λ t. let both = and_parts (eqb i d) (eqb j c) t in rw (eqb-true i d both.0, eqb-true j c both.1) room)
      (λ _. g.within i j a b))

  -- nobody recedes
  pub steady : (P : Payments) (m : ℕ) → Good N D P → m < N.members → receded N D P m ≡ false
  steady P m g l = elim (cases_Bool (receded N D P m)) [
    | inl e ↦ (let w = over.0 e in absurd (omega (arith, w.2, g.within m w.0 l w.1)))
    | inr e ↦ e
  ]
    where
      over : Decides (receded N D P m) ((j : ℕ) × (j < N.members) × (due N D P m j < P m j))
      over = any_decides (λ j. ltb (due N D P m j) (P m j)) (λ j. due N D P m j < P m j) (λ j. Decides-ltb (due N D P m j) (P m j)) N.members
