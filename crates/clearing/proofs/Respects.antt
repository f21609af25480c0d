-- Settling and closing do alike to payments with equal entries: what stands outside the members is never read.
use Rattle.std.proofs.Common.{◌≡◌, ℕ, zero, suc, ◌+◌, ◌<◌, ◌≤◌, Bool, true, false, cond, not, ◌&&◌, ◌||◌, eqb, ltb, Decides, sym, refl, ap, ◌∙◌, subst, ap₂, inl, inr, le_trans, le_of_eq, le_refl, arith}
use Rattle.std.proofs.lemmas.Bool.{cases_Bool, cases_eq, cond-true, cond-false, eq-eqb, ne_eqb}
use Rattle.clearing.specs.Networks.{Network, Division, Payments, Equal, Least, any, estate, due}
use Rattle.clearing.specs.Settling.{moved, receded, settled, settle, settle_below, round, would_pay}
use Rattle.clearing.proofs.Growth.{Good}
use Rattle.std.proofs.lemmas.Bool.Decides.{same_from_decides, Decides-eqb, Decides-not}
use Rattle.clearing.proofs.Totals.{any_decides, total_eq}
use Rattle.clearing.proofs.Closing.{moved_decides}

pub any_eq : (n : ℕ) (p q : ℕ → Bool) → ((k : ℕ) → k < n → p k ≡ q k) → any n p ≡ any n q
any_eq zero p q h = refl
any_eq (suc n) p q h = ap₂ ◌||◌ (h n (le_refl (suc n))) (any_eq n p q (λ k l. h k (omega arith)))

cond_eq : (b c : Bool) (x x' y y' : ℕ) → b ≡ c → x ≡ x' → y ≡ y' → cond b x y ≡ cond c x' y'
cond_eq b c x x' y y' e f g = cc

cond_at : (b : Bool) (X Y : Payments) (i j : ℕ) → cond b X Y i j ≡ cond b (X i j) (Y i j)
cond_at true X Y i j = refl
cond_at false X Y i j = refl

pub moved_none : (N : Network) (P : Payments) → moved N P P ≡ false
moved_none N P = elim (cases_Bool (moved N P P)) [ inl e ↦ absurd (((moved_decides N P P).0 e).2.2 refl) | inr e ↦ e ]

module _ (N : Network) where
  pub cond_equal : (b c : Bool) (X X' Y Y' : Payments) → b ≡ c → Equal N X X' → Equal N Y Y' → Equal N (cond b X Y) (cond c X' Y')
  cond_equal b c X X' Y Y' e f g i j l m = cond_at b X Y i j ∙ cond_eq b c (X i j) (X' i j) (Y i j) (Y' i j) e (f i j l m) (g i j l m) ∙ sym (cond_at c X' Y' i j)

  pub moved_eq : (P P' Q Q' : Payments) → Equal N P P' → Equal N Q Q' → moved N P Q ≡ moved N P' Q'
  moved_eq P P' Q Q' e f =
      any_eq N.members (λ i. any N.members (λ j. not (eqb (P i j) (Q i j)))) (λ i. any N.members (λ j. not (eqb (P' i j) (Q' i j))))
      (λ i a. any_eq N.members (λ j. not (eqb (P i j) (Q i j))) (λ j. not (eqb (P' i j) (Q' i j))) (λ j b. ap₂ (λ x y. not (eqb x y)) (e i j a b) (f i j a b)))

module _ (N : Network) (D : Division) where
  pub estate_eq : (P Q : Payments) → Equal N P Q → (i : ℕ) → i < N.members → estate N P i ≡ estate N Q i
  estate_eq P Q e i a = ap (λ x. N.endowment i + x) (total_eq N.members (λ k. P k i) (λ k. Q k i) (λ k b. e k i b a))

  pub due_eq : (P Q : Payments) → Equal N P Q → Equal N (due N D P) (due N D Q)
  due_eq P Q e i j a b = ap (λ E. D i E j) (estate_eq P Q e i a)

  pub receded_eq : (P Q : Payments) → Equal N P Q → (m : ℕ) → m < N.members → receded N D P m ≡ receded N D Q m
  receded_eq P Q e m a = any_eq N.members (λ j. ltb (due N D P m j) (P m j)) (λ j. ltb (due N D Q m j) (Q m j)) (λ j b. ap₂ ltb (due_eq P Q e m j a b) (e m j a b))

  pub settle_eq : (P Q : Payments) → Equal N P Q → (m : ℕ) → m < N.members → Equal N (settle N D P m) (settle N D Q m)
  settle_eq P Q e m l =
      cond_equal N (receded N D P m) (receded N D Q m) P Q (settled N D P m) (settled N D Q m) (receded_eq P Q e m l) e
      (λ i j a b. cond_eq (eqb i m) (eqb i m) (due N D P i j) (due N D Q i j) (P i j) (Q i j) refl (due_eq P Q e i j a b) (e i j a b))

  pub settle_below_eq : (k : ℕ) → k ≤ N.members → (P Q : Payments) → Equal N P Q → Equal N (settle_below N D k P) (settle_below N D k Q)
  settle_below_eq zero l P Q e = e
  settle_below_eq (suc k) l P Q e = settle_eq (settle_below N D k P) (settle_below N D k Q) (settle_below_eq k (omega arith) P Q e) k l

  pub round_eq : (P Q : Payments) → Equal N P Q → Equal N (round N D P) (round N D Q)
  round_eq P Q e = settle_below_eq N.members (le_refl N.members) P Q e

  pub good_eq : (P Q : Payments) → Equal N P Q → Good N D P → Good N D Q
  good_eq P Q e g =
      record {
        within = λ i j a b. le_trans (le_of_eq (sym (e i j a b))) (le_trans (g.within i j a b) (le_of_eq (due_eq P Q e i j a b)));
        under = λ R c i j a b. le_trans (le_of_eq (sym (e i j a b))) (g.under R c i j a b);
      }

  pub least_eq : (P Q : Payments) → Equal N P Q → Least N D P → Least N D Q
  least_eq P Q e l =
      record {
        clearing = λ i j a b. sym (e i j a b) ∙ l.clearing i j a b ∙ due_eq P Q e i j a b;
        least = λ R r i j a b. le_trans (le_of_eq (sym (e i j a b))) (l.least R r i j a b);
      }

  -- what a settle changes stands in its row
  pub moved_settled : (P : Payments) (m : ℕ) → m < N.members → moved N P (settled N D P m) ≡ any N.members (λ j. not (eqb (P m j) (due N D P m j)))
  moved_settled P m l = same_from_decides (moved N P (settled N D P m)) (any N.members (λ j. not (eqb (P m j) (due N D P m j)))) whole row
    where
      Off : Type 0
      Off = (j : ℕ) × (j < N.members) × (P m j ≡ due N D P m j → ⊥)

      row : Decides (any N.members (λ j. not (eqb (P m j) (due N D P m j)))) Off
      row = any_decides (λ j. not (eqb (P m j) (due N D P m j))) (λ j. P m j ≡ due N D P m j → ⊥) (λ j. Decides-not (eqb (P m j) (due N D P m j)) (Decides-eqb (P m j) (due N D P m j))) N.members

      own : (i j : ℕ) → i ≡ m → settled N D P m i j ≡ due N D P i j
      own i j e = cond-true (eqb i m) (due N D P i j) (P i j) (eq-eqb i m e)

      whole : Decides (moved N P (settled N D P m)) Off
      whole = (
        λ e. (let w = (moved_decides N P (settled N D P m)).0 e in
            let v = w.2 in
            let i = w.0 in
            elim (cases_eq i m) [
              | inl s ↦ (v.0, v.1, λ q. v.2 (subst (λ k. P k v.0 ≡ due N D P k v.0) (sym s) q ∙ sym (own i v.0 s)))
              | inr s ↦ absurd (v.2 (sym (cond-false (eqb i m) (due N D P i v.0) (P i v.0) (ne_eqb i m s))))
            ]),
        λ w. (moved_decides N P (settled N D P m)).1 (m, l, (w.0, w.1, λ q. w.2 (q ∙ own m w.0 refl))),
      )

  -- how a program tells whether a settle would pay
  pub would_pay_test : (P : Payments) (m : ℕ) → m < N.members → would_pay N D P m ≡ (not (receded N D P m) && any N.members (λ j. not (eqb (P m j) (due N D P m j))))
  would_pay_test P m l = go (receded N D P m)
    where
      go : (b : Bool) → moved N P (cond b P (settled N D P m)) ≡ (not b && any N.members (λ j. not (eqb (P m j) (due N D P m j))))
      go true = moved_none N P
      go false = moved_settled P m l
