-- The turns of a round: each member settles, or is passed over.
use Rattle.std.proofs.Common.{◌≡◌, ℕ, zero, suc, ◌+◌, ◌-◌, ◌<◌, ◌≤◌, Bool, true, false, cond, eqb, ltb, Ok, Err, sym, refl, ap, ◌∙◌, subst, ap₂, inl, inr, le_trans, le_refl, arith}
use Rattle.std.proofs.lemmas.Bool.{cases_lt, cases_eq, both_ways, cond_both, cond-true, cond-false, eq-eqb, ne_eqb, eqb-true, lt-ltb}
use Rattle.network.specs.declared.fault.Fault.{Fault}
use Rattle.network.specs.declared.figures.Figures.{Figures}
use Rattle.clearing.specs.Networks.{Network, Division, Payments, AtMost, Equal, total, any, outlay, units_paid, due}
use Rattle.clearing.specs.Settling.{receded, settled, settle, settle_below, passed_over}
use Rattle.clearing.proofs.Totals.{any_decides, total_le, total_eq, total_more, total_cap}
use Rattle.clearing.proofs.Respects.{receded_eq, settle_below_eq}
use Rattle.clearing.proofs.Loops.{settle_more}
use Rattle.book.specs.Tables.{network_of}
use Rattle.book.specs.Rulebooks.{Meaning, division}
use Rattle.book.specs.Views.{net_of, payments_of, division_of, receded_in}
use Rattle.book.specs.Calls.{Settles, GoesRound}
use Rattle.book.specs.declared.book.Book.{Book}
use Rattle.book.proofs.Cases.{settle_steady, settle_receded}

-- sums that differ in one part
pub total_one : (n : ℕ) (f g : ℕ → ℕ) (m : ℕ) → m < n → ((k : ℕ) → k < n → (k ≡ m → ⊥) → f k ≡ g k) → total n f + g m ≡ total n g + f m
total_one zero f g m l h = absurd (omega arith)
total_one (suc n) f g m l h =
    elim (cases_eq n m) [
      | inl e ↦ omega (arith, total_eq n f g (λ k b. h k (omega arith) (λ q. omega arith)), ap f e, ap g e)
      | inr e ↦ omega (arith, total_one n f g m (omega arith) (λ k b q. h k (omega arith) q), h n (le_refl (suc n)) e)
    ]

module _ (N : Network) (D : Division) where
  -- who has not receded has paid no more than is due
  pub unreceded : (P : Payments) (m j : ℕ) → receded N D P m ≡ false → j < N.members → P m j ≤ due N D P m j
  unreceded P m j f l =
      let test : ℕ → Bool = λ j. ltb (due N D P m j) (P m j) in
      elim (cases_lt (due N D P m j) (P m j)) [
        | inl s ↦ absurd (both_ways (any N.members test) f ((any_decides test (λ k. test k ≡ true) (λ k. (λ h. h, λ h. h)) N.members).1 (j, l, lt-ltb (due N D P m j) (P m j) s)))
        | inr s ↦ s
      ]

  -- a settle lowers nothing, whatever was paid before
  settle_raises : (P : Payments) (m : ℕ) → AtMost N P (settle N D P m)
  settle_raises P m =
      cond_both (receded N D P m) P (settled N D P m) (λ Q. AtMost N P Q) (λ _ i j a b. le_refl (P i j))
      (λ f i j a b. cond_both (eqb i m) (due N D P i j) (P i j) (λ x. P i j ≤ x)
      (λ e. let is = eqb-true i m e in omega (arith, unreceded P m j f b, ap (λ k. P k j) is, ap (λ k. due N D P k j) is))
      (λ _. le_refl (P i j)))

  pub settle_below_raises : (k : ℕ) (P : Payments) → AtMost N P (settle_below N D k P)
  settle_below_raises zero P i j a b = le_refl (P i j)
  settle_below_raises (suc k) P i j a b = le_trans (settle_below_raises k P i j a b) (settle_raises (settle_below N D k P) k i j a b)

  -- the units that a settle moves
  settled_sum : (P Q : Payments) (m : ℕ) → m < N.members → receded N D P m ≡ false → Equal N Q (settled N D P m) → (outlay N (due N D P) m - outlay N P m) + units_paid N P ≡ units_paid N Q
  settled_sum P Q m l f same =
      omega (
        arith,
        total_le N.members (P m) (due N D P m) (λ j b. unreceded P m j f b),
        total_eq N.members (Q m) (due N D P m) (λ j b. same m j l b ∙ cond-true (eqb m m) (due N D P m j) (P m j) (eq-eqb m m refl)),
        total_one N.members (outlay N Q) (outlay N P) m l
            (λ k b ne. total_eq N.members (Q k) (P k) (λ j c. same k j b c ∙ cond-false (eqb k m) (due N D P k j) (P k j) (ne_eqb k m ne))),
      )

  pub passed_eq : (P Q : Payments) → Equal N P Q → passed_over N D P ≡ passed_over N D Q
  passed_eq P Q e =
      total_eq N.members (λ k. cond (receded N D (settle_below N D k P) k) 1 0) (λ k. cond (receded N D (settle_below N D k Q) k) 1 0)
      (λ k l. ap {B = ℕ} (λ t. cond t 1 0) (receded_eq N D (settle_below N D k P) (settle_below N D k Q) (settle_below_eq N D k (omega arith) P Q e) k l))

  pub paid_eq : (P Q : Payments) → Equal N P Q → units_paid N P ≡ units_paid N Q
  paid_eq P Q e = total_eq N.members (outlay N P) (outlay N Q) (λ i a. total_eq N.members (P i) (Q i) (λ j b. e i j a b))

-- all that a book holds
pub paid_cap : (F : Figures) (B : Book) → B.figures ≡ F → units_paid (network_of F) (payments_of B) ≤ 10240000
paid_cap F B e =
    let low : (i j : ℕ) → payments_of B i j ≤ 10000 = λ i j. le_trans (B.capped i j) (B.figures.small i j) in
    let rows : (i : ℕ) → i < F.n → outlay (network_of F) (payments_of B) i ≤ 320000 = λ i _. omega (arith, total_cap F.n (payments_of B i) 10000 (λ j _. low i j), F.few) in
    omega (arith, total_cap F.n (outlay (network_of F) (payments_of B)) 320000 rows, F.few)

-- the members below m have had their turn, since the payments were P: u units moved, p members passed over
pub record Turned (A : Meaning) (F : Figures) (P : Payments) (m u p : ℕ) (B : Book) : Type 0 where
  pub figures : B.figures ≡ F
  pub payments : Equal (network_of F) (payments_of B) (settle_below (network_of F) (division A F) m P)
  pub units : u + units_paid (network_of F) P ≡ units_paid (network_of F) (payments_of B)
  pub passed : p ≡ total m (λ k. cond (receded (network_of F) (division A F) (settle_below (network_of F) (division A F) k P) k) 1 0)
  pub few : p ≤ m

module _ (A : Meaning) (F : Figures) (P : Payments) (m units passed : ℕ) (B B' : Book) (t : Turned A F P m units passed B) (l : m < F.n) where
  abbrev N : Network
  N = network_of F

  abbrev D : Division
  D = division A F

  Q : Payments
  Q = payments_of B

  inside : m < B.figures.n
  inside = omega (arith, ap (λ (X : Figures). X.n) t.figures)

  at_home : receded_in A B m ≡ receded N D (payments_of B) m
  at_home = ap (λ (X : Figures). receded (network_of X) (division A X) (payments_of B) m) t.figures

  turn : (x : Bool) → receded N D (payments_of B) m ≡ x → total (m + 1) (λ k. cond (receded N D (settle_below N D k P) k) 1 0) ≡ passed + cond x 1 0
  turn x e =
      total_more m (λ k. cond (receded N D (settle_below N D k P) k) 1 0)
      ∙ ap₂ ◌+◌ (sym t.passed) (ap {B = ℕ} (λ b. cond b 1 0) (sym (receded_eq N D (payments_of B) (settle_below N D m P) t.payments m l) ∙ e))

  pub turn_pays : (u : ℕ) → Settles A B m (Ok u) B' → Turned A F P (m + 1) (units + u) passed B'
  turn_pays u s =
      let row = s.1 in
      let steady : receded N D (payments_of B) m ≡ false = sym at_home ∙ settle_steady A B m inside s.0 in
      let now : Equal N (payments_of B') (settled N D (payments_of B) m) =
      subst (λ (X : Figures). Equal (network_of X) (payments_of B') (settled (network_of X) (division A X) (payments_of B) m)) t.figures row.payments in
      let moved : u ≡ outlay N (due N D (payments_of B)) m - outlay N (payments_of B) m =
      subst (λ (X : Figures). u ≡ outlay (network_of X) (due (network_of X) (division A X) (payments_of B)) m - outlay (network_of X) (payments_of B) m) t.figures row.units in
      let whole : Equal N (payments_of B') (settle N D (payments_of B) m) =
      subst (λ (Z : Payments). Equal N (payments_of B') Z) (sym (cond-false (receded N D (payments_of B) m) (payments_of B) (settled N D (payments_of B) m) steady)) now in
      record {
        figures = row.figures ∙ t.figures;
        payments = settle_more N D P (payments_of B) (payments_of B') m l t.payments whole;
        units = omega (arith, t.units, settled_sum N D (payments_of B) (payments_of B') m l steady now);
        passed = sym (turn false steady ∙ omega arith);
        few = omega (arith, t.few);
      }

  pub turn_passes : (f : Fault) → Settles A B m (Err f) B' → Turned A F P (m + 1) units (passed + 1) B'
  turn_passes f s =
      let recedes : receded N D (payments_of B) m ≡ true = sym at_home ∙ settle_receded A B m inside f s.0 in
      let still : Equal N (payments_of B') (payments_of B) = λ i j _ _. ap (λ (X : Book). payments_of X i j) s.1 in
      let whole : Equal N (payments_of B') (settle N D (payments_of B) m) =
      subst (λ (Z : Payments). Equal N (payments_of B') Z) (sym (cond-true (receded N D (payments_of B) m) (payments_of B) (settled N D (payments_of B) m) recedes)) still in
      record {
        figures = ap (λ (X : Book). X.figures) s.1 ∙ t.figures;
        payments = settle_more N D P (payments_of B) (payments_of B') m l t.payments whole;
        units = t.units ∙ sym (paid_eq N D (payments_of B') (payments_of B) still);
        passed = sym (turn true recedes);
        few = omega (arith, t.few);
      }

-- all have had their turn
pub turned_round : (A : Meaning) (B B' : Book) (m u p : ℕ) → Turned A B.figures (payments_of B) m u p B' → m ≡ B.figures.n → GoesRound A B (u, p) B'
turned_round A B B' m u p t end =
    record {
      figures = t.figures;
      payments = λ i j a b. t.payments i j a b ∙ ap (λ k. settle_below (net_of B) (division_of A B) k (payments_of B) i j) end;
      units = omega (arith, t.units);
      passed = t.passed ∙ ap (λ k. total k (λ i. cond (receded (net_of B) (division_of A B) (settle_below (net_of B) (division_of A B) i (payments_of B)) i) 1 0)) end;
    }
