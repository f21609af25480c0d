-- Why close may leave a member alone at the estate of its last visit: a settle would do nothing. And what visits keep.
use Rattle.std.proofs.Common.{◌≡◌, ℕ, ◌+◌, ◌-◌, ◌<◌, ◌≤◌, Bool, true, eqb, ltb, List, [], length, get_or, set, Ok, Err, sym, refl, ap, ◌∙◌, subst, inl, inr, le_refl, arith, length-set}
use Rattle.std.proofs.lemmas.List.{get_or-set_same, get_or-set_other}
use Rattle.std.proofs.lemmas.Bool.{cases_Bool, cases_eq, cond-true, cond-false, eq-eqb, ne_eqb}
use Rattle.std.proofs.lemmas.Bool.Decides.{Decides-ltb}
use Rattle.network.specs.declared.fault.Cause.TheVariants.{Receded}
use Rattle.network.specs.declared.fault.Layer.TheVariants.{Book as BookLayer}
use Rattle.network.specs.declared.figures.Figures.{Figures}
use Rattle.network.specs.Faults.{of_member}
use Rattle.clearing.specs.Networks.{Network, Division, Payments, estate}
use Rattle.clearing.proofs.Totals.{any_decides, total_eq}
use Rattle.book.specs.Tables.{network_of}
use Rattle.book.specs.Rulebooks.{Meaning, division}
use Rattle.book.specs.Views.{net_of, payments_of, division_of, estate_of, due_of, receded_in}
use Rattle.book.specs.Calls.{Settles}
use Rattle.book.specs.Seats.{Moves}
use Rattle.book.specs.Visits.{Noted, Credited, Fresh, Kept, tally_at, untold}
use Rattle.book.specs.declared.book.Book.{Book}
use Rattle.book.specs.declared.settlement.Settlement.{Settlement}
use Rattle.book.specs.declared.visits.Visit.{Visit}
use Rattle.book.specs.declared.visits.Visit.TheVariants.{Never, Settled, PassedOver}
use Rattle.book.specs.declared.visits.Tally.{Tally}
use Rattle.book.proofs.Cases.{settle_recedes, settle_passes}
use Rattle.book.proofs.Turning.{total_one}

-- of a row that is as it was, the last visit still tells the truth
noted_on : (N : Network) (D : Division) (P Q : Payments) (m : ℕ) (v : Visit) → ((j : ℕ) → j < N.members → Q m j ≡ P m j) → Noted N D P m v → Noted N D Q m v
noted_on N D P Q m Never same h = tt
noted_on N D P Q m (Settled E) same h = λ j b. same j b ∙ h j b
noted_on N D P Q m (PassedOver E) same h = (h.0, h.1, omega (arith, same h.0 h.1, h.2))

module _ (V : List Tally) (m : ℕ) (t : Tally) (l : m < length V) where
  -- a visit noted
  noted_set : (N : Network) (D : Division) (P : Payments) → Noted N D P m t.last
      → (k : ℕ) → ((k ≡ m → ⊥) → Noted N D P k (tally_at V k).last) → Noted N D P k (tally_at (set V m t) k).last
  noted_set N D P here k away =
      elim (cases_eq k m) [
        | inl e ↦ subst (λ i. Noted N D P i (tally_at (set V m t) i).last) (sym e) (subst (λ (w : Tally). Noted N D P m w.last) (sym (get_or-set_same V m t untold l)) here)
        | inr e ↦ subst (λ (w : Tally). Noted N D P k w.last) (sym (get_or-set_other V m k t untold e)) (away e)
      ]

  -- at the same estate
  estate_set : t.estate ≡ (tally_at V m).estate → (k : ℕ) → (tally_at (set V m t) k).estate ≡ (tally_at V k).estate
  estate_set same k =
      elim (cases_eq k m) [
        | inl e ↦ ap (λ i. (tally_at (set V m t) i).estate) e ∙ ap (λ (w : Tally). w.estate) (get_or-set_same V m t untold l) ∙ same ∙ ap (λ i. (tally_at V i).estate) (sym e)
        | inr e ↦ ap (λ (w : Tally). w.estate) (get_or-set_other V m k t untold e)
      ]

module _ (A : Meaning) (B : Book) (m : ℕ) where
  abbrev P : Payments
  P = payments_of B

  abbrev over : ℕ → Bool
  over j = ltb (due_of A B m j) (P m j)

  -- a member has receded if and only if some entry of its row is above its due
  above : receded_in A B m ≡ true → (j : ℕ) × (j < B.figures.n) × (due_of A B m j < payments_of B m j)
  above = (any_decides over (λ j. due_of A B m j < P m j) (λ j. Decides-ltb (due_of A B m j) (P m j)) B.figures.n).0

  recedes : (j : ℕ) → j < B.figures.n → due_of A B m j < payments_of B m j → receded_in A B m ≡ true
  recedes j b s = (any_decides over (λ j. due_of A B m j < P m j) (λ j. Decides-ltb (due_of A B m j) (P m j)) B.figures.n).1 (j, b, s)

  -- a member whose estate is that of its last visit
  module _ (V : List Tally) (kept : Kept A B V) (l : m < B.figures.n) (E : ℕ) (unchanged : E ≡ (tally_at V m).estate) where
    told : (v : Visit) → (tally_at V m).last ≡ v → Noted (net_of B) (division_of A B) (payments_of B) m v
    told v is = subst (λ w. Noted (net_of B) (division_of A B) (payments_of B) m w) is (kept.noted m l)

    due_of_it : (j : ℕ) → division_of A B m E j ≡ due_of A B m j
    due_of_it j = ap (λ x. division_of A B m x j) (unchanged ∙ kept.worth m l)

    -- if it was settled then, a settle moves nothing
    pub stays_settled : (tally_at V m).last ≡ Settled E → Settles A B m (Ok 0) B
    stays_settled is = (
      settle_passes A B m l (elim (cases_Bool (receded_in A B m)) [
        | inl t ↦ (let w = above t in absurd (omega (arith, w.2, due_is w.0 w.1)))
        | inr f ↦ f
      ]),
      record {
        units = omega (arith, total_eq B.figures.n (P m) (due_of A B m) due_is);
        figures = refl;
        payments = λ i j _ b. elim (cases_eq i m) [
          | inl e ↦ ap (λ k. P k j) e ∙ due_is j b ∙ ap (λ k. due_of A B k j) (sym e) ∙ sym (cond-true (eqb i m) (due_of A B i j) (P i j) (eq-eqb i m e))
          | inr e ↦ sym (cond-false (eqb i m) (due_of A B i j) (P i j) (ne_eqb i m e))
        ];
      },
    )
      where
        due_is : (j : ℕ) → j < B.figures.n → P m j ≡ due_of A B m j
        due_is j b = told (Settled E) is j b ∙ due_of_it j

    -- if it was passed over then, it is passed over again
    pub stays_receded : (tally_at V m).last ≡ PassedOver E → Settles A B m (Err (of_member BookLayer Receded m)) B
    stays_receded is = let w = told (PassedOver E) is in (settle_recedes A B m l (recedes w.0 w.1 (omega (arith, w.2, due_of_it w.0))), refl)

-- the estates of the creditors below j have been raised, and nothing else is changed
pub record Raised (V V' : List Tally) (before after : List ℕ) (j : ℕ) : Type 0 where
  pub wide : length V' ≡ 32
  pub risen : (k : ℕ) → k < j → (tally_at V' k).estate ≡ (tally_at V k).estate + (get_or after k 0 - get_or before k 0)
  pub rest : (k : ℕ) → j ≤ k → (tally_at V' k).estate ≡ (tally_at V k).estate
  pub last : (k : ℕ) → (tally_at V' k).last ≡ (tally_at V k).last

pub raised_none : (V : List Tally) (before after : List ℕ) → length V ≡ 32 → Raised V V before after 0
raised_none V before after wide = record { wide = wide; risen = λ k h. absurd (omega arith); rest = λ k _. refl; last = λ k. refl }

module _ (V V' : List Tally) (before after : List ℕ) (j : ℕ) (r : Raised V V' before after j) (l : j < 32) where
  abbrev raised : Tally
  raised = record { estate = (tally_at V' j).estate + (get_or after j 0 - get_or before j 0); last = (tally_at V' j).last }

  here : j < length V'
  here = omega (arith, r.wide)

  at : (k : ℕ) → k ≡ j → tally_at (set V' j raised) k ≡ raised
  at k e = ap (λ i. tally_at (set V' j raised) i) e ∙ get_or-set_same V' j raised untold here

  off : (k : ℕ) → (k ≡ j → ⊥) → tally_at (set V' j raised) k ≡ tally_at V' k
  off k e = get_or-set_other V' j k raised untold e

  pub raised_more : Raised V (set V' j raised) before after (j + 1)
  raised_more =
      record {
        wide = length-set V' j raised ∙ r.wide;
        risen = λ k h. elim (cases_eq k j) [
          | inl e ↦ ap (λ (t : Tally). t.estate) (at k e) ∙ ap (λ x. x + (get_or after j 0 - get_or before j 0)) (r.rest j (le_refl j))
              ∙ ap (λ i. (tally_at V i).estate + (get_or after i 0 - get_or before i 0)) (sym e)
          | inr e ↦ ap (λ (t : Tally). t.estate) (off k e) ∙ r.risen k (omega arith)
        ];
        rest = λ k h. ap (λ (t : Tally). t.estate) (off k (λ e. omega arith)) ∙ r.rest k (omega arith);
        last = λ k. elim (cases_eq k j) [
          | inl e ↦ ap (λ (t : Tally). t.last) (at k e) ∙ ap (λ i. (tally_at V' i).last) (sym e) ∙ r.last k
          | inr e ↦ ap (λ (t : Tally). t.last) (off k e) ∙ r.last k
        ];
      }

-- a visit that settled m
module _ (A : Meaning) (B B' : Book) (m : ℕ) (l : m < B.figures.n) (st : Settlement) (h : Moves A B m st) (s : Settles A B m (Ok st.units) B') where
  own : (j : ℕ) → j < B.figures.n → payments_of B' m j ≡ due_of A B m j
  own j b = s.1.payments m j l b ∙ cond-true (eqb m m) (due_of A B m j) (payments_of B m j) (eq-eqb m m refl)

  others : (k j : ℕ) → k < B.figures.n → j < B.figures.n → (k ≡ m → ⊥) → payments_of B' k j ≡ payments_of B k j
  others k j a b e = s.1.payments k j a b ∙ cond-false (eqb k m) (due_of A B k j) (payments_of B k j) (ne_eqb k m e)

  -- each creditor's estate has risen by what it was paid more
  estate_rises : (k : ℕ) → k < B.figures.n → estate (net_of B) (payments_of B') k ≡ estate_of B k + (get_or st.row k 0 - payments_of B m k)
  estate_rises k b =
      omega (arith, h.more k b, h.due.value k, own k b, total_one B.figures.n (λ i. payments_of B' i k) (λ i. payments_of B i k) m l (λ i a e. others i k a b e))

  pub keeps_settled : (V V' : List Tally) → Kept A B V → length V' ≡ 32 → Credited V (get_or B.paid m []) st.row B.figures.n V'
      → Kept A B' (set V' m (record { estate = (tally_at V' m).estate; last = Settled (tally_at V m).estate }))
  keeps_settled V V' kept wide raised =
      record {
        wide = length-set V' m noted ∙ wide;
        worth = λ k a.
            (let b = inside k a in
            estate_set V' m noted here refl k ∙ raised.risen k b ∙ ap (λ x. x + (get_or st.row k 0 - payments_of B m k)) (kept.worth k b) ∙ sym (estate_rises k b)
            ∙ ap (λ (X : Figures). estate (network_of X) (payments_of B') k) (sym s.1.figures));
        noted = λ k a.
            (let b = inside k a in
            subst (λ (X : Figures). Noted (network_of X) (division A X) (payments_of B') k (tally_at (set V' m noted) k).last) (sym s.1.figures)
            (noted_set V' m noted here (net_of B) (division_of A B) (payments_of B')
            (λ j c. own j c ∙ ap (λ x. division_of A B m x j) (sym (kept.worth m l))) k
            (λ e. subst (λ v. Noted (net_of B) (division_of A B) (payments_of B') k v) (sym (raised.last k))
            (noted_on (net_of B) (division_of A B) (payments_of B) (payments_of B') k (tally_at V k).last (λ j c. others k j b c e) (kept.noted k b)))));
      }
    where
      noted : Tally
      noted = record { estate = (tally_at V' m).estate; last = Settled (tally_at V m).estate }

      here : m < length V'
      here = omega (arith, wide, B.figures.few)

      inside : (k : ℕ) → k < B'.figures.n → k < B.figures.n
      inside k a = omega (arith, ap (λ (X : Figures). X.n) s.1.figures)

-- a visit that passed m over
pub keeps_passed : (A : Meaning) (B : Book) (m : ℕ) → m < B.figures.n → receded_in A B m ≡ true → (V : List Tally) → Kept A B V
    → Kept A B (set V m (record { estate = (tally_at V m).estate; last = PassedOver (tally_at V m).estate }))
keeps_passed A B m l t V kept =
    record {
      wide = length-set V m noted ∙ kept.wide;
      worth = λ k a. estate_set V m noted here refl k ∙ kept.worth k a;
      noted = λ k a. noted_set V m noted here (net_of B) (division_of A B) (payments_of B) over_then k (λ _. kept.noted k a);
    }
  where
    noted : Tally
    noted = record { estate = (tally_at V m).estate; last = PassedOver (tally_at V m).estate }

    here : m < length V
    here = omega (arith, kept.wide, B.figures.few)

    over_then : Noted (net_of B) (division_of A B) (payments_of B) m (PassedOver (tally_at V m).estate)
    over_then = let w = above A B m t in (w.0, w.1, omega (arith, w.2, ap (λ x. division_of A B m x w.0) (kept.worth m l)))

-- nobody visited yet
pub keeps_none : (A : Meaning) (B : Book) (V : List Tally) → length V ≡ 32 → ((m : ℕ) → m < B.figures.n → Fresh B m (tally_at V m)) → Kept A B V
keeps_none A B V wide fresh =
    record {
      wide = wide;
      worth = λ m l. (fresh m l).worth;
      noted = λ m l. subst (λ v. Noted (net_of B) (division_of A B) (payments_of B) m v) (sym (fresh m l).never) tt;
    }
