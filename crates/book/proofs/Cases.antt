-- The cases of the calls that pay.
use Rattle.std.proofs.Common.{◌≡◌, ℕ, zero, suc, ◌+◌, ◌-◌, ◌<◌, ◌≤◌, Bool, true, false, cond, not, ◌&&◌, ◌||◌, ◌⊎◌, Option, eqb, ltb, leb, List, [], length, get_or, set, Some, None, Ok, zero-le, sym, refl, ap, ◌∙◌, subst, ap₂, inl, inr, le_trans, arith, length-set}
use Rattle.std.specs.Option.{MatchOption}
use Rattle.std.proofs.lemmas.List.{get_or-set_same, get_or-set_other}
use Rattle.std.proofs.lemmas.Bool.{cases_Bool, cases_eq, cases_lt, both_ways, cond_both, cond-true, cond-false, eq-eqb, ne_eqb, lt-ltb, le-ltb, lt-leb, and_from, and_left, and_right, or_from, not_from_true, not_from_false}
use Rattle.network.specs.declared.fault.Cause.TheVariants.{Receded, AboveDue}
use Rattle.network.specs.declared.fault.Layer.TheVariants.{Book as BookLayer}
use Rattle.network.specs.declared.fault.Fault.{Fault}
use Rattle.network.specs.Faults.{of_member, of_pair}
use Rattle.clearing.specs.Networks.{Equal, any, total}
use Rattle.clearing.specs.Settling.{settled, settle, paid_more, would_pay, first, or_else}
use Rattle.clearing.proofs.Totals.{total_le, total_eq, any_decides}
use Rattle.clearing.proofs.Moments.{none_first}
use Rattle.clearing.proofs.Respects.{any_eq, moved_eq, moved_none, would_pay_test}
use Rattle.book.specs.Tables.{cells, Capped, Solvent}
use Rattle.book.specs.Rulebooks.{Meaning}
use Rattle.book.specs.Views.{DueRow, net_of, payments_of, division_of, due_of, receded_in, outlay_of}
use Rattle.book.specs.Seats.{IsSeat, Moves}
use Rattle.book.specs.Calls.{EntryPaid, RowSettled, Settles, settle_fault, pay_fault}
use Rattle.book.specs.declared.book.Book.{Book}
use Rattle.book.specs.declared.seat.Seat.{Seat}
use Rattle.book.specs.declared.settlement.Settlement.{Settlement}
use Rattle.book.proofs.Tables.{cells_row, columns_kept, row_kept}
use Rattle.book.proofs.Sums.{any_none}
use Rattle.book.proofs.Outside.{claim_past, column_past}

module _ (A : Meaning) (B : Book) (m : ℕ) (row : List ℕ) (due : DueRow A B m row) where
  pub receded_is : (t : Bool) → t ≡ any B.figures.n (λ j. ltb (get_or row j 0) (payments_of B m j)) → receded_in A B m ≡ t
  receded_is t e = any_eq B.figures.n (λ j. ltb (due_of A B m j) (payments_of B m j)) (λ j. ltb (get_or row j 0) (payments_of B m j)) (λ j _. ap (λ x. ltb x (payments_of B m j)) (sym (due.value j))) ∙ sym e

  pub steady_is : (t : Bool) → t ≡ any B.figures.n (λ j. ltb (get_or row j 0) (payments_of B m j)) → t ≡ false → (j : ℕ) → j < B.figures.n → payments_of B m j ≤ get_or row j 0
  steady_is t e f j l =
      let test : ℕ → Bool = λ j. ltb (get_or row j 0) (payments_of B m j) in
      elim (cases_lt (get_or row j 0) (payments_of B m j)) [
        | inl s ↦ absurd (both_ways (any B.figures.n test) (sym e ∙ f) ((any_decides test (λ k. test k ≡ true) (λ k. (λ h. h, λ h. h)) B.figures.n).1 (j, l, lt-ltb (get_or row j 0) (payments_of B m j) s)))
        | inr s ↦ s
      ]

-- a settle
module _ (A : Meaning) (B : Book) (m : ℕ) (l : m < B.figures.n) where
  pub settle_recedes : receded_in A B m ≡ true → settle_fault A B m ≡ Some (of_member BookLayer Receded m)
  settle_recedes t = cond-false (leb B.figures.n m) _ _ (lt-leb B.figures.n m l) ∙ cond-true (receded_in A B m) _ _ t

  pub settle_passes : receded_in A B m ≡ false → settle_fault A B m ≡ None
  settle_passes f = cond-false (leb B.figures.n m) _ _ (lt-leb B.figures.n m l) ∙ cond-false (receded_in A B m) _ _ f

  -- and what the answer tells
  pub settle_steady : settle_fault A B m ≡ None → receded_in A B m ≡ false
  settle_steady none = elim (cases_Bool (receded_in A B m)) [
    | inl t ↦ (let some = settle_recedes t in let z : ◌≡◌ {A = ℕ} 0 1 = cc in absurd (omega arith))
    | inr f ↦ f
  ]

  pub settle_receded : (f : Fault) → settle_fault A B m ≡ Some f → receded_in A B m ≡ true
  settle_receded f some = elim (cases_Bool (receded_in A B m)) [
    | inl t ↦ t
    | inr s ↦ (let none = settle_passes s in let z : ◌≡◌ {A = ℕ} 0 1 = cc in absurd (omega arith))
  ]

  module _ (row : List ℕ) (due : DueRow A B m row) (wide : m < length B.paid) where
    pub settle_pays : {B' : Book} {u : ℕ} → u ≡ total B.figures.n (λ j. get_or row j 0) - outlay_of B m → B'.figures ≡ B.figures → B'.paid ≡ set B.paid m row → RowSettled A B m u B'
    settle_pays {B'} {u} units same is =
        record {
          units = units ∙ ap (λ x. x - outlay_of B m) (total_eq B.figures.n (λ j. get_or row j 0) (due_of A B m) (λ j _. due.value j));
          figures = same;
          payments = λ i j _ _. ap (λ rows. cells rows i j) is ∙ cells_row B.paid m row wide i j ∙ at i j;
        }
      where
        at : (i j : ℕ) → cond (eqb i m) (get_or row j 0) (payments_of B i j) ≡ settled (net_of B) (division_of A B) (payments_of B) m i j
        at i j = elim (cases_eq i m) [
          | inl e ↦ cond-true (eqb i m) (get_or row j 0) (payments_of B i j) (eq-eqb i m e) ∙ due.value j ∙ ap (λ k. due_of A B k j) (sym e) ∙ sym (cond-true (eqb i m) (due_of A B i j) (payments_of B i j) (eq-eqb i m e))
          | inr e ↦ cond-false (eqb i m) (get_or row j 0) (payments_of B i j) (ne_eqb i m e) ∙ sym (cond-false (eqb i m) (due_of A B i j) (payments_of B i j) (ne_eqb i m e))
        ]

  -- a row settled is what the call is to do, and keeps the invariants
  module _ (s : Settlement) (h : Moves A B m s) where
    high : m < length B.paid
    high = omega (arith, B.rows, B.figures.few)

    pub moves_settle : {B' : Book} → B'.figures ≡ B.figures → B'.paid ≡ set B.paid m s.row → Settles A B m (Ok s.units) B'
    moves_settle {B'} same is = (settle_passes h.steady, settle_pays s.row h.due high h.units same is)

    pub moves_columns : (i : ℕ) → i < 32 → length (get_or (set B.paid m s.row) i []) ≡ 32
    moves_columns = columns_kept B.paid m s.row high h.due.wide B.columns

    pub moves_keep : Capped (net_of B) (cells (set B.paid m s.row)) × Solvent (net_of B) (cells (set B.paid m s.row))
    moves_keep = row_kept (net_of B) B.paid m s.row high B.capped B.solvent h.more h.due.capped h.due.spent

-- what is known of a seat is known of the member's number in its book
pub at_seat : (P : Book → ℕ → Type 0) {B : Book} {m : ℕ} (seat : Seat) → IsSeat B m seat → P seat.book.now seat.at → P B m
at_seat P {B} {m} seat is h = subst (λ (X : Book). P X m) is.0 (subst (λ k. P seat.book.now k) is.1 h)

pub row_told : (A : Meaning) {B : Book} {m : ℕ} (seat : Seat) → IsSeat B m seat → (row : List ℕ) (t : Bool) → DueRow A seat.book.now seat.at row
    → t ≡ any seat.book.now.figures.n (λ j. ltb (get_or row j 0) (payments_of seat.book.now seat.at j))
    → DueRow A B m row × (t ≡ any B.figures.n (λ j. ltb (get_or row j 0) (payments_of B m j)))
row_told A seat is row t due e = (at_seat (λ X k. DueRow A X k row) seat is due, at_seat (λ X k. t ≡ any X.figures.n (λ j. ltb (get_or row j 0) (payments_of X k j))) seat is e)

-- a payment
module _ (A : Meaning) (B : Book) (d c u : ℕ) (a : d < B.figures.n) (b : c < B.figures.n) (some : 0 < u) where
  members : (leb B.figures.n d || leb B.figures.n c) ≡ false
  members = or_from (leb B.figures.n d) (leb B.figures.n c) (lt-leb B.figures.n d a) (lt-leb B.figures.n c b)

  pub pay_recedes : receded_in A B d ≡ true → pay_fault A B d c u ≡ Some (of_pair BookLayer Receded d c)
  pay_recedes t = cond-false _ _ _ members ∙ cond-false (eqb u 0) _ _ (ne_eqb u 0 (λ z. omega arith)) ∙ cond-true (receded_in A B d) _ _ t

  module _ (row : List ℕ) (due : DueRow A B d row) (f : receded_in A B d ≡ false) (v : ℕ) (old : v ≡ payments_of B d c) where
    room_is : get_or row c 0 - v ≡ due_of A B d c - payments_of B d c
    room_is = ap₂ ◌-◌ (due.value c) old

    pub pay_beyond : get_or row c 0 - v < u → pay_fault A B d c u ≡ Some (of_pair BookLayer AboveDue d c)
    pay_beyond over =
        cond-false _ _ _ members ∙ cond-false (eqb u 0) _ _ (ne_eqb u 0 (λ z. omega arith)) ∙ cond-false (receded_in A B d) _ _ f
        ∙ cond-true (ltb (due_of A B d c - payments_of B d c) u) _ _ (lt-ltb (due_of A B d c - payments_of B d c) u (omega (arith, room_is)))

    pub pay_passes : u ≤ get_or row c 0 - v → pay_fault A B d c u ≡ None
    pay_passes room =
        cond-false _ _ _ members ∙ cond-false (eqb u 0) _ _ (ne_eqb u 0 (λ z. omega arith)) ∙ cond-false (receded_in A B d) _ _ f
        ∙ cond-false (ltb (due_of A B d c - payments_of B d c) u) _ _ (le-ltb (due_of A B d c - payments_of B d c) u (omega (arith, room_is)))

    module _ (room : u ≤ get_or row c 0 - v) where
      wide : d < length B.paid
      wide = omega (arith, B.rows, B.figures.few)

      broad : c < length (get_or B.paid d [])
      broad = omega (arith, B.columns d (omega (arith, B.figures.few)), B.figures.few)

      abbrev new : List ℕ
      new = set (get_or B.paid d []) c (v + u)

      here : (j : ℕ) → j ≡ c → get_or new j 0 ≡ v + u
      here j e = ap (λ k. get_or new k 0) e ∙ get_or-set_same (get_or B.paid d []) c (v + u) 0 broad

      away : (j : ℕ) → (j ≡ c → ⊥) → get_or new j 0 ≡ payments_of B d j
      away j e = get_or-set_other (get_or B.paid d []) c j (v + u) 0 e

      pub pay_pays : {B' : Book} → B'.figures ≡ B.figures → B'.paid ≡ set B.paid d new → EntryPaid B d c u (v + u) B'
      pay_pays {B'} same is =
          record {
            figure = ap (λ x. x + u) old;
            figures = same;
            payments = λ i j _ _. ap (λ rows. cells rows i j) is ∙ cells_row B.paid d new wide i j ∙ at i j;
          }
        where
          at : (i j : ℕ) → cond (eqb i d) (get_or new j 0) (payments_of B i j) ≡ paid_more (payments_of B) d c u i j
          at i j = elim (cases_eq i d) [
            | inr e ↦ cond-false (eqb i d) (get_or new j 0) (payments_of B i j) (ne_eqb i d e) ∙ sym (cond-false (eqb i d && eqb j c) (payments_of B i j + u) (payments_of B i j) (and_left (eqb i d) (eqb j c) (ne_eqb i d e)))
            | inl e ↦ cond-true (eqb i d) (get_or new j 0) (payments_of B i j) (eq-eqb i d e) ∙ elim (cases_eq j c) [
              | inl q ↦ here j q ∙ ap (λ x. x + u) old ∙ ap₂ (λ x y. payments_of B x y + u) (sym e) (sym q) ∙ sym (cond-true (eqb i d && eqb j c) (payments_of B i j + u) (payments_of B i j) (and_from (eqb i d) (eqb j c) (eq-eqb i d e) (eq-eqb j c q)))
              | inr q ↦ away j q ∙ ap (λ x. payments_of B x j) (sym e) ∙ sym (cond-false (eqb i d && eqb j c) (payments_of B i j + u) (payments_of B i j) (and_right (eqb i d) (eqb j c) (ne_eqb j c q)))
            ]
          ]

      pub pay_columns : (i : ℕ) → i < 32 → length (get_or (set B.paid d new) i []) ≡ 32
      pay_columns = columns_kept B.paid d new wide (length-set (get_or B.paid d []) c (v + u) ∙ B.columns d (omega (arith, B.figures.few))) B.columns

      pub pay_kept : ((j : ℕ) → j < B.figures.n → payments_of B d j ≤ get_or row j 0) → Capped (net_of B) (cells (set B.paid d new)) × Solvent (net_of B) (cells (set B.paid d new))
      pay_kept steady =
          row_kept (net_of B) B.paid d new wide B.capped B.solvent
          (λ j l. elim (cases_eq j c) [ inl q ↦ omega (arith, here j q, ap (λ k. payments_of B d k) q) | inr q ↦ omega (arith, away j q) ])
          (λ j. elim (cases_eq j c) [ inl q ↦ omega (arith, here j q, due.capped c, ap (λ k. (net_of B).claim d k) q) | inr q ↦ omega (arith, away j q, B.capped d j) ])
          (le_trans (total_le B.figures.n (λ j. get_or new j 0) (λ j. get_or row j 0) (λ j l. elim (cases_eq j c) [ inl q ↦ omega (arith, here j q, ap (λ k. get_or row k 0) q) | inr q ↦ omega (arith, away j q, steady j l) ])) due.spent)

-- whether a settle would pay
module _ (A : Meaning) (B : Book) (m : ℕ) where
  abbrev would : Bool
  would = would_pay (net_of B) (division_of A B) (payments_of B) m

  -- past the members nothing would
  past_would : B.figures.n ≤ m → would ≡ false
  past_would past =
      let N = net_of B in
      let P = payments_of B in
      let row = settled N (division_of A B) P m in
      let same : Equal N (settle N (division_of A B) P m) P =
      cond_both (receded_in A B m) P row (λ Q. Equal N Q P) (λ _ i j a b. refl) (λ _ i j a b. cond-false (eqb i m) (due_of A B i j) (P i j) (ne_eqb i m (λ e. omega arith))) in
      moved_eq N P P (settle N (division_of A B) P m) P (λ i j a b. refl) same ∙ moved_none N P

  pub would_not : receded_in A B m ≡ true → false ≡ would
  would_not t = elim (cases_lt m B.figures.n) [
    | inl l ↦
        sym (would_pay_test (net_of B) (division_of A B) (payments_of B) m l
        ∙ and_left (not (receded_in A B m)) (any B.figures.n (λ j. not (eqb (payments_of B m j) (due_of A B m j)))) (not_from_true (receded_in A B m) t))
    | inr past ↦ sym (past_would past)
  ]

  module _ (row : List ℕ) (due : DueRow A B m row) where
    -- past the members nothing is paid or due
    pub past_row : (j : ℕ) → B.figures.n ≤ m ⊎ B.figures.n ≤ j → payments_of B m j ≡ get_or row j 0
    past_row j past =
        let none : (net_of B).claim m j ≡ 0 = elim past [ inl a ↦ claim_past B.figures m j a | inr b ↦ column_past B.figures m j b ] in
        omega (arith, B.capped m j, due.capped j)

    pub would_if : receded_in A B m ≡ false → (t : Bool) → t ≡ any B.figures.n (λ j. not (eqb (payments_of B m j) (get_or row j 0))) → t ≡ would
    would_if f t e = elim (cases_lt m B.figures.n) [
      | inl l ↦
          (let P = payments_of B in
          let test : Bool = any B.figures.n (λ j. not (eqb (P m j) (due_of A B m j))) in
          e ∙ any_eq B.figures.n (λ j. not (eqb (P m j) (get_or row j 0))) (λ j. not (eqb (P m j) (due_of A B m j))) (λ j _. ap (λ x. not (eqb (P m j) x)) (due.value j))
          ∙ sym (would_pay_test (net_of B) (division_of A B) P m l ∙ ap (λ b. b && test) (not_from_false (receded_in A B m) f)))
      | inr past ↦
          (let none : any B.figures.n (λ j. not (eqb (payments_of B m j) (get_or row j 0))) ≡ false =
          any_none B.figures.n (λ j. not (eqb (payments_of B m j) (get_or row j 0))) (λ j _. not_from_true _ (eq-eqb _ _ (past_row j (inl past)))) in
          e ∙ none ∙ sym (past_would past))
    ]

-- the first that passes
pub first_found : (test : ℕ → Bool) (n m : ℕ) → m < n → any m test ≡ false → test m ≡ true → Some m ≡ first n test
first_found test zero m l none t = absurd (omega arith)
first_found test (suc n) m l none t =
    elim (cases_lt m n) [
      | inl s ↦ (let h = first_found test n m s none t in ap (λ o. or_else o (cond (test n) (Some n) None)) h)
      | inr s ↦
          (let e : n ≡ m = omega arith in
          let no : first n test ≡ None = none_first test n (ap (λ k. any k test) e ∙ none) in
          let yes : test n ≡ true = ap test e ∙ t in
          ap Some (sym e) ∙ sym (ap₂ or_else no (cond-true (test n) (Some n) None yes)))
    ]

-- the same, as a search of 0 to n - 1 finds it
pub first_is : (test : ℕ → Bool) (n : ℕ) (r : Option ℕ)
    → MatchOption r ((k : ℕ) → 0 ≤ k → k < n → test k ≡ false) (λ i. (0 ≤ i) × (i < n) × (test i ≡ true) × ((k : ℕ) → 0 ≤ k → k < i → test k ≡ false)) → r ≡ first n test
first_is test n None none = sym (none_first test n (any_none n test (λ k l. none k zero-le l)))
first_is test n (Some m) (_, l, t, before) = first_found test n m l (any_none m test (λ k l. before k zero-le l)) t
