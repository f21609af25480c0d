-- Tables as lists of rows: what stands in one after a write, and what is kept.
use Rattle.std.proofs.Common.{◌≡◌, ℕ, zero, suc, ◌+◌, ◌-◌, ◌<◌, ◌≤◌, cond, eqb, List, [], ◌∷◌, ◌++◌, length, get_or, take, drop, set, replicate, sum_by, Result, sym, refl, ap, ◌∙◌, inl, inr, le_trans, le_of_eq, arith}
use Rattle.std.proofs.lemmas.List.{get_or-set_same, get_or-set_other, get_or_past, length-append, length-take-le, length-drop, drop-replicate}
use Rattle.std.proofs.lemmas.Bool.{cases_eq, cases_lt, cond-true, cond-false, eq-eqb, ne_eqb}
use Rattle.network.specs.declared.fault.Fault.{Fault}
use Rattle.network.specs.Entries.{member_at}
use Rattle.network.specs.Answers.{Gives}
use Rattle.rules.specs.Claims.{awards_fault}
use Rattle.rules.proofs.Acceptance.{filled}
use Rattle.clearing.specs.Networks.{Network, AtMost, total, estate}
use Rattle.clearing.proofs.Totals.{total_le, total_eq, total_none, total_cap}
use Rattle.book.specs.Tables.{cells, Capped, Solvent}
use Rattle.book.specs.Rulebooks.{Meaning, LawfulMeaning, claims_on}
use Rattle.book.specs.Views.{DueRow, net_of, payments_of, due_of, estate_of}
use Rattle.book.specs.declared.book.Book.{Book}
use Rattle.book.proofs.Sums.{sum_by_total}
use Rattle.book.proofs.Lawful.{claims_length, claims_admitted, awards_length, all_awarded, none_above}

pub entry_cap : (B : Book) (i j : ℕ) → payments_of B i j ≤ 10000
entry_cap B i j = le_trans (B.capped i j) (B.figures.small i j)

pub estate_cap : (B : Book) (m k : ℕ) → k ≤ 32 → (net_of B).endowment m + total k (λ i. payments_of B i m) ≤ 1320000
estate_cap B m k few = omega (arith, total_cap k (λ i. payments_of B i m) 10000 (λ i _. entry_cap B i m), (B.figures.fit m).1)

-- what was paid to a member, row by row
pub column_is : (B : Book) (m : ℕ) → B.figures.n ≤ length B.paid → sum_by (λ (row : List ℕ). get_or row m 0) (take B.figures.n B.paid) ≡ total B.figures.n (λ k. payments_of B k m)
column_is B m wide = sum_by_total (λ (row : List ℕ). get_or row m 0) [] B.paid B.figures.n wide

-- a row written
pub cells_row : (rows : List (List ℕ)) (m : ℕ) (row : List ℕ) → m < length rows → (i j : ℕ) → cells (set rows m row) i j ≡ cond (eqb i m) (get_or row j 0) (cells rows i j)
cells_row rows m row l i j =
    elim (cases_eq i m) [
      | inl e ↦ ap (λ k. get_or (get_or (set rows m row) k []) j 0) e ∙ ap (λ (r : List ℕ). get_or r j 0) (get_or-set_same rows m row [] l) ∙ sym (cond-true (eqb i m) (get_or row j 0) (cells rows i j) (eq-eqb i m e))
      | inr e ↦ ap (λ (r : List ℕ). get_or r j 0) (get_or-set_other rows m i row [] e) ∙ sym (cond-false (eqb i m) (get_or row j 0) (cells rows i j) (ne_eqb i m e))
    ]

-- rows stay as wide as they were
pub columns_kept : (rows : List (List ℕ)) (m : ℕ) (row : List ℕ) → m < length rows → length row ≡ 32 → ((i : ℕ) → i < 32 → length (get_or rows i []) ≡ 32)
    → (i : ℕ) → i < 32 → length (get_or (set rows m row) i []) ≡ 32
columns_kept rows m row l wide h i b =
    elim (cases_eq i m) [
      | inl e ↦ ap (λ k. length (get_or (set rows m row) k [])) e ∙ ap length (get_or-set_same rows m row [] l) ∙ wide
      | inr e ↦ ap length (get_or-set_other rows m i row [] e) ∙ h i b
    ]

pub get_or_zeros : (n k : ℕ) → get_or {A = ℕ} (replicate n 0) k 0 ≡ 0
get_or_zeros zero k = refl
get_or_zeros (suc n) zero = refl
get_or_zeros (suc n) (suc k) = get_or_zeros n k

get_or_padded : (xs : List ℕ) (m k : ℕ) → get_or (xs ++ replicate m 0) k 0 ≡ get_or xs k 0
get_or_padded [] m k = get_or_zeros m k
get_or_padded (x ∷ xs) m zero = refl
get_or_padded (x ∷ xs) m (suc k) = get_or_padded xs m k

-- what the rulebook writes into a row of zeros is the due row
module _ (A : Meaning) (law : LawfulMeaning A) (B : Book) (m : ℕ) (l : m < 32) where
  abbrev n : ℕ
  n = B.figures.n

  abbrev house : ℕ
  house = (member_at B.figures m).house

  abbrev zeros : List ℕ
  zeros = replicate 32 0

  pub due_row_is : (out : List ℕ) (r : Result (Unit {0}) Fault) (E : ℕ) → E ≡ estate_of B m
      → Gives (awards_fault (claims_on B.figures m) (length (take n zeros))) (λ _. out ≡ A house E (claims_on B.figures m)) (out ≡ take n zeros) r
      → DueRow A B m (out ++ drop n zeros)
  due_row_is out r E worth answer =
      record {
        wide = omega (arith, length-append out (drop n zeros), ap length is, awards_length A law B.figures m (estate_of B m) l, length-drop n zeros, B.figures.few);
        value = value;
        capped = λ j. elim (cases_lt j n) [
          | inl s ↦ le_trans (le_of_eq (value j)) (none_above A law B.figures m (estate_of B m) j l s)
          | inr s ↦ omega (arith, value j, get_or_past (A house (estate_of B m) (claims_on B.figures m)) j 0 (omega (arith, awards_length A law B.figures m (estate_of B m) l)))
        ];
        spent = omega (arith, total_eq n (λ j. get_or (out ++ drop n zeros) j 0) (due_of A B m) (λ j _. value j), all_awarded A law B.figures m (estate_of B m) l);
      }
    where
      is : out ≡ A house (estate_of B m) (claims_on B.figures m)
      is =
          filled (claims_on B.figures m) (length (take n zeros)) r (A house E (claims_on B.figures m)) (take n zeros) out (claims_admitted B.figures m l)
          (length-take-le n zeros (omega (arith, B.figures.few)) ∙ sym (claims_length B.figures m l)) answer
          ∙ ap (λ e. A house e (claims_on B.figures m)) worth

      value : (j : ℕ) → get_or (out ++ drop n zeros) j 0 ≡ due_of A B m j
      value j =
          ap (λ xs. get_or (out ++ xs) j 0) (drop-replicate {X = ℕ} n 32 0)
          ∙ get_or_padded out (32 - n) j ∙ ap (λ xs. get_or xs j 0) is

-- a table of zeros
pub no_cells : (m n k j : ℕ) → cells (replicate m (replicate n 0)) k j ≡ 0
no_cells zero n k j = refl
no_cells (suc m) n zero j = get_or_zeros n j
no_cells (suc m) n (suc k) j = no_cells m n k j

pub none_spent : (n m w i : ℕ) → total n (cells (replicate m (replicate w 0)) i) ≡ 0
none_spent n m w i = total_eq n (cells (replicate m (replicate w 0)) i) (λ _. 0) (λ j _. no_cells m w i j) ∙ total_none n

-- a row written whose entries are no lower than they were, no higher than their claims, and together within the estate
module _ (N : Network) (rows : List (List ℕ)) (m : ℕ) (row : List ℕ) (l : m < length rows)
    (capped : Capped N (cells rows)) (solvent : Solvent N (cells rows))
    (more : (j : ℕ) → j < N.members → cells rows m j ≤ get_or row j 0) (fits : (j : ℕ) → get_or row j 0 ≤ N.claim m j)
    (spent : total N.members (λ j. get_or row j 0) ≤ estate N (cells rows) m) where
  own : (i j : ℕ) → i ≡ m → cells (set rows m row) i j ≡ get_or row j 0
  own i j e = cells_row rows m row l i j ∙ cond-true (eqb i m) (get_or row j 0) (cells rows i j) (eq-eqb i m e)

  other : (i j : ℕ) → (i ≡ m → ⊥) → cells (set rows m row) i j ≡ cells rows i j
  other i j e = cells_row rows m row l i j ∙ cond-false (eqb i m) (get_or row j 0) (cells rows i j) (ne_eqb i m e)

  up : AtMost N (cells rows) (cells (set rows m row))
  up i j a b = elim (cases_eq i m) [
    | inl e ↦ omega (arith, own i j e, more j b, ap (λ k. cells rows k j) e)
    | inr e ↦ omega (arith, other i j e)
  ]

  pub row_kept : Capped N (cells (set rows m row)) × Solvent N (cells (set rows m row))
  row_kept = (
    λ i j. elim (cases_eq i m) [
      | inl e ↦ omega (arith, own i j e, fits j, ap (λ k. N.claim k j) e)
      | inr e ↦ omega (arith, other i j e, capped i j)
    ],
    λ i a.
        (let n = N.members in
        let rise = total_le n (λ k. cells rows k i) (λ k. cells (set rows m row) k i) (λ k b. up k i b a) in
        elim (cases_eq i m) [
          | inl e ↦ omega (arith, rise, total_eq n (cells (set rows m row) i) (λ j. get_or row j 0) (λ j _. own i j e), spent, ap (λ k. estate N (cells rows) k) e)
          | inr e ↦ omega (arith, rise, total_eq n (cells (set rows m row) i) (cells rows i) (λ j _. other i j e), solvent i a)
        ]),
  )
