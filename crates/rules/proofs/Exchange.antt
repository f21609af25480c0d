-- Lists of as many units that differ: at some place the one has more, at some place the other.
use Rattle.std.specs.Prelude.{◌≡◌, ℕ, zero, suc, ◌<◌, ◌≤◌, ◌⊎◌, List, [], ◌∷◌, length, sum, slice_index, refl}
use Rattle.std.proofs.Common.{inl, inr, ⊎_elim, sym, arith}
use Rattle.std.proofs.lemmas.List.{get_or_past}
use Rattle.std.proofs.lemmas.List.Sums.{sum_by-cons}
use Rattle.std.proofs.lemmas.Bool.{cases_eq, cases_lt}
use Rattle.rules.specs.Lists.{sum_le}

-- no more at any place, and as much in all: the same
pub same_by_sum : (xs ys : List ℕ) → length xs ≡ length ys → ((k : ℕ) → slice_index xs k ≤ slice_index ys k) → sum ys ≤ sum xs → xs ≡ ys
same_by_sum [] [] same le all = refl
same_by_sum [] (y ∷ ys) same le all = absurd (omega arith)
same_by_sum (x ∷ xs) [] same le all = absurd (omega arith)
same_by_sum (x ∷ xs) (y ∷ ys) same le all =
    let total-x = sum_by-cons (λ x. x) x xs in
    let total-y = sum_by-cons (λ x. x) y ys in
    let first : x ≤ y = le 0 in
    let rest : sum xs ≤ sum ys = sum_le xs ys (omega arith) (λ k lt. le (suc k)) in
    let head : x ≡ y = omega arith in
    let tail : xs ≡ ys = same_by_sum xs ys (omega arith) (λ k. le (suc k)) (omega arith) in
    cc

abbrev More : List ℕ → List ℕ → Type 0
More xs ys = (i : ℕ) × (slice_index xs i < slice_index ys i)

more_below : (xs ys : List ℕ) (n : ℕ) → More xs ys ⊎ ((k : ℕ) → k < n → slice_index ys k ≤ slice_index xs k)
more_below xs ys zero = inr (λ k lt. absurd (omega arith))
more_below xs ys (suc n) =
    ⊎_elim inl
    (λ none.
    ⊎_elim
    (λ less. inl (n, less))
    (λ le. inr (λ k lt. ⊎_elim (λ is. rw is le) (λ ne. none k (omega arith)) (cases_eq k n)))
    (cases_lt (slice_index xs n) (slice_index ys n)))
    (more_below xs ys n)

more_or_none : (xs ys : List ℕ) → length xs ≡ length ys → More xs ys ⊎ ((k : ℕ) → slice_index ys k ≤ slice_index xs k)
more_or_none xs ys same =
    ⊎_elim inl
    (λ none. inr (λ k. ⊎_elim (λ lt. none k lt) (λ past. omega (arith, get_or_past ys k 0 (omega arith))) (cases_lt k (length xs))))
    (more_below xs ys (length xs))

pub same_unless :
    (xs ys : List ℕ) → length xs ≡ length ys → sum xs ≡ sum ys →
    ((i j : ℕ) → slice_index xs i < slice_index ys i → slice_index ys j < slice_index xs j → ⊥) →
    xs ≡ ys
same_unless xs ys same total never =
    ⊎_elim
    (λ more.
    ⊎_elim
    (λ less. absurd (never more.0 less.0 more.1 less.1))
    (λ none. same_by_sum xs ys same none (omega arith))
    (more_or_none ys xs (sym same)))
    (λ none. sym (same_by_sum ys xs (sym same) none (omega arith)))
    (more_or_none xs ys same)
