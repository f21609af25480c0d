-- Lists of units: their lengths, places and sums.
use Rattle.std.specs.Prelude.{◌≡◌, ℕ, zero, suc, ◌+◌, ◌-◌, ◌<◌, ◌≤◌, List, [], ◌∷◌, length, replicate, sum, slice_index, slice_index_or, refl}
use Rattle.std.proofs.Common.{sym, ap, arith}
use Rattle.std.proofs.lemmas.List.FromFn.{length-map-range_with_len, get_or-map-range_with_len}
use Rattle.std.proofs.lemmas.List.Elements.{All-from_get_or}
use Rattle.std.proofs.lemmas.List.Sums.{sum_by-cons, sum_by-le}
use Rattle.rules.specs.Claims.{Admitted}
use Rattle.rules.specs.Places.{each, plus, minus}

pub length_each : (cs : List ℕ) (f : ℕ → ℕ) → length (each cs f) ≡ length cs
length_each cs f = length-map-range_with_len f 0 (length cs)

pub get_or_each : (cs : List ℕ) (f : ℕ → ℕ) (k : ℕ) → k < length cs → slice_index (each cs f) k ≡ f k
get_or_each cs f k lt = get_or-map-range_with_len f 0 (length cs) k k 0 lt (omega arith)

pub length_plus : (xs ys : List ℕ) → length xs ≡ length ys → length (plus xs ys) ≡ length xs
length_plus [] ys same = sym same
length_plus (x ∷ xs) [] same = refl
length_plus (x ∷ xs) (y ∷ ys) same = ap suc (length_plus xs ys (omega arith))

pub get_or_plus : (xs ys : List ℕ) (k : ℕ) → slice_index (plus xs ys) k ≡ slice_index xs k + slice_index ys k
get_or_plus [] ys k = omega arith
get_or_plus (x ∷ xs) [] k = omega arith
get_or_plus (x ∷ xs) (y ∷ ys) zero = refl
get_or_plus (x ∷ xs) (y ∷ ys) (suc k) = get_or_plus xs ys k

pub sum_plus : (xs ys : List ℕ) → sum (plus xs ys) ≡ sum xs + sum ys
sum_plus [] ys = omega arith
sum_plus (x ∷ xs) [] = omega arith
sum_plus (x ∷ xs) (y ∷ ys) =
    omega (arith, sum_plus xs ys, sum_by-cons (λ x. x) x xs, sum_by-cons (λ x. x) y ys, sum_by-cons (λ x. x) (x + y) (plus xs ys))

pub length_minus : (xs ys : List ℕ) → length (minus xs ys) ≡ length xs
length_minus [] ys = refl
length_minus (x ∷ xs) [] = refl
length_minus (x ∷ xs) (y ∷ ys) = ap suc (length_minus xs ys)

pub get_or_minus : (xs ys : List ℕ) (k : ℕ) → slice_index (minus xs ys) k ≡ slice_index xs k - slice_index ys k
get_or_minus [] ys k = omega arith
get_or_minus (x ∷ xs) [] k = omega arith
get_or_minus (x ∷ xs) (y ∷ ys) zero = refl
get_or_minus (x ∷ xs) (y ∷ ys) (suc k) = get_or_minus xs ys k

pub sum_minus : (xs ys : List ℕ) → length ys ≡ length xs → ((k : ℕ) → slice_index ys k ≤ slice_index xs k) → sum (minus xs ys) + sum ys ≡ sum xs
sum_minus [] [] same le = refl
sum_minus [] (y ∷ ys) same le = absurd (omega arith)
sum_minus (x ∷ xs) [] same le = absurd (omega arith)
sum_minus (x ∷ xs) (y ∷ ys) same le =
    omega (
      arith,
      le 0,
      sum_minus xs ys (omega arith) (λ k. le (suc k)),
      sum_by-cons (λ x. x) x xs,
      sum_by-cons (λ x. x) y ys,
      sum_by-cons (λ x. x) (x - y) (minus xs ys),
    )

pub get_or_zeros : (n k : ℕ) → slice_index_or {A = ℕ} (replicate n 0) k 0 ≡ 0
get_or_zeros zero k = refl
get_or_zeros (suc n) zero = refl
get_or_zeros (suc n) (suc k) = get_or_zeros n k

-- no more at any place, so no more in all
pub sum_le : (xs ys : List ℕ) → length xs ≡ length ys → ((k : ℕ) → k < length xs → slice_index xs k ≤ slice_index ys k) → sum xs ≤ sum ys
sum_le [] [] same le = omega arith
sum_le [] (y ∷ ys) same le = omega arith
sum_le (x ∷ xs) [] same le = absurd (omega arith)
sum_le (x ∷ xs) (y ∷ ys) same le =
    omega (arith, le 0 (omega arith), sum_le xs ys (omega arith) (λ k lt. le (suc k) (omega arith)), sum_by-cons (λ x. x) x xs, sum_by-cons (λ x. x) y ys)

pub admitted_total : (cs : List ℕ) → Admitted cs → sum cs ≤ 320000
admitted_total cs ok = omega (arith, sum_by-le (λ x. x) 10000 cs (All-from_get_or (λ x. x ≤ 10000) cs 0 (λ k lt. ok.small k)), ok.few)
