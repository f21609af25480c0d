-- Sums and tests over the members below n, in the library's words for the front of a list.
use Rattle.std.proofs.Common.{◌≡◌, ℕ, zero, suc, ◌+◌, ◌<◌, ◌≤◌, Bool, true, false, not, ◌||◌, eqb, ltb, List, [], ◌∷◌, length, get_or, take, zip, sum, sum_by, sym, refl, ap, ◌∙◌, add-one, le_refl, inl, inr, arith}
use Rattle.std.specs.List.{list_any}
use Rattle.std.proofs.lemmas.List.Sums.{sum_by_more}
use Rattle.std.proofs.lemmas.Bool.{cases_lt, lt-ltb, le-ltb, eq-eqb, ne_eqb, or_from, not_from_true, not_from_false}
use Rattle.clearing.specs.Networks.{total, any}

pub sum_by_total : {X : Type 0} (f : X → ℕ) (d : X) (xs : List X) (n : ℕ) → n ≤ length xs → sum_by f (take n xs) ≡ total n (λ k. f (get_or xs k d))
sum_by_total f d xs zero h = refl
sum_by_total f d xs (suc n) h =
    ap (λ k. sum_by f (take k xs)) (sym (add-one n)) ∙ sum_by_more f xs n d h ∙ ap (λ s. s + f (get_or xs n d)) (sum_by_total f d xs n (omega arith))

pub sum_total_front : (xs : List ℕ) (n : ℕ) → n ≤ length xs → sum (take n xs) ≡ total n (λ k. get_or xs k 0)
sum_total_front xs n h = sum_by_total (λ (x : ℕ). x) 0 xs n h

or_swap : (a b c : Bool) → (a || (b || c)) ≡ (b || (a || c))
or_swap false b c = refl
or_swap true true c = refl
or_swap true false c = refl

any_front : (n : ℕ) (test : ℕ → Bool) → any (suc n) test ≡ (test 0 || any n (λ k. test (suc k)))
any_front zero test = refl
any_front (suc n) test = ap (λ b. test (suc n) || b) (any_front n test) ∙ or_swap (test (suc n)) (test 0) (any n (λ k. test (suc k)))

pub any_none : (n : ℕ) (test : ℕ → Bool) → ((k : ℕ) → k < n → test k ≡ false) → any n test ≡ false
any_none zero test h = refl
any_none (suc n) test h = or_from (test n) (any n test) (h n (le_refl (suc n))) (any_none n test (λ k l. h k (omega arith)))

pub any_zip : (p : ℕ × ℕ → Bool) (xs ys : List ℕ) (n : ℕ) → n ≤ length xs → n ≤ length ys → list_any p (zip (take n xs) (take n ys)) ≡ any n (λ k. p (get_or xs k 0, get_or ys k 0))
any_zip p xs ys zero a b = refl
any_zip p [] ys (suc n) a b = absurd (omega arith)
any_zip p (x ∷ xs) [] (suc n) a b = absurd (omega arith)
any_zip p (x ∷ xs) (y ∷ ys) (suc n) a b =
    ap (λ r. p (x, y) || r) (any_zip p xs ys n (omega arith) (omega arith)) ∙ sym (any_front n (λ k. p (get_or (x ∷ xs) k 0, get_or (y ∷ ys) k 0)))

-- a number that is not above another is less or the same
pub less_differs : (x y : ℕ) → x ≤ y → ltb x y ≡ not (eqb x y)
less_differs x y h =
    elim (cases_lt x y) [
      | inl l ↦ lt-ltb x y l ∙ sym (not_from_false (eqb x y) (ne_eqb x y (λ e. omega arith)))
      | inr g ↦ le-ltb x y g ∙ sym (not_from_true (eqb x y) (eq-eqb x y (omega arith)))
    ]
