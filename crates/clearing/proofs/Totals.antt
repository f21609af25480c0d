-- Sums and tests over the members below n.
use Rattle.std.proofs.Common.{◌≡◌, ℕ, zero, suc, ◌+◌, ◌-◌, ◌*◌, ◌<◌, ◌≤◌, Bool, ◌||◌, Decides, sym, refl, ap, inl, inr, zero-le, le_of_eq, le_refl, le_antisymm, add-one, arith}
use Rattle.std.proofs.lemmas.Bool.{cases_order}
use Rattle.std.proofs.lemmas.Bool.Decides.{Decides-below_or}
use Rattle.clearing.specs.Networks.{total, any}

pub any_decides : (test : ℕ → Bool) (P : ℕ → Type 0) → ((k : ℕ) → Decides (test k) (P k)) → (n : ℕ) → Decides (any n test) ((k : ℕ) × (k < n) × P k)
any_decides test P each n = Decides-below_or test P (λ m. any m test) each refl (λ _. refl) n

pub total_le : (n : ℕ) (f g : ℕ → ℕ) → ((k : ℕ) → k < n → f k ≤ g k) → total n f ≤ total n g
total_le zero f g h = zero-le
total_le (suc n) f g h = omega (arith, total_le n f g (λ k l. h k (omega arith)), h n (le_refl (suc n)))

pub total_eq : (n : ℕ) (f g : ℕ → ℕ) → ((k : ℕ) → k < n → f k ≡ g k) → total n f ≡ total n g
total_eq n f g h = le_antisymm (total_le n f g (λ k l. le_of_eq (h k l))) (total_le n g f (λ k l. le_of_eq (sym (h k l))))

pub total_lt : (n : ℕ) (f g : ℕ → ℕ) → ((k : ℕ) → k < n → f k ≤ g k) → (k : ℕ) → k < n → f k < g k → total n f < total n g
total_lt zero f g h k l s = omega arith
total_lt (suc n) f g h k l s =
    elim (cases_order k n) [
      | inl e ↦ let top : f n < g n = rw e at s in omega (arith, total_le n f g (λ m b. h m (omega arith)))
      | inr (inl b) ↦ omega (arith, total_lt n f g (λ m c. h m (omega arith)) k b s, h n (le_refl (suc n)))
      | inr (inr b) ↦ omega arith
    ]

pub total_add : (n : ℕ) (f g : ℕ → ℕ) → total n (λ k. f k + g k) ≡ total n f + total n g
total_add zero f g = refl
total_add (suc n) f g = omega (arith, total_add n f g)

pub total_none : (n : ℕ) → total n (λ k. 0) ≡ 0
total_none zero = refl
total_none (suc n) = omega (arith, total_none n)

-- by rows or by columns
pub total_swap : (m n : ℕ) (f : ℕ → ℕ → ℕ) → total m (λ i. total n (λ k. f k i)) ≡ total n (λ k. total m (λ i. f k i))
total_swap zero n f = sym (total_none n)
total_swap (suc m) n f = omega (arith, total_swap m n f, total_add n (λ k. total m (λ i. f k i)) (λ k. f k m))

pub total_sub : (n : ℕ) (f g : ℕ → ℕ) → ((k : ℕ) → k < n → g k ≤ f k) → total n (λ k. f k - g k) + total n g ≡ total n f
total_sub zero f g h = refl
total_sub (suc n) f g h = omega (arith, total_sub n f g (λ k l. h k (omega arith)), h n (le_refl (suc n)))

-- equal sums of parts none of which is larger: equal parts
pub total_parts : (n : ℕ) (f g : ℕ → ℕ) → ((k : ℕ) → k < n → f k ≤ g k) → total n f ≡ total n g → (k : ℕ) → k < n → f k ≡ g k
total_parts n f g h e k l =
    elim (cases_order (f k) (g k)) [
      | inl s ↦ s
      | inr (inl s) ↦ omega (arith, total_lt n f g h k l s)
      | inr (inr s) ↦ omega (arith, h k l)
    ]

-- a loop's step, at the code's i + 1
pub total_more : (i : ℕ) (f : ℕ → ℕ) → total (i + 1) f ≡ total i f + f i
total_more i f = ap (λ n. total n f) (add-one i)

pub any_more : (i : ℕ) (test : ℕ → Bool) → any (i + 1) test ≡ (test i || any i test)
any_more i test = ap (λ n. any n test) (add-one i)

pub total_cap : (n : ℕ) (f : ℕ → ℕ) (m : ℕ) → ((k : ℕ) → k < n → f k ≤ m) → total n f ≤ n * m
total_cap zero f m h = zero-le
total_cap (suc n) f m h = omega (arith, total_cap n f m (λ k l. h k (omega arith)), h n (le_refl (suc n)))
