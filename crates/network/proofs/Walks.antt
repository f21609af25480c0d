-- A chain that goes over a list with the index of each element: what it gives in all, where f says what it gives below each index.
use Rattle.std.proofs.Common.{◌≡◌, ℕ, zero, suc, ◌+◌, ◌<◌, ◌≤◌, Bool, true, false, cond, not, List, [], ◌∷◌, ◌++◌, map, filter, length, get_or, refl, sym, ap, ◌∙◌, append_assoc, add-zero, zero-add, add-one, subst, arith}
use Rattle.std.specs.List.{zip, range_with_len, flat_map}
use Rattle.std.proofs.lemmas.List.{append-nil, get_or_default}
use Rattle.std.proofs.lemmas.List.Concat.{flat_map_single}
use Rattle.std.proofs.lemmas.List.FromFn.{length-range_with_len, get_or-range_with_len}
use Rattle.std.proofs.lemmas.Slice.Zip.{length-zip, get_or-zip}

-- from an index a on
walked_from :
    {X A : Type 0} (piece : ℕ → X → List A) (d : X) (f : ℕ → List A) (a n : ℕ) (xs : List X) → n ≤ length xs →
    ((m : ℕ) → m < n → f (suc (a + m)) ≡ f (a + m) ++ piece (a + m) (get_or xs m d)) →
    f (a + n) ≡ f a ++ flat_map (λ p. piece p.0 p.1) (zip (range_with_len a n) xs)
walked_from piece d f a zero xs fits step = ap f (add-zero a) ∙ sym (append-nil (f a))
walked_from piece d f a (suc n) [] fits step = absurd (omega arith)
walked_from piece d f a (suc n) (x ∷ xs) fits step =
    let first : f (a + 1) ≡ f a ++ piece a x =
    ap f (add-one a) ∙ (let e : a ≡ a + 0 = omega arith in subst (λ k. f (suc k) ≡ f k ++ piece k x) (sym e) (step 0 (omega arith))) in
    let later : (m : ℕ) → m < n → f (suc (a + 1 + m)) ≡ f (a + 1 + m) ++ piece (a + 1 + m) (get_or xs m d) =
    λ m l. let e : a + suc m ≡ a + 1 + m = omega arith in subst (λ k. f (suc k) ≡ f k ++ piece k (get_or xs m d)) e (step (suc m) (omega arith)) in
    let e : a + suc n ≡ a + 1 + n = omega arith in
    ap f e ∙ walked_from piece d f (a + 1) n xs (omega arith) later ∙ ap (λ ys. ys ++ flat_map (λ p. piece p.0 p.1) (zip (range_with_len (a + 1) n) xs)) first ∙
    append_assoc (f a) (piece a x) (flat_map (λ p. piece p.0 p.1) (zip (range_with_len (a + 1) n) xs))

-- a piece at each of the first n elements
pub walked :
    {X A : Type 0} (piece : ℕ → X → List A) (d : X) (f : ℕ → List A) (n : ℕ) (xs : List X) → f 0 ≡ [] → n ≤ length xs →
    ((m : ℕ) → m < n → f (suc m) ≡ f m ++ piece m (get_or xs m d)) →
    flat_map (λ p. piece p.0 p.1) (zip (range_with_len 0 n) xs) ≡ f n
walked piece d f n xs begins fits step =
    let all : f (0 + n) ≡ f 0 ++ flat_map (λ p. piece p.0 p.1) (zip (range_with_len 0 n) xs) =
    walked_from piece d f 0 n xs fits (λ m l. subst (λ k. f (suc k) ≡ f k ++ piece k (get_or xs m d)) (sym (zero-add m)) (step m l)) in
    sym (ap f (sym (zero-add n)) ∙ all ∙ ap (λ ys. ys ++ flat_map (λ p. piece p.0 p.1) (zip (range_with_len 0 n) xs)) begins)

-- one element at each
pub walked_each :
    {X A : Type 0} (one : ℕ → X → A) (d : X) (f : ℕ → List A) (n : ℕ) (xs : List X) → f 0 ≡ [] → n ≤ length xs →
    ((m : ℕ) → m < n → f (suc m) ≡ f m ++ one m (get_or xs m d) ∷ []) →
    map (λ p. one p.0 p.1) (zip (range_with_len 0 n) xs) ≡ f n
walked_each one d f n xs begins fits step =
    sym (flat_map_single (λ p. one p.0 p.1) (zip (range_with_len 0 n) xs)) ∙ walked (λ m x. one m x ∷ []) d f n xs begins fits step

-- one at each that is wanted
wanted : {X A : Type 0} (test : X → Bool) (one : X → A) (xs : List X) → map one (filter test xs) ≡ flat_map (λ x. cond (test x) (one x ∷ []) []) xs
wanted test one [] = refl
wanted test one (x ∷ xs) =
    elim (test x) as (λ b. map one (cond b (x ∷ filter test xs) (filter test xs)) ≡ cond b (one x ∷ []) [] ++ flat_map (λ x. cond (test x) (one x ∷ []) []) xs) [
      | true ↦ ap (λ ys. one x ∷ ys) (wanted test one xs)
      | false ↦ wanted test one xs
    ]

pub walked_some :
    {X A : Type 0} (test : ℕ → X → Bool) (one : ℕ → X → A) (d : X) (f : ℕ → List A) (n : ℕ) (xs : List X) → f 0 ≡ [] → n ≤ length xs →
    ((m : ℕ) → m < n → f (suc m) ≡ f m ++ cond (test m (get_or xs m d)) (one m (get_or xs m d) ∷ []) []) →
    map (λ p. one p.0 p.1) (filter (λ p. test p.0 p.1) (zip (range_with_len 0 n) xs)) ≡ f n
walked_some test one d f n xs begins fits step =
    wanted (λ p. test p.0 p.1) (λ p. one p.0 p.1) (zip (range_with_len 0 n) xs) ∙ walked (λ m x. cond (test m x) (one m x ∷ []) []) d f n xs begins fits step

pub not_cond : {X : Type 0} (b : Bool) (x y : X) → cond b x y ≡ cond (not b) y x
not_cond true x y = refl
not_cond false x y = refl

-- a `for` over a range beside a list: the k-th pair has k and the k-th element
pub pair_at :
    {X : Type 0} (n k : ℕ) (xs : List X) (d : X) (p : ℕ × X) → n ≤ length xs →
    (k < length (zip (range_with_len 0 n) xs)) × (p ≡ get_or (zip (range_with_len 0 n) xs) k p) → (k < n) × (p.0 ≡ k) × (p.1 ≡ get_or xs k d)
pair_at n k xs d p fits (inside, is) =
    let all : length (zip (range_with_len 0 n) xs) ≡ n = rw length-zip rw length-range_with_len omega arith in
    let lt : k < n = omega (arith, inside, all) in
    let both : p ≡ (get_or (range_with_len 0 n) k p.0, get_or xs k p.1) = is ∙ get_or-zip (range_with_len 0 n) xs k p (rw length-range_with_len lt) (omega (arith, lt)) in
    (lt, ap (λ q. q.0) both ∙ get_or-range_with_len 0 n k p.0 lt ∙ zero-add k, ap (λ q. q.1) both ∙ get_or_default xs k p.1 d (omega (arith, lt)))
