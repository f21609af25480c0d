-- A run of records: split in two, one more, its length.
use Rattle.std.proofs.Common.{◌≡◌, ℕ, zero, suc, ◌+◌, ◌-◌, ◌*◌, ◌<◌, ◌≤◌, List, [], ◌++◌, length, sym, refl, ap, ◌∙◌, add-zero, add_assoc, suc-mul, suc-add, zero-add, zero-mul, arith}
use Rattle.std.proofs.lemmas.List.{append_assoc, append-nil, length-append}
use Rattle.netfile.specs.Files.{run}

pub run_split : (F : ℕ → List ℕ) (p a b : ℕ) → run F p (a + b) ≡ run F p a ++ run F (p + a) b
unfolding run
run_split F p zero b = rw (zero-add, add-zero)
run_split F p (suc a) b =
    let e : p + suc a ≡ (p + 1) + a = omega arith in
    rw (suc-add, e, append_assoc) (ap (λ r. F p ++ r) (run_split F (p + 1) a b))

pub run_more : (F : ℕ → List ℕ) (c : ℕ) → run F 0 (c + 1) ≡ run F 0 c ++ F c
unfolding run
run_more F c = run_split F 0 c 1 ∙ (ap (λ r. run F 0 c ++ r) (append-nil (F (0 + c))) ∙ ap (λ z. run F 0 c ++ F z) (zero-add c))

pub run_skip : (F : ℕ → List ℕ) (c : ℕ) → F c ≡ [] → run F 0 (c + 1) ≡ run F 0 c
run_skip F c e = run_more F c ∙ rw (e, append-nil)

pub length_run : (F : ℕ → List ℕ) (k p c : ℕ) → ((i : ℕ) → length (F i) ≡ k) → length (run F p c) ≡ c * k
unfolding run
length_run F k p zero each = rw zero-mul
length_run F k p (suc c) each = rw (length-append, each p, length_run F k (p + 1) c each, suc-mul) (omega arith)

-- a part of a run is no longer than the run
pub run_room : (F : ℕ → List ℕ) (a n : ℕ) → a ≤ n → length (run F 0 a) ≤ length (run F 0 n)
run_room F a n h =
    let e : n ≡ a + (n - a) = omega arith in
    omega (arith, ap (λ m. length (run F 0 m)) e, ap length (run_split F 0 a (n - a)), length-append (run F 0 a) (run F (0 + a) (n - a)))

-- the length of a run of one more
pub length_more : (F : ℕ → List ℕ) (c : ℕ) → length (run F 0 (c + 1)) ≡ length (run F 0 c) + length (F c)
length_more F c = ap length (run_more F c) ∙ length-append (run F 0 c) (F c)

-- runs that agree, and a run of nothing
pub run_along : (F G : ℕ → List ℕ) (p q c : ℕ) → ((j : ℕ) → j < c → F (p + j) ≡ G (q + j)) → run F p c ≡ run G q c
unfolding run
run_along F G p q zero same = refl
run_along F G p q (suc c) same =
    let here : F p ≡ G q = ap F (sym (add-zero p)) ∙ (same 0 (omega arith) ∙ ap G (add-zero q)) in
    let next : (j : ℕ) → j < c → F ((p + 1) + j) ≡ G ((q + 1) + j) = λ j h.
    ap F (add_assoc p 1 j) ∙ (same (1 + j) (omega arith) ∙ ap G (sym (add_assoc q 1 j))) in
    rw (here, run_along F G (p + 1) (q + 1) c next)

pub run_same : (F G : ℕ → List ℕ) (p c : ℕ) → ((i : ℕ) → p ≤ i → i < p + c → F i ≡ G i) → run F p c ≡ run G p c
run_same F G p c same = run_along F G p p c (λ j h. same (p + j) (omega arith) (omega arith))

run_nothing : (F : ℕ → List ℕ) (p c : ℕ) → ((i : ℕ) → p ≤ i → i < p + c → F i ≡ []) → run F p c ≡ []
unfolding run
run_nothing F p zero none = refl
run_nothing F p (suc c) none =
    rw (none p (omega arith) (omega arith)) (run_nothing F (p + 1) c (λ i a b. none i (omega arith) (omega arith)))

-- a run goes no further where nothing follows
pub run_idle : (F : ℕ → List ℕ) (p q : ℕ) → p ≤ q → ((i : ℕ) → p ≤ i → i < q → F i ≡ []) → run F 0 q ≡ run F 0 p
run_idle F p q h none =
    let e : q ≡ p + (q - p) = omega arith in
    ap (run F 0) e ∙ (run_split F 0 p (q - p) ∙
    (ap (λ r. run F 0 p ++ r) (run_nothing F (0 + p) (q - p) (λ i a b. none i (omega arith) (omega arith))) ∙ append-nil (run F 0 p)))
