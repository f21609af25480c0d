-- The file of a network, one record further.
use Rattle.std.proofs.Common.{◌≡◌, ℕ, ◌+◌, ◌*◌, ◌/◌, ◌%◌, ◌<◌, ◌≤◌, List, [], ◌++◌, length, get_or, sym, refl, ap, ◌∙◌, arith}
use Rattle.std.proofs.lemmas.List.{append_assoc, length-append}
use Rattle.std.proofs.lemmas.Bool.{eq-eqb, ne_eqb}
use Rattle.network.specs.declared.figures.Figures.{Figures}
use Rattle.network.specs.Entries.{claim_at}
use Rattle.netfile.specs.Files.{run, network_record, member_bytes, claim_of, units_bytes, claim_bytes, claim_record, members_of, row_bytes, row_of, claims_of, members_to, claims_to, file_of}
use Rattle.netfile.proofs.Runs.{run_split, run_along, run_more, run_skip, length_run}

-- a claim's bytes: none at 0, else one record
pub claim_none : (i j x : ℕ) → x ≤ 0 → units_bytes i j x ≡ []
claim_none i j x h = rw (eq-eqb x 0 (omega arith))

pub claim_some : (i j x : ℕ) → 0 < x → units_bytes i j x ≡ claim_record i j x
claim_some i j x h = rw (ne_eqb x 0 (λ (e : x ≡ 0). omega arith))

pub members_more : (f : Figures) (k : ℕ) → members_to f (k + 1) ≡ members_to f k ++ member_bytes f k
members_more f k =
    ap (λ r. network_record f.n ++ r) (run_more (member_bytes f) k) ∙ sym (append_assoc (network_record f.n) (run (member_bytes f) 0 k) (member_bytes f k))

pub claims_more :
    (f : Figures) (p : ℕ) → 0 < claim_of f p → claims_to f (p + 1) ≡ claims_to f p ++ claim_record (p / 32) (p % 32) (claim_of f p)
claims_more f p h =
    ap (λ r. members_to f f.n ++ r) (run_more (claim_bytes f) p)
    ∙ (sym (append_assoc (members_to f f.n) (run (claim_bytes f) 0 p) (claim_bytes f p)) ∙ ap (λ r. claims_to f p ++ r) (claim_some _ _ (claim_of f p) h))

pub claims_skip : (f : Figures) (p : ℕ) → claim_of f p ≤ 0 → claims_to f (p + 1) ≡ claims_to f p
claims_skip f p h = ap (λ r. members_to f f.n ++ r) (run_skip (claim_bytes f) p (claim_none _ _ (claim_of f p) h))

pub length_members : (f : Figures) (k : ℕ) → length (members_to f k) ≡ 2 + k * 8
length_members f k = omega (arith, length_run (member_bytes f) 8 0 k (λ i. refl))

pub length_file :
    (f : Figures) → length (file_of f) ≡ ((2 + length (members_of f)) + length (claims_of f)) + 1
unfolding file_of
length_file f = rw (length-append, length-append, length-append)

-- the records of a debtor's claims stand behind those of the debtors before
pub rows_more :
    (f : Figures) (i : ℕ) → run (claim_bytes f) 0 (32 * (i + 1)) ≡ run (claim_bytes f) 0 (32 * i) ++ row_of i (get_or f.claims i [])
rows_more f i =
    let e : 32 * (i + 1) ≡ 32 * i + 32 = omega arith in
    let bytes : ℕ → ℕ → List ℕ = λ a b. units_bytes a b (claim_at f a b) in
    let same : (j : ℕ) → j < 32 → claim_bytes f ((0 + 32 * i) + j) ≡ row_bytes i (get_or f.claims i []) (0 + j) = λ j h.
    let d : ((0 + 32 * i) + j) / 32 ≡ i = omega arith in
    let m : ((0 + 32 * i) + j) % 32 ≡ 0 + j = omega arith in
    ap (λ a. bytes a (((0 + 32 * i) + j) % 32)) d ∙ ap (bytes i) m in
    ap (run (claim_bytes f) 0) e ∙ (run_split (claim_bytes f) 0 (32 * i) 32 ∙
    ap (λ r. run (claim_bytes f) 0 (32 * i) ++ r) (run_along (claim_bytes f) (row_bytes i (get_or f.claims i [])) (0 + 32 * i) 0 32 same))
