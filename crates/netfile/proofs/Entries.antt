-- What one entry changes of a network's figures, and what it leaves.
use Rattle.std.proofs.Common.{◌≡◌, ℕ, ◌+◌, ◌*◌, ◌/◌, ◌%◌, ◌<◌, ◌≢◌, List, [], length, get_or, set, refl, ap, ◌∙◌, ⊎_elim, arith}
use Rattle.std.proofs.lemmas.List.{get_or-set_same, get_or-set_other}
use Rattle.std.proofs.lemmas.Bool.{cases_eq}
use Rattle.network.specs.declared.figures.Figures.{Figures}
use Rattle.network.specs.declared.figures.Member.{Member as Entry}
use Rattle.network.specs.Limits.{nobody}
use Rattle.network.specs.Entries.{member_at, claim_at, MemberSet, ClaimSet}
use Rattle.netfile.specs.Files.{claim_of}

abbrev pub entry : ℕ → ℕ → ℕ → Entry
entry house class endowment = record { house = house; class = class; endowment = endowment }

module _ (f g : Figures) (k house class endowment : ℕ) (s : MemberSet f k house class endowment g) where
  pub member_entered : k < f.n → member_at g k ≡ entry house class endowment
  member_entered below =
      let in_table : k < length f.members = omega (arith, f.table, f.few) in
      ap (λ ms. get_or ms k nobody) s.members ∙ get_or-set_same f.members k (entry house class endowment) nobody in_table

  pub member_kept : (i : ℕ) → i ≢ k → member_at g i ≡ member_at f i
  member_kept i other = ap (λ ms. get_or ms i nobody) s.members ∙ get_or-set_other f.members k i (entry house class endowment) nobody other

  pub claims_kept : (q : ℕ) → claim_of g q ≡ claim_of f q
  claims_kept q = ap (λ C. get_or (get_or C (q / 32) []) (q % 32) 0) s.claims

-- the claim at a place
pub at_place : (f : Figures) (q i j : ℕ) → q / 32 ≡ i → q % 32 ≡ j → claim_of f q ≡ claim_at f i j
at_place f q i j d m = ap (λ a. claim_at f a (q % 32)) d ∙ ap (claim_at f i) m

-- one cell of a table is set, and the others stay
cell_same :
    (C : List (List ℕ)) (i j x : ℕ) → i < length C → j < length (get_or C i []) →
    get_or (get_or (set C i (set (get_or C i []) j x)) i []) j 0 ≡ x
cell_same C i j x h k = rw (get_or-set_same C i (set (get_or C i []) j x) [] h) (get_or-set_same (get_or C i []) j x 0 k)

cell_other :
    (C : List (List ℕ)) (i j x a b : ℕ) → i < length C → (a ≡ i → b ≢ j) →
    get_or (get_or (set C i (set (get_or C i []) j x)) a []) b 0 ≡ get_or (get_or C a []) b 0
cell_other C i j x a b h ne =
    ⊎_elim
    (λ (e : a ≡ i). rw (e, get_or-set_same C i (set (get_or C i []) j x) [] h) (get_or-set_other (get_or C i []) j b x 0 (ne e)))
    (λ (n : a ≢ i). rw (get_or-set_other C i a (set (get_or C i []) j x) [] n) refl)
    (cases_eq a i)

module _ (f g : Figures) (i j x q : ℕ) (debtor : i < f.n) (creditor : j < f.n) (place : q ≡ 32 * i + j) (s : ClaimSet f i j x g) where
  pub place_divides : (q / 32 ≡ i) × (q % 32 ≡ j)
  place_divides = (omega (arith, f.few), omega (arith, f.few))

  pub claim_entered : claim_of g q ≡ x
  claim_entered =
      let row : i < length f.claims = omega (arith, f.rows, f.few) in
      let cell : j < length (get_or f.claims i []) = omega (arith, f.few, f.columns i (omega (arith, f.few))) in
      let there = at_place g q i j place_divides.0 place_divides.1 in
      there ∙ (ap (λ C. get_or (get_or C i []) j 0) s.claims ∙ cell_same f.claims i j x row cell)

  pub claim_kept : (r : ℕ) → r ≢ q → claim_of g r ≡ claim_of f r
  claim_kept r other =
      let row : i < length f.claims = omega (arith, f.rows, f.few) in
      let apart : r / 32 ≡ i → r % 32 ≢ j = λ d m. other (omega arith) in
      ap (λ C. get_or (get_or C (r / 32) []) (r % 32) 0) s.claims ∙ cell_other f.claims i j x (r / 32) (r % 32) row apart
