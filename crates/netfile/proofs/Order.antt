-- The order of the claims, and the order of their places.
use Rattle.std.proofs.Common.{List, get_or, ◌≡◌, ℕ, ◌+◌, ◌*◌, ◌/◌, ◌%◌, ◌<◌, ◌≤◌, true, Some, None, Option, inl, inr, ⊎_elim, arith}
use Rattle.std.proofs.lemmas.Bool.{cases_lt, lt-ltb, le-ltb, eq-eqb}
use Rattle.network.specs.declared.figures.Figures.{Figures}
use Rattle.network.specs.Entries.{claim_at}
use Rattle.netfile.specs.Files.{place_after}
use Rattle.netfile.specs.Checks.{follows}
use Rattle.netfile.specs.Loads.{LastClaim}

-- the place of the claim whose record t begins with
abbrev pub place_of : List ℕ → ℕ
place_of t = 32 * get_or t 1 0 + get_or t 2 0

-- only members claim
pub claim_members : (f : Figures) (i j : ℕ) → 0 < claim_at f i j → (i < f.n) × (j < f.n)
claim_members f i j some =
    let none = f.allowed i j in (
      ⊎_elim (λ (y : i < f.n). y) (λ (y : f.n ≤ i). absurd (let z = none (inr (inl y)) in omega arith)) (cases_lt i f.n),
      ⊎_elim (λ (y : j < f.n). y) (λ (y : f.n ≤ j). absurd (let z = none (inr (inr y)) in omega arith)) (cases_lt j f.n),
    )

pub last_within : (f : Figures) (last : Option (ℕ × ℕ)) → LastClaim f last → place_after last ≤ 1024
last_within f None h = omega arith
last_within f (Some last) h =
    let m = claim_members f last.0 last.1 h in
    omega (arith, m.0, m.1, f.few)

-- a claim behind the last one is at a place behind it
pub follows_place : (f : Figures) (last : Option (ℕ × ℕ)) (i j : ℕ) → LastClaim f last → j < 32 → follows last i j ≡ true → place_after last ≤ 32 * i + j
follows_place f None i j h k b = omega arith
follows_place f (Some last) i j h k b =
    let m = claim_members f last.0 last.1 h in
    let few = f.few in
    grind arith

-- and the other way round
pub place_follows : (p q : ℕ) → p < q → follows (Some (p / 32, p % 32)) (q / 32) (q % 32) ≡ true
place_follows p q h =
    ⊎_elim
    (λ (y : p / 32 < q / 32). rw (lt-ltb (p / 32) (q / 32) y))
    (λ (y : q / 32 ≤ p / 32). rw (le-ltb (p / 32) (q / 32) y, eq-eqb (p / 32) (q / 32) (omega arith), lt-ltb (p % 32) (q % 32) (omega arith)))
    (cases_lt (p / 32) (q / 32))
