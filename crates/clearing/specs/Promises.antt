-- What is promised of the payments of a book, L being the least clearing matrix.
use Rattle.std.specs.Prelude.{◌≡◌, ℕ, ◌<◌, ◌≤◌, true, ◌↔◌, None}
use Rattle.clearing.specs.Networks.{Network, Division, Payments, LawfulDivision, Least, AtMost, SomeBelow, total, estate, outlay, cash}
use Rattle.clearing.specs.Settling.{next, would_pay}

-- at every moment
pub record Sound (N : Network) (L P : Payments) : Type 0 where
  -- no claim is paid above the least clearing matrix
  pub below : AtMost N P L
  -- no cash is negative
  pub solvent : (i : ℕ) → i < N.members → outlay N P i ≤ estate N P i
  -- the cash total is the endowment total
  pub conserved : total N.members (cash N P) ≡ total N.members N.endowment

-- at every moment before close
pub record Tracked (N : Network) (D : Division) (L P : Payments) : Type 0 where
  -- some member's settle would pay exactly when an entry falls short
  pub payable : ((m : ℕ) × (m < N.members) × (would_pay N D P m ≡ true)) ↔ SomeBelow N P L
  -- next answers none exactly when no entry does
  pub answer : (next N D P ≡ None) ↔ (SomeBelow N P L → ⊥)

-- every network under a lawful division has a least clearing matrix
abbrev pub LeastExists : Type 0
LeastExists = (N : Network) (D : Division) → LawfulDivision N D → (L : Payments) × Least N D L
