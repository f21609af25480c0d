-- What paying, settling, rounds and closing make of a payment matrix.
use Rattle.std.specs.Prelude.{◌≡◌, ℕ, zero, suc, ◌+◌, ◌<◌, Bool, true, false, cond, not, ◌&&◌, Some, None, Option, ◌==◌, nat_lt}
use Rattle.clearing.specs.Networks.{Network, Division, Payments, total, any, due}

-- nobody has paid anything
abbrev pub nothing : Payments
nothing i j = 0

-- u more units from d to c
abbrev pub paid_more : Payments → ℕ → ℕ → ℕ → Payments
paid_more P d c u i j = cond (i == d && j == c) (P i j + u) (P i j)

-- whether units were moved from P to Q: some entry differs
abbrev pub moved : Network → Payments → Payments → Bool
moved N P Q = any N.members (λ i. any N.members (λ j. not (P i j == Q i j)))

-- the lowest k below n that passes the test, if any does
abbrev pub or_else : Option ℕ → Option ℕ → Option ℕ
or_else (Some k) other = Some k
or_else None other = other

abbrev pub first : ℕ → (ℕ → Bool) → Option ℕ
first zero test = None
first (suc n) test = or_else (first n test) (cond (test n) (Some n) None)

module _ (N : Network) (D : Division) where
  -- m has receded: an entry of its row is above its due
  abbrev pub receded : Payments → ℕ → Bool
  receded P m = any N.members (λ j. nat_lt (due N D P m j) (P m j))

  -- m's row is made its due row
  abbrev pub settled : Payments → ℕ → Payments
  settled P m i j = cond (i == m) (due N D P i j) (P i j)

  -- the same, unless m has receded and is passed over
  abbrev pub settle : Payments → ℕ → Payments
  settle P m = cond (receded P m) P (settled P m)

  -- whether m's settle would move units
  abbrev pub would_pay : Payments → ℕ → Bool
  would_pay P m = moved N P (settle P m)

  -- the lowest-numbered member whose settle would pay
  abbrev pub next : Payments → Option ℕ
  next P = first N.members (would_pay P)

  -- the members below k settle, in order
  abbrev pub settle_below : ℕ → Payments → Payments
  settle_below zero P = P
  settle_below (suc k) P = settle (settle_below k P) k

  -- all members settle, in order
  abbrev pub round : Payments → Payments
  round P = settle_below N.members P

  -- how many members a round passes over: those that have receded when their turn comes
  abbrev pub passed_over : Payments → ℕ
  passed_over P = total N.members (λ k. cond (receded (settle_below k P) k) 1 0)

  -- r rounds
  abbrev pub rounds : ℕ → Payments → Payments
  rounds zero P = P
  rounds (suc r) P = round (rounds r P)

  -- rounds until one moves nothing: r moved units, and the next one moves none
  pub record Closes (P : Payments) (r : ℕ) : Type 0 where
    pub moving : (k : ℕ) → k < r → moved N (rounds k P) (rounds (suc k) P) ≡ true
    pub resting : moved N (rounds r P) (rounds (suc r) P) ≡ false
