-- A network of members that owe one another, what they have paid, and the payment matrices that clear it.
-- Members are the numbers below `members`; no statement reads an entry of any other number.
use Rattle.std.specs.Prelude.{◌≡◌, ℕ, zero, suc, ◌+◌, ◌-◌, ◌<◌, ◌≤◌, min, Bool, false, ◌||◌}

-- the sum of f k over the k below n
abbrev pub total : ℕ → (ℕ → ℕ) → ℕ
total zero f = 0
total (suc n) f = total n f + f n

-- whether some k below n passes the test
abbrev pub any : ℕ → (ℕ → Bool) → Bool
any zero test = false
any (suc n) test = test n || any n test

-- `claim i j` is the claim of creditor j on debtor i
pub record Network : Type 0 where
  pub members : ℕ
  pub endowment : ℕ → ℕ
  pub claim : ℕ → ℕ → ℕ

-- a payment matrix: `P i j` is what debtor i has paid creditor j
abbrev pub Payments : Type 0
Payments = ℕ → ℕ → ℕ

-- how debtors divide their estates: `D i E j` is what creditor j is awarded of the estate E of debtor i
abbrev pub Division : Type 0
Division = ℕ → ℕ → ℕ → ℕ

module _ (N : Network) where
  -- all that is claimed of i
  abbrev pub owed : ℕ → ℕ
  owed i = total N.members (N.claim i)

  -- all claims together
  abbrev pub units_of_claims : ℕ
  units_of_claims = total N.members owed

  -- i's endowment and all that was paid to it
  abbrev pub estate : Payments → ℕ → ℕ
  estate P i = N.endowment i + total N.members (λ k. P k i)

  -- all that i has paid
  abbrev pub outlay : Payments → ℕ → ℕ
  outlay P i = total N.members (P i)

  -- all that anyone has paid
  abbrev pub units_paid : Payments → ℕ
  units_paid P = total N.members (outlay P)

  -- what i has left; its equity, where the payments clear
  abbrev pub cash : Payments → ℕ → ℕ
  cash P i = estate P i - outlay P i

  -- each entry of P is at most that of Q
  abbrev pub AtMost : Payments → Payments → Type 0
  AtMost P Q = (i j : ℕ) → i < N.members → j < N.members → P i j ≤ Q i j

  -- each entry of P is that of Q
  abbrev pub Equal : Payments → Payments → Type 0
  Equal P Q = (i j : ℕ) → i < N.members → j < N.members → P i j ≡ Q i j

  -- some entry of P is below that of Q
  abbrev pub SomeBelow : Payments → Payments → Type 0
  SomeBelow P Q = (i : ℕ) × (j : ℕ) × (i < N.members) × (j < N.members) × (P i j < Q i j)

-- The laws of a division: the awards add up to the lesser of the estate and the claims, no award is above its
-- claim, and a larger estate gives no creditor less.
pub record LawfulDivision (N : Network) (D : Division) : Type 0 where
  pub exhausts : (i E : ℕ) → i < N.members → total N.members (D i E) ≡ min E (owed N i)
  pub capped : (i E j : ℕ) → i < N.members → j < N.members → D i E j ≤ N.claim i j
  pub monotone : (i E E' j : ℕ) → i < N.members → j < N.members → E ≤ E' → D i E j ≤ D i E' j

module _ (N : Network) (D : Division) where
  -- the due rows: what j is awarded of the estate that i has now
  abbrev pub due : Payments → Payments
  due P i j = D i (estate N P i) j

  -- each member's row is its due row
  abbrev pub Clearing : Payments → Type 0
  Clearing P = Equal N P (due P)

-- the clearing matrix that every other matches or exceeds in each entry
pub record Least (N : Network) (D : Division) (L : Payments) : Type 0 where
  pub clearing : Clearing N D L
  pub least : (Q : Payments) → Clearing N D Q → AtMost N L Q
