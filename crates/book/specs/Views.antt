-- A book as the mathematics sees it.
use Rattle.std.specs.Prelude.{◌≡◌, ℕ, ◌≤◌, Bool, List, length, slice_index}
use Rattle.clearing.specs.Networks.{Network, Division, Payments, total, estate, outlay, cash, due}
use Rattle.clearing.specs.Settling.{receded}
use Rattle.book.specs.Tables.{cells, network_of}
use Rattle.book.specs.Rulebooks.{Meaning, division}
use Rattle.book.specs.declared.book.Book.{Book}

abbrev pub net_of : Book → Network
net_of B = network_of B.figures

abbrev pub payments_of : Book → Payments
payments_of B = cells B.paid

abbrev pub division_of : Meaning → Book → Division
division_of A B = division A B.figures

abbrev pub estate_of : Book → ℕ → ℕ
estate_of B = estate (net_of B) (payments_of B)

abbrev pub outlay_of : Book → ℕ → ℕ
outlay_of B = outlay (net_of B) (payments_of B)

abbrev pub cash_of : Book → ℕ → ℕ
cash_of B = cash (net_of B) (payments_of B)

abbrev pub due_of : Meaning → Book → Payments
due_of A B = due (net_of B) (division_of A B) (payments_of B)

abbrev pub receded_in : Meaning → Book → ℕ → Bool
receded_in A B = receded (net_of B) (division_of A B) (payments_of B)

-- a list that holds the due row of member m, which its claims cap and its estate pays
pub record DueRow (A : Meaning) (B : Book) (m : ℕ) (row : List ℕ) : Type 0 where
  pub wide : length row ≡ 32
  pub value : (j : ℕ) → slice_index row j ≡ due_of A B m j
  pub capped : (j : ℕ) → slice_index row j ≤ (net_of B).claim m j
  pub spent : total (net_of B).members (λ j. slice_index row j) ≤ estate_of B m
