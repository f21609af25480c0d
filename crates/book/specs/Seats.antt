-- The seats of a book, and what a settle of the member there would make of its row.
use Rattle.std.specs.Prelude.{◌≡◌, ℕ, ◌-◌, ◌<◌, ◌≤◌, false, true, Some, None, Option, slice_index}
use Rattle.clearing.specs.Networks.{total}
use Rattle.book.specs.Rulebooks.{Meaning}
use Rattle.book.specs.Views.{DueRow, payments_of, receded_in, outlay_of}
use Rattle.book.specs.declared.book.Book.{Book}
use Rattle.book.specs.declared.seat.Seat.{Seat}
use Rattle.book.specs.declared.settlement.Settlement.{Settlement}

-- the seat at that number
abbrev pub IsSeat : Book → ℕ → Seat → Type 0
IsSeat B at seat = (seat.book.now ≡ B) × (seat.at ≡ at)

-- the due row of m, which takes nothing back, and the units that it has more
pub record Moves (A : Meaning) (B : Book) (m : ℕ) (s : Settlement) : Type 0 where
  pub steady : receded_in A B m ≡ false
  pub due : DueRow A B m s.row
  pub more : (j : ℕ) → j < B.figures.n → payments_of B m j ≤ slice_index s.row j
  pub units : s.units ≡ total B.figures.n (λ j. slice_index s.row j) - outlay_of B m

-- what a settle of m would do, or that m has receded
abbrev pub WouldSettle : Meaning → Book → ℕ → Option Settlement → Type 0
WouldSettle A B m (Some s) = Moves A B m s
WouldSettle A B m None = receded_in A B m ≡ true
