-- What close keeps of its visits to the members, and what a member's last visit tells of it. Only private functions cite
-- these; no promise of a public call rests on them.
use Rattle.std.specs.Prelude.{◌≡◌, ℕ, ◌+◌, ◌-◌, ◌<◌, length, List, Some, None, Ok, Err, Option, Result, slice_index, slice_index_or}
use Rattle.network.specs.declared.fault.Cause.TheVariants.{Receded}
use Rattle.network.specs.declared.fault.Layer.TheVariants.{Book as BookLayer}
use Rattle.network.specs.declared.fault.Fault.{Fault}
use Rattle.network.specs.Faults.{of_member}
use Rattle.clearing.specs.Networks.{Network, Division, Payments}
use Rattle.book.specs.Rulebooks.{Meaning}
use Rattle.book.specs.Views.{net_of, payments_of, division_of, estate_of}
use Rattle.book.specs.declared.book.Book.{Book}
use Rattle.book.specs.declared.visits.Visit.{Visit}
use Rattle.book.specs.declared.visits.Visit.TheVariants.{Never, Settled, PassedOver}
use Rattle.book.specs.declared.visits.Tally.{Tally}

-- what a settle of the member m answers: the units moved, or that it has receded
abbrev pub answer_of : ℕ → Option ℕ → Result ℕ Fault
answer_of m (Some units) = Ok units
answer_of m None = Err (of_member BookLayer Receded m)

-- what the last visit tells of m's row: it is what is due of the estate E at that visit, or has an entry above that
abbrev pub Noted : Network → Division → Payments → ℕ → Visit → Type 0
Noted N D P m Never = Unit {0}
Noted N D P m (Settled E) = (j : ℕ) → j < N.members → P m j ≡ D m E j
Noted N D P m (PassedOver E) = (j : ℕ) × (j < N.members) × (D m E j < P m j)

-- a member of which nothing is kept
abbrev pub untold : Tally
untold = record { estate = 0; last = Never }

abbrev pub tally_at : List Tally → ℕ → Tally
tally_at tallies m = slice_index_or tallies m untold

-- the estate of m, and no visit
pub record Fresh (B : Book) (m : ℕ) (t : Tally) : Type 0 where
  pub worth : t.estate ≡ estate_of B m
  pub never : t.last ≡ Never

-- the estates of the creditors below n have risen from V to V' by what `after` has more than `before`
pub record Credited (V : List Tally) (before after : List ℕ) (n : ℕ) (V' : List Tally) : Type 0 where
  pub risen : (j : ℕ) → j < n → (tally_at V' j).estate ≡ (tally_at V j).estate + (slice_index after j - slice_index before j)
  pub last : (j : ℕ) → (tally_at V' j).last ≡ (tally_at V j).last

-- the estates are those of the book, and the last visits tell the truth of its rows
pub record Kept (A : Meaning) (B : Book) (V : List Tally) : Type 0 where
  pub wide : length V ≡ 32
  pub worth : (m : ℕ) → m < B.figures.n → (tally_at V m).estate ≡ estate_of B m
  pub noted : (m : ℕ) → m < B.figures.n → Noted (net_of B) (division_of A B) (payments_of B) m (tally_at V m).last
