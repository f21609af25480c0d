-- What each call of a book answers and leaves: relations over the rulebook's meaning, the book before, the arguments,
-- the answer and the book after. A refusal is the first of the checks, in their order, that fails.
use Rattle.std.specs.Prelude.{◌≡◌, ℕ, ◌+◌, ◌-◌, ◌≤◌, false, cond, ◌||◌, Some, None, Option, Result, ◌==◌, nat_le, nat_lt, slice_index, slice_index_or}
use Rattle.network.specs.declared.draft.Draft.{Draft}
use Rattle.network.specs.declared.fault.Cause.TheVariants.{NoSuchMember, NoUnits, Receded, AboveDue}
use Rattle.network.specs.declared.fault.Layer.TheVariants.{Book as BookLayer}
use Rattle.network.specs.declared.fault.Fault.{Fault}
use Rattle.network.specs.Faults.{of_member, of_pair}
use Rattle.network.specs.Answers.{Gives}
use Rattle.clearing.specs.Networks.{Equal, units_paid, outlay, owed, cash}
use Rattle.clearing.specs.Settling.{Closes, settled, paid_more, passed_over, round, rounds, next}
use Rattle.book.specs.Tables.{cells}
use Rattle.book.specs.Rulebooks.{Meaning}
use Rattle.book.specs.Views.{net_of, payments_of, division_of, due_of, receded_in, outlay_of, cash_of}
use Rattle.book.specs.declared.book.Book.{Book}
use Rattle.book.specs.declared.sheet.Sheet.{Sheet}

-- a new book has the draft's figures, and nothing is paid
pub record Opens (draft : Draft) (B : Book) : Type 0 where
  pub figures : B.figures ≡ draft.figures
  pub payments : (i j : ℕ) → payments_of B i j ≡ 0

-- the checks of a single member, and of a debtor and a creditor
abbrev pub member_fault : Book → ℕ → Option Fault
member_fault B m = cond (nat_le B.figures.n m) (Some (of_member BookLayer NoSuchMember m)) None

abbrev pub pair_fault : Book → ℕ → ℕ → Option Fault
pair_fault B d c = cond (nat_le B.figures.n d || nat_le B.figures.n c) (Some (of_pair BookLayer NoSuchMember d c)) None

abbrev pub pay_fault : Meaning → Book → ℕ → ℕ → ℕ → Option Fault
pay_fault A B d c u =
    cond (nat_le B.figures.n d || nat_le B.figures.n c) (Some (of_pair BookLayer NoSuchMember d c))
    (cond (u == 0) (Some (of_pair BookLayer NoUnits d c))
    (cond (receded_in A B d) (Some (of_pair BookLayer Receded d c))
    (cond (nat_lt (due_of A B d c - payments_of B d c) u) (Some (of_pair BookLayer AboveDue d c))
    None)))

-- u units more in one entry, whose new figure is the answer
pub record EntryPaid (B : Book) (d c u answer : ℕ) (B' : Book) : Type 0 where
  pub figure : answer ≡ payments_of B d c + u
  pub figures : B'.figures ≡ B.figures
  pub payments : Equal (net_of B) (payments_of B') (paid_more (payments_of B) d c u)

abbrev pub Pays : Meaning → Book → ℕ → ℕ → ℕ → Result ℕ Fault → Book → Type 0
Pays A B d c u r B' = Gives (pay_fault A B d c u) (λ answer. EntryPaid B d c u answer B') (B' ≡ B) r

abbrev pub settle_fault : Meaning → Book → ℕ → Option Fault
settle_fault A B m =
    cond (nat_le B.figures.n m) (Some (of_member BookLayer NoSuchMember m))
    (cond (receded_in A B m) (Some (of_member BookLayer Receded m))
    None)

-- m's row is its due row; the answer is the units moved
pub record RowSettled (A : Meaning) (B : Book) (m answer : ℕ) (B' : Book) : Type 0 where
  pub units : answer ≡ outlay (net_of B) (due_of A B) m - outlay_of B m
  pub figures : B'.figures ≡ B.figures
  pub payments : Equal (net_of B) (payments_of B') (settled (net_of B) (division_of A B) (payments_of B) m)

abbrev pub Settles : Meaning → Book → ℕ → Result ℕ Fault → Book → Type 0
Settles A B m r B' = Gives (settle_fault A B m) (λ answer. RowSettled A B m answer B') (B' ≡ B) r

-- all members have settled in order; the answer is the units moved and the members passed over
pub record GoesRound (A : Meaning) (B : Book) (answer : ℕ × ℕ) (B' : Book) : Type 0 where
  pub figures : B'.figures ≡ B.figures
  pub payments : Equal (net_of B) (payments_of B') (round (net_of B) (division_of A B) (payments_of B))
  pub units : answer.0 ≡ units_paid (net_of B) (payments_of B') - units_paid (net_of B) (payments_of B)
  pub passed : answer.1 ≡ passed_over (net_of B) (division_of A B) (payments_of B)

-- the questions, which change nothing
abbrev pub ShowsPaid : Book → ℕ → ℕ → Result ℕ Fault → Type 0
ShowsPaid B d c r = Gives (pair_fault B d c) (λ answer. answer ≡ payments_of B d c) (Unit {0}) r

abbrev pub ShowsCash : Book → ℕ → Result ℕ Fault → Type 0
ShowsCash B m r = Gives (member_fault B m) (λ answer. answer ≡ cash_of B m) (Unit {0}) r

abbrev pub ShowsDue : Meaning → Book → ℕ → ℕ → Result ℕ Fault → Type 0
ShowsDue A B d c r = Gives (pair_fault B d c) (λ answer. answer ≡ due_of A B d c) (Unit {0}) r

-- the lowest-numbered member whose settle would pay, or none
abbrev pub ShowsNext : Meaning → Book → Option ℕ → Type 0
ShowsNext A B r = r ≡ next (net_of B) (division_of A B) (payments_of B)

-- rounds until one moves nothing, and the sheet of what the book then comes to
pub record Ends (A : Meaning) (B : Book) (S : Sheet) : Type 0 where
  pub figures : S.figures ≡ B.figures
  pub rests : Closes (net_of B) (division_of A B) (payments_of B) S.rounds
  pub payments : Equal (net_of B) (cells S.paid) (rounds (net_of B) (division_of A B) S.rounds (payments_of B))
  pub within : (i j : ℕ) → cells S.paid i j ≤ (net_of B).claim i j
  pub equities : (i : ℕ) → slice_index S.equities i ≡ cash (net_of B) (cells S.paid) i
  pub defaults : (i : ℕ) → slice_index_or S.defaults i false ≡ nat_lt (outlay (net_of B) (cells S.paid) i) (owed (net_of B) i)
  pub units : S.units ≡ units_paid (net_of B) (cells S.paid) - units_paid (net_of B) (payments_of B)
  pub passed : S.passed_over ≡ passed_over (net_of B) (division_of A B) (cells S.paid)
