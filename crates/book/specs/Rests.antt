-- A book that has come to rest: after r rounds that moved u units, one moved nothing and passed over p members.
use Rattle.std.specs.Prelude.{◌≡◌, ℕ, ◌-◌}
use Rattle.clearing.specs.Networks.{Equal, units_paid}
use Rattle.clearing.specs.Settling.{Closes, passed_over, rounds}
use Rattle.book.specs.Rulebooks.{Meaning}
use Rattle.book.specs.Views.{net_of, payments_of, division_of}
use Rattle.book.specs.declared.book.Book.{Book}

pub record Rests (A : Meaning) (B : Book) (r u p : ℕ) (B' : Book) : Type 0 where
  pub figures : B'.figures ≡ B.figures
  pub closes : Closes (net_of B) (division_of A B) (payments_of B) r
  pub payments : Equal (net_of B) (payments_of B') (rounds (net_of B) (division_of A B) r (payments_of B))
  pub units : u ≡ units_paid (net_of B) (payments_of B') - units_paid (net_of B) (payments_of B)
  pub passed : p ≡ passed_over (net_of B) (division_of A B) (payments_of B')
