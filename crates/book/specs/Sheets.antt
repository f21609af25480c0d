-- Sheets that say the same of every member.
use Rattle.std.specs.Prelude.{◌≡◌}
use Rattle.book.specs.declared.sheet.Sheet.{Sheet}

pub record SameOutcome (S S' : Sheet) : Type 0 where
  pub payments : S.paid ≡ S'.paid
  pub equities : S.equities ≡ S'.equities
  pub defaults : S.defaults ≡ S'.defaults
