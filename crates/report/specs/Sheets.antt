-- The lines of a settlement sheet.
use Rattle.std.specs.Prelude.{ℕ, zero, suc, false, cond, List, [], ◌∷◌, ◌++◌, ◌==◌, slice_index, slice_index_or}
use Rattle.network.specs.Entries.{claim_at}
use Rattle.book.specs.declared.sheet.Sheet.{Sheet}
use Rattle.book.specs.Tables.{cells}
use Rattle.report.specs.declared.line.Line.{Line}
use Rattle.report.specs.declared.line.Line.TheVariants.{Paid, Equity, Default, Rounds}

-- a line for each claim of a creditor below c on debtor d
abbrev pub row_lines : Sheet → ℕ → ℕ → List Line
row_lines S d zero = []
row_lines S d (suc c) = row_lines S d c ++ cond (claim_at S.figures d c == 0) [] (Paid d c (cells S.paid d c) ∷ [])

-- the claims on the debtors below d, in the order of the file
abbrev pub paid_lines : Sheet → ℕ → List Line
paid_lines S zero = []
paid_lines S (suc d) = paid_lines S d ++ row_lines S d S.figures.n

-- the members below m
abbrev pub equity_lines : Sheet → ℕ → List Line
equity_lines S zero = []
equity_lines S (suc m) = equity_lines S m ++ Equity m (slice_index S.equities m) ∷ []

-- those of them that default
abbrev pub default_lines : Sheet → ℕ → List Line
default_lines S zero = []
default_lines S (suc m) = default_lines S m ++ cond (slice_index_or S.defaults m false) (Default m ∷ []) []

abbrev pub lines_of : Sheet → List Line
lines_of S =
    ((paid_lines S S.figures.n ++ equity_lines S S.figures.n) ++ default_lines S S.figures.n) ++ Rounds S.rounds S.units S.passed_over ∷ []
