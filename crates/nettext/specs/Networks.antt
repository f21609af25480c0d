-- The lines of a network's text.
use Rattle.std.specs.Prelude.{ℕ, zero, suc, cond, List, [], ◌∷◌, ◌++◌, ◌==◌}
use Rattle.network.specs.declared.figures.Figures.{Figures}
use Rattle.network.specs.Entries.{member_at, claim_at}
use Rattle.nettext.specs.declared.line.TextLine.{TextLine}
use Rattle.nettext.specs.declared.line.TextLine.TheVariants.{Members, Member, Claim}

-- the members below m
abbrev pub member_lines : Figures → ℕ → List TextLine
member_lines F zero = []
member_lines F (suc m) = member_lines F m ++ Member m (member_at F m) ∷ []

-- the claims above 0 of the creditors below c on debtor d
abbrev pub row_lines : Figures → ℕ → ℕ → List TextLine
row_lines F d zero = []
row_lines F d (suc c) = row_lines F d c ++ cond (claim_at F d c == 0) [] (Claim d c (claim_at F d c) ∷ [])

-- those on the debtors below d
abbrev pub claim_lines : Figures → ℕ → List TextLine
claim_lines F zero = []
claim_lines F (suc d) = claim_lines F d ++ row_lines F d F.n

abbrev pub lines_of : Figures → List TextLine
lines_of F = (Members F.n ∷ [] ++ member_lines F F.n) ++ claim_lines F F.n
