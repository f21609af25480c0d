-- The step from a rulebook to the division of a network.
use Rattle.std.specs.Prelude.{ℕ, List, [], take, slice_index, slice_index_or}
use Rattle.network.specs.declared.figures.Figures.{Figures}
use Rattle.network.specs.Entries.{member_at}
use Rattle.rules.specs.Laws.{Rule, Lawful}
use Rattle.clearing.specs.Networks.{Division}

-- what a rulebook means: the rule of each house
abbrev pub Meaning : Type 0
Meaning = ℕ → Rule

abbrev pub LawfulMeaning : Meaning → Type 0
LawfulMeaning A = (house : ℕ) → Lawful (A house)

-- the claims on member i, creditor by creditor
abbrev pub claims_on : Figures → ℕ → List ℕ
claims_on F i = take F.n (slice_index_or F.claims i [])

-- each member divides its estate over the claims on it by the rule of its house
abbrev pub division : Meaning → Figures → Division
division A F i E j = slice_index (A (member_at F i).house E (claims_on F i)) j
