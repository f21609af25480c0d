-- The dual of a rule divides what is lacking as the rule divides an estate.
use Rattle.std.specs.Prelude.{ℕ, ◌-◌, List, sum}
use Rattle.rules.specs.Laws.{Rule}
use Rattle.rules.specs.Places.{minus}

-- what the estate lacks to meet all claims
abbrev pub shortfall : ℕ → List ℕ → ℕ
shortfall e cs = sum cs - e

-- each claim less what f awards from the shortfall
abbrev pub dual : Rule → Rule
dual f e cs = minus cs (f (shortfall e cs) cs)
