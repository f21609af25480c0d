-- Choice: the house picks one of two rulebooks.
use Rattle.std.specs.Prelude.{ℕ, zero, suc}
use Rattle.rules.specs.Laws.{Rule}

-- house 0 goes to the first, any other to the second as the house before it
abbrev pub choice : (ℕ → Rule) → (ℕ → Rule) → ℕ → Rule
choice first second zero = first zero
choice first second (suc house) = second house
