-- A choice between lawful rulebooks is lawful.
use Rattle.std.specs.Prelude.{ℕ, zero, suc}
use Rattle.rules.specs.Choice.{choice}
use Rattle.rules.specs.Laws.{Rule, Lawful}

pub choice_laws : (f g : ℕ → Rule) → ((house : ℕ) → Lawful (f house)) → ((house : ℕ) → Lawful (g house)) → (house : ℕ) → Lawful (choice f g house)
choice_laws f g first second zero = first zero
choice_laws f g first second (suc house) = second house
