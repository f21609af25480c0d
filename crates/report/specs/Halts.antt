-- What ends a clearing without a text.
use Rattle.std.specs.Prelude.{ℕ, List}
use Rattle.report.specs.declared.clearance.Halt.{Halt}
use Rattle.report.specs.declared.clearance.Halt.TheVariants.{Refused, NoMemory}
use Rattle.report.specs.Clearances.{Refuses}

-- a line that refuses the input, unless memory is lacking
abbrev pub Halts : List ℕ → Halt → Type 0
Halts input (Refused line) = Refuses input line
Halts input (NoMemory _) = Unit {0}
