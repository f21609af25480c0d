-- The kinds of records and their numbers.
use Rattle.std.specs.Prelude.{◌≡◌, ℕ, true, Ok, Err, Result}
use Rattle.network.specs.declared.fault.Cause.{Cause}
use Rattle.network.specs.declared.fault.Cause.TheVariants.{UnknownKind}
use Rattle.netfile.specs.declared.kind.Kind.{Kind}
use Rattle.netfile.specs.declared.kind.Kind.TheVariants.{Network, Member, Claim, End}
use Rattle.netfile.specs.Records.{outside}

-- the number that stands for a kind
abbrev pub number_of : Kind → ℕ
number_of Network = 1
number_of Member = 2
number_of Claim = 3
number_of End = 4

-- the kind with that number, or the refusal of a number that no kind has
abbrev pub IsKind : ℕ → Result Kind Cause → Type 0
IsKind number (Ok kind) = number_of kind ≡ number
IsKind number (Err cause) = (outside 1 4 number ≡ true) × (cause ≡ UnknownKind)
