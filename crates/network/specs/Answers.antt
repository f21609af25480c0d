-- The answer of a call that may be refused.
use Rattle.std.specs.Prelude.{◌≡◌, Some, None, Ok, Err, Option, Result}
use Rattle.network.specs.declared.fault.Fault.{Fault}

-- `fault` is the first check that fails, if one does. Where none does, the call answers some x with Answered x;
-- else it answers that fault and nothing else, and Unaltered holds.
abbrev pub Gives : {X : Type 0} → Option Fault → (X → Type 0) → Type 0 → Result X Fault → Type 0
Gives fault Answered Unaltered (Ok x) = (fault ≡ None) × Answered x
Gives fault Answered Unaltered (Err e) = (fault ≡ Some e) × Unaltered
