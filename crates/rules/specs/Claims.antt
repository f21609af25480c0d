-- The claims that a rulebook divides an estate over, and the lists and buffers that it refuses.
use Rattle.std.specs.Prelude.{ℕ, ◌≤◌, cond, not, ◌||◌, List, length, Some, Option, ◌==◌, nat_lt, position, slice_index}
use Rattle.std.specs.Option.{option_map}
use Rattle.network.specs.declared.fault.Cause.TheVariants.{ListLength, ListedClaimTooLarge}
use Rattle.network.specs.declared.fault.Layer.TheVariants.{Rule}
use Rattle.network.specs.declared.fault.Fault.{Fault}
use Rattle.network.specs.Faults.{of_nobody, of_creditor}

-- at most 32 claims, each at most 10,000
pub record Admitted (cs : List ℕ) : Type 0 where
  pub few : length cs ≤ 32
  pub small : (k : ℕ) → slice_index cs k ≤ 10000

-- the first check that a list of claims and a buffer with that much room fail
abbrev pub awards_fault : List ℕ → ℕ → Option Fault
awards_fault cs room =
    cond (nat_lt 32 (length cs) || not (room == length cs)) (Some (of_nobody Rule ListLength))
    (option_map (of_creditor Rule ListedClaimTooLarge) (position (nat_lt 10000) cs))
