-- From a draft to its file and back, and from a file to its draft and back.
use Rattle.std.specs.Prelude.{◌≡◌, ℕ, cond, not, ◌⊎◌, List, ◌++◌, length, drop, Some, None, Ok, Err, Option, Result, ◌==◌, slice_index}
use Rattle.network.specs.declared.fault.Fault.{Fault}
use Rattle.network.specs.declared.fault.Cause.TheVariants.{NotDue}
use Rattle.network.specs.declared.figures.Figures.{Figures}
use Rattle.netfile.specs.Records.{file_fault, counted_fault}
use Rattle.netfile.specs.Files.{file_of}
use Rattle.netfile.specs.Loads.{FaultOf}
use Rattle.netfile.specs.Writes.{short_fault}

-- a draft is copied into one of as many members only, as its file is loaded
abbrev pub copy_fault : Figures → Figures → List ℕ → Option Fault
copy_fault from to buffer = cond (not (to.n == from.n)) (Some (file_fault NotDue 0)) (short_fault from buffer)

-- s is not counted, or counted and not loaded, or loaded and the buffer is too short for it
abbrev pub RewriteFault : List ℕ → List ℕ → Fault → Type 0
RewriteFault s buffer e =
    (counted_fault s ≡ Some e)
    ⊎ ((counted_fault s ≡ None) × FaultOf (slice_index s 1) s e)
    ⊎ ((f : Figures) × (s ≡ file_of f) × (short_fault f buffer ≡ Some e))

-- s is a network's file, and the buffer begins with it and is as it was behind it; or the buffer is as it was
abbrev pub Rewritten : List ℕ → List ℕ → Result ℕ Fault → List ℕ → Type 0
Rewritten s before (Ok count) after =
    ((f : Figures) × (s ≡ file_of f)) × (count ≡ length s) × (after ≡ s ++ drop count before)
Rewritten s before (Err e) after = RewriteFault s before e × (after ≡ before)
