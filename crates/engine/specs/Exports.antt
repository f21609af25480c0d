-- What callers in other languages are answered.
use Rattle.std.specs.Prelude.{◌≡◌, ℕ, Bool, cond, ◌⊎◌, List, ◌++◌, length, drop, Some, None, Ok, Err, Result, nat_le, slice_index}
use Rattle.network.specs.declared.fault.Fault.{Fault}
use Rattle.network.specs.declared.figures.Figures.{Figures}
use Rattle.network.specs.Faults.{number_of}
use Rattle.netfile.specs.Files.{file_of}
use Rattle.netfile.specs.Loads.{FaultOf}
use Rattle.netfile.specs.Records.{counted_fault}
use Rattle.rules.specs.Claims.{awards_fault}
use Rattle.rules.specs.Classes.{classes_of}
use Rattle.rules.specs.Laws.{Rule}
use Rattle.rules.specs.Ring.{RingRules}
use Rattle.report.specs.Clearances.{Reported}

-- the text at the front of a buffer that has room for it; any other buffer as it was
abbrev pub put_front : List ℕ → List ℕ → List ℕ
put_front text before = cond (nat_le (length text) (length before)) (text ++ drop (length text) before) before

-- the text that is reported of the input: its length is answered, and it is put into the buffer
pub record Handed (input before : List ℕ) (answer : ℕ) (after : List ℕ) : Type 0 where
  pub text : List ℕ
  pub cleared : Bool
  pub reported : Reported input cleared text
  pub long : answer ≡ length text
  pub bytes : after ≡ put_front text before

-- that text, or the largest number of 64 bits, if there is no memory for it
abbrev pub Told : List ℕ → List ℕ → ℕ → List ℕ → Type 0
Told input before answer after =
    Handed input before answer after ⊎ ((answer ≡ 18446744073709551615) × (after ≡ before))

-- the awards are those of the ring's rulebook of the network whose file is given
pub record Awarded (file : List ℕ) (house estate : ℕ) (claims awards : List ℕ) : Type 0 where
  pub figures : Figures
  pub rules : ℕ → Rule
  pub is_file : file ≡ file_of figures
  pub houses : RingRules rules (classes_of figures)
  pub divided : awards ≡ rules house estate claims

-- the file is not counted, or counted and not loaded, or loaded and the list or the buffer is refused
abbrev pub AwardsFault : List ℕ → List ℕ → ℕ → Fault → Type 0
AwardsFault file claims room e =
    (counted_fault file ≡ Some e)
    ⊎ ((counted_fault file ≡ None) × FaultOf (slice_index file 1) file e)
    ⊎ (((figures : Figures) × (file ≡ file_of figures)) × (awards_fault claims room ≡ Some e))

-- an estate is divided into a buffer, or refused with the buffer as it was
abbrev pub Divided : List ℕ → ℕ → ℕ → List ℕ → List ℕ → Result (Unit {0}) Fault → List ℕ → Type 0
Divided file house estate claims before (Ok _) after =
    (awards_fault claims (length before) ≡ None) × Awarded file house estate claims after
Divided file house estate claims before (Err e) after = AwardsFault file claims (length before) e × (after ≡ before)

-- 0, or the number of a fault
abbrev pub number_or_0 : Result (Unit {0}) Fault → ℕ
number_or_0 (Ok _) = 0
number_or_0 (Err e) = number_of e.cause

-- the same, with a number for the answer
pub record Numbered (file : List ℕ) (house estate : ℕ) (claims before : List ℕ) (answer : ℕ) (after : List ℕ) : Type 0 where
  pub result : Result (Unit {0}) Fault
  pub divided : Divided file house estate claims before result after
  pub number : answer ≡ number_or_0 result
