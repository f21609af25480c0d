-- Which byte strings a load accepts, and the fault of each that it refuses.
use Rattle.std.specs.Prelude.{◌≡◌, ℕ, ◌<◌, ◌≤◌, List, [], length, take, drop, Some, None, Ok, Err, Option, Result}
use Rattle.network.specs.declared.fault.Fault.{Fault}
use Rattle.network.specs.declared.draft.Draft.{Draft}
use Rattle.network.specs.declared.figures.Figures.{Figures}
use Rattle.network.specs.Entries.{claim_at}
use Rattle.netfile.specs.declared.due.Due.{Due}
use Rattle.netfile.specs.declared.due.Due.TheVariants.{Network, Member, Claim, Nothing}
use Rattle.netfile.specs.Files.{place_after, members_to, claims_to, file_of}
use Rattle.netfile.specs.Checks.{due_fault}

-- the last claim, if there is one, is above 0
abbrev pub LastClaim : Figures → Option (ℕ × ℕ) → Type 0
LastClaim f None = Unit {0}
LastClaim f (Some last) = 0 < claim_at f last.0 last.1

-- bs is the file of f as far as d, which is due behind it; where claims are due behind a last one, bs ends
-- with that claim
abbrev pub Begins : Figures → Due → List ℕ → Type 0
Begins f Network bs = bs ≡ []
Begins f (Member member) bs = (member < f.n) × (bs ≡ members_to f member)
Begins f (Claim last) bs = LastClaim f last × (bs ≡ claims_to f (place_after last))
Begins f Nothing bs = bs ≡ file_of f

-- e is the fault of s in a load into a draft of n members: before some byte s is the file of a network
-- as far as what is due there, and there e is the first check that fails
pub record FaultOf (n : ℕ) (s : List ℕ) (e : Fault) : Type 0 where
  pub network : Figures
  pub due : Due
  pub byte : ℕ
  pub count : network.n ≡ n
  pub within : byte ≤ length s
  pub before : Begins network due (take byte s)
  pub fails : due_fault n due byte (drop byte s) ≡ Some e

-- s is the file of what the draft then holds, or the draft is as it was and the fault is that of s
abbrev pub Loaded : Draft → List ℕ → Result (Unit {0}) Fault → Draft → Type 0
Loaded before s (Ok _) after = (after.figures.n ≡ before.figures.n) × (s ≡ file_of after.figures)
Loaded before s (Err e) after = (after ≡ before) × FaultOf before.figures.n s e

-- every network's file is accepted, and the draft then holds that network
abbrev pub Accepts : Draft → List ℕ → Result (Unit {0}) Fault → Draft → Type 0
Accepts before s r after = (f : Figures) → f.n ≡ before.figures.n → s ≡ file_of f → (r ≡ Ok tt) × (after.figures ≡ f)

-- no other fault than the answered one is a fault of s
abbrev pub Only : Draft → List ℕ → Result (Unit {0}) Fault → Type 0
Only before s r = (e : Fault) → FaultOf before.figures.n s e → r ≡ Err e
