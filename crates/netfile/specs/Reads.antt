-- Reading one record of a network file into a draft.
use Rattle.std.specs.Prelude.{◌≡◌, ℕ, ◌+◌, cond, ◌⊎◌, List, Some, None, Result, ◌==◌, nat_lt, slice_index}
use Rattle.network.specs.declared.fault.Fault.{Fault}
use Rattle.network.specs.declared.figures.Figures.{Figures}
use Rattle.network.specs.Answers.{Gives}
use Rattle.network.specs.Entries.{MemberSet, ClaimSet}
use Rattle.netfile.specs.declared.due.Due.{Due}
use Rattle.netfile.specs.declared.due.Due.TheVariants.{Network, Member, Claim, Nothing}
use Rattle.netfile.specs.Records.{kind}
use Rattle.netfile.specs.Files.{number_at}
use Rattle.netfile.specs.Checks.{due_fault}

-- what is due behind the record that t begins with
abbrev pub due_after : ℕ → Due → List ℕ → Due
due_after n Network t = Member 0
due_after n (Member member) t = cond (nat_lt (member + 1) n) (Member (member + 1)) (Claim None)
due_after n (Claim last) t = cond (kind t == 4) Nothing (Claim (Some (slice_index t 1, slice_index t 2)))
due_after n Nothing t = Nothing

-- what the record that t begins with, where d is due, makes of the figures
abbrev pub Entered : Figures → Due → List ℕ → Figures → Type 0
Entered f Network t g = g ≡ f
Entered f (Member member) t g = MemberSet f member (slice_index t 2) (slice_index t 3) (number_at t 4) g
Entered f (Claim last) t g =
    ((kind t ≡ 4) × (g ≡ f))
    ⊎ ((kind t ≡ 3) × ClaimSet f (slice_index t 1) (slice_index t 2) (number_at t 3) g)
Entered f Nothing t g = ⊥

-- the record that t begins with is read where d is due
abbrev pub Reads : Figures → Due → ℕ → List ℕ → Result Due Fault → Figures → Type 0
Reads f d byte t r g =
    Gives (due_fault f.n d byte t) (λ next. (next ≡ due_after f.n d t) × Entered f d t g) (Unit {0}) r
