-- The checks of a record at its place in a network file that is loaded.
use Rattle.std.specs.Prelude.{ℕ, Bool, true, cond, not, ◌||◌, ◌&&◌, List, length, Some, None, Option, ◌==◌, nat_lt, slice_index}
use Rattle.network.specs.declared.fault.Fault.{Fault}
use Rattle.network.specs.declared.fault.Cause.TheVariants.{NotDue, ClaimOrder}
use Rattle.network.specs.Faults.{at_byte}
use Rattle.network.specs.Refusals.{member_fault, claim_fault}
use Rattle.netfile.specs.declared.due.Due.{Due}
use Rattle.netfile.specs.declared.due.Due.TheVariants.{Network, Member, Claim, Nothing}
use Rattle.netfile.specs.Records.{file_fault, kind, record_fault}
use Rattle.netfile.specs.Files.{number_at}

-- the draft's fault, which gains the byte, or else the next check
abbrev pub draft_or : ℕ → Option Fault → Option Fault → Option Fault
draft_or byte (Some e) next = Some (at_byte byte e)
draft_or byte None next = next

-- whether the claim of j on i is behind the last one: on a later debtor, or of a later creditor on the same
abbrev pub follows : Option (ℕ × ℕ) → ℕ → ℕ → Bool
follows None i j = true
follows (Some last) i j = nat_lt last.0 i || (last.0 == i && nat_lt last.1 j)

-- the first check that fails where t stands at that byte, d is due and the draft has n members
abbrev pub due_fault : ℕ → Due → ℕ → List ℕ → Option Fault
due_fault n Network byte t =
    record_fault 1 1 byte t
    (cond (not (slice_index t 1 == n)) (Some (file_fault NotDue byte)) None)
due_fault n (Member member) byte t =
    record_fault 2 2 byte t
    (cond (not (slice_index t 1 == member)) (Some (file_fault NotDue byte))
    (draft_or byte (member_fault n member (slice_index t 3) (number_at t 4))
    None))
due_fault n (Claim last) byte t =
    record_fault 3 4 byte t
    (cond (kind t == 4) None
    (draft_or byte (claim_fault n (slice_index t 1) (slice_index t 2) (number_at t 3))
    (cond (number_at t 3 == 0 || not (follows last (slice_index t 1) (slice_index t 2))) (Some (file_fault ClaimOrder byte))
    None)))
due_fault n Nothing byte t = cond (length t == 0) None (Some (file_fault NotDue byte))
