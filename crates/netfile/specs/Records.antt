-- The records of a network file: a byte of kind, then a body whose length the kind fixes.
use Rattle.std.specs.Prelude.{◌≡◌, ℕ, ◌+◌, Bool, cond, ◌||◌, List, [], ◌∷◌, length, take, drop, Some, Option, ◌==◌, nat_lt, slice_index}
use Rattle.std.specs.Borrow.{Bor}
use Rattle.network.specs.declared.fault.Fault.{Fault}
use Rattle.network.specs.declared.fault.Cause.{Cause}
use Rattle.network.specs.declared.fault.Cause.TheVariants.{EndOfFile, UnknownKind, NotDue}
use Rattle.network.specs.declared.fault.Layer.TheVariants.{File}
use Rattle.network.specs.Faults.{of_nobody, at_byte}
use Rattle.network.specs.Refusals.{count_fault}
use Rattle.netfile.specs.declared.record.Record.{Record}
use Rattle.netfile.specs.declared.record.Record.TheVariants.{Network, Member, Claim, End}

-- a fault of the file itself, in the record that begins at that byte
abbrev pub file_fault : Cause → ℕ → Fault
file_fault cause byte = at_byte byte (of_nobody File cause)

-- the kind of the record that t begins with, and its length with the byte of kind
abbrev pub kind : List ℕ → ℕ
kind t = slice_index t 0

abbrev pub body_length : ℕ → ℕ
body_length k = slice_index (0 ∷ 1 ∷ 7 ∷ 6 ∷ 0 ∷ []) k

abbrev pub record_length : List ℕ → ℕ
record_length t = 1 + body_length (kind t)

abbrev pub outside : ℕ → ℕ → ℕ → Bool
outside low high k = nat_lt k low || nat_lt high k

-- the first check that fails of a record that t is to begin with, at `byte`, where kinds from low to high
-- are due; `body` has the checks of its body
abbrev pub record_fault : ℕ → ℕ → ℕ → List ℕ → Option Fault → Option Fault
record_fault low high byte t body =
    cond (length t == 0) (Some (file_fault EndOfFile byte))
    (cond (outside 1 4 (kind t)) (Some (file_fault UnknownKind byte))
    (cond (outside low high (kind t)) (Some (file_fault NotDue byte))
    (cond (nat_lt (length t) (record_length t)) (Some (file_fault EndOfFile byte))
    body)))

-- the checks of a count, which reads the Network record alone
abbrev pub counted_fault : List ℕ → Option Fault
counted_fault s = record_fault 1 1 0 s (count_fault (slice_index s 1))

-- part has these bytes, and stands in the memory of the file from that byte on
pub record StandsAt (file : Bor (List ℕ)) (byte : ℕ) (bytes : List ℕ) (part : Bor (List ℕ)) : Type 0 where
  pub is : part.now ≡ bytes
  pub block : part.ref_ptr.0 ≡ file.ref_ptr.0
  pub offset : part.ref_ptr.1 ≡ byte + file.ref_ptr.1

-- the body of the record that begins at a byte of the file
abbrev pub IsBody : Bor (List ℕ) → ℕ → Bor (List ℕ) → Type 0
IsBody file byte body =
    StandsAt file (byte + 1) (take (body_length (kind (drop byte file.now))) (drop (byte + 1) file.now)) body

-- the record that begins at a byte of the file
abbrev pub IsRecord : Bor (List ℕ) → ℕ → Record → Type 0
IsRecord file byte (Network body) = (kind (drop byte file.now) ≡ 1) × IsBody file byte body
IsRecord file byte (Member body) = (kind (drop byte file.now) ≡ 2) × IsBody file byte body
IsRecord file byte (Claim body) = (kind (drop byte file.now) ≡ 3) × IsBody file byte body
IsRecord file byte End = kind (drop byte file.now) ≡ 4

-- the rest of the file from a byte on
abbrev pub IsRest : Bor (List ℕ) → ℕ → Bor (List ℕ) → Type 0
IsRest file byte rest = StandsAt file byte (drop byte file.now) rest
