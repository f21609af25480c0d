-- Faults: the number of each cause, the name of each layer, and the shapes that a fault has.
use Rattle.std.specs.Prelude.{ℕ, List, [], ◌∷◌, codes, decimal}
use Rattle.network.specs.declared.fault.Cause.{Cause}
use Rattle.network.specs.declared.fault.Cause.TheVariants.{
  MemberCount,
  NoSuchMember,
  ClassTooHigh,
  EndowmentTooLarge,
  ClaimOnItself,
  ClaimTooLarge,
  NoUnits,
  Receded,
  AboveDue,
  ListLength,
  ListedClaimTooLarge,
  EndOfFile,
  UnknownKind,
  NotDue,
  ClaimOrder,
  ShortBuffer,
}
use Rattle.network.specs.declared.fault.Fault.{Fault}
use Rattle.network.specs.declared.fault.Layer.{Layer}
use Rattle.network.specs.declared.fault.Layer.TheVariants.{File, Draft, Book, Rule}
use Rattle.network.specs.Words.{spaced}

abbrev pub number_of : Cause → ℕ
number_of MemberCount = 1
number_of NoSuchMember = 2
number_of ClassTooHigh = 3
number_of EndowmentTooLarge = 4
number_of ClaimOnItself = 5
number_of ClaimTooLarge = 6
number_of NoUnits = 7
number_of Receded = 8
number_of AboveDue = 9
number_of ListLength = 10
number_of ListedClaimTooLarge = 11
number_of EndOfFile = 12
number_of UnknownKind = 13
number_of NotDue = 14
number_of ClaimOrder = 15
number_of ShortBuffer = 16

abbrev pub name_of : Layer → List ℕ
name_of File = codes "file"
name_of Draft = codes "draft"
name_of Book = codes "book"
name_of Rule = codes "rule"

-- outside files the byte is 0; 255 stands for nobody
abbrev pub of_pair : Layer → Cause → ℕ → ℕ → Fault
of_pair layer cause debtor creditor = record { cause = cause; layer = layer; byte = 0; debtor = debtor; creditor = creditor }

-- a single member stands as debtor
abbrev pub of_member : Layer → Cause → ℕ → Fault
of_member layer cause member = of_pair layer cause member 255

abbrev pub of_creditor : Layer → Cause → ℕ → Fault
of_creditor layer cause creditor = of_pair layer cause 255 creditor

abbrev pub of_nobody : Layer → Cause → Fault
of_nobody layer cause = of_pair layer cause 255 255

-- the same fault, met in the record that begins at that byte
abbrev pub at_byte : ℕ → Fault → Fault
at_byte byte e = record { cause = e.cause; layer = e.layer; byte = byte; debtor = e.debtor; creditor = e.creditor }

-- a fault as it is printed
abbrev pub fault_text : Fault → List ℕ
fault_text e = spaced (codes "fault") (decimal (number_of e.cause) ∷ name_of e.layer ∷ decimal e.byte ∷ decimal e.debtor ∷ decimal e.creditor ∷ [])
