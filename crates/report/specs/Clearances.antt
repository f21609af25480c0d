-- What is reported of any string of bytes.
use Rattle.std.specs.Prelude.{◌≡◌, ℕ, ◌<◌, ◌≤◌, Bool, true, false, ◌⊎◌, List, [], ◌∷◌, length, Some, None, slice_index}
use Rattle.network.specs.declared.draft.Draft.{Draft}
use Rattle.netfile.specs.Files.{file_of}
use Rattle.netfile.specs.Loads.{FaultOf}
use Rattle.netfile.specs.Records.{counted_fault}
use Rattle.rules.specs.Classes.{classes_of}
use Rattle.rules.specs.Ring.{ring_rule, ring_classes, RingRules}
use Rattle.rules.specs.declared.ring.RingRulebook.{RingRulebook}
use Rattle.clearing.specs.Networks.{Least}
use Rattle.book.specs.declared.sheet.Sheet.{Sheet}
use Rattle.book.specs.Tables.{cells, network_of}
use Rattle.book.specs.Rulebooks.{division}
use Rattle.book.specs.Lives.{Life}
use Rattle.report.specs.declared.line.Line.{Line}
use Rattle.report.specs.declared.line.Line.TheVariants.{Paid, Equity, Default, Rounds, Fault as Refusal, TooLong}
use Rattle.report.specs.Lines.{printed}
use Rattle.report.specs.Sheets.{lines_of}

-- the input is refused by that line: it is too long, its number of members is refused, or it is no file of so many
abbrev pub Refuses : List ℕ → Line → Type 0
Refuses input TooLong = 65536 < length input
Refuses input (Refusal e) =
    (length input ≤ 65536) × ((counted_fault input ≡ Some e) ⊎ ((counted_fault input ≡ None) × FaultOf (slice_index input 1) input e))
Refuses input (Paid _ _ _) = ⊥
Refuses input (Equity _ _) = ⊥
Refuses input (Default _) = ⊥
Refuses input (Rounds _ _ _) = ⊥

-- the input is the file of a draft, and the text are the lines of the sheet with which a book on that draft closes
-- under the ring's rulebook, its payments being the least clearing matrix
pub record Clears (input text : List ℕ) : Type 0 where
  pub draft : Draft
  pub rulebook : RingRulebook
  pub sheet : Sheet
  pub short : length input ≤ 65536
  pub file : input ≡ file_of draft.figures
  pub houses : RingRules (ring_rule (ring_classes rulebook)) (classes_of draft.figures)
  pub life : Life (ring_rule (ring_classes rulebook)) draft [] sheet
  pub least : Least (network_of draft.figures) (division (ring_rule (ring_classes rulebook)) draft.figures) (cells sheet.paid)
  pub lines : text ≡ printed (lines_of sheet)

-- whether the input was cleared, and what is then printed
abbrev pub Reported : List ℕ → Bool → List ℕ → Type 0
Reported input true text = Clears input text
Reported input false text = (line : Line) × Refuses input line × (text ≡ printed (line ∷ []))
