-- The text of each line.
use Rattle.std.specs.Prelude.{ℕ, List, [], ◌∷◌, ◌++◌, codes, decimal}
use Rattle.std.specs.List.{flat_map}
use Rattle.network.specs.Words.{spaced}
use Rattle.network.specs.Faults.{fault_text}
use Rattle.report.specs.declared.line.Line.{Line}
use Rattle.report.specs.declared.line.Line.TheVariants.{Paid, Equity, Default, Rounds, Fault as Refusal, TooLong}

abbrev pub text_of : Line → List ℕ
text_of (Paid debtor creditor units) = spaced (codes "paid") (decimal debtor ∷ decimal creditor ∷ decimal units ∷ [])
text_of (Equity member units) = spaced (codes "equity") (decimal member ∷ decimal units ∷ [])
text_of (Default member) = spaced (codes "default") (decimal member ∷ [])
text_of (Rounds rounds units passed) = spaced (codes "rounds") (decimal rounds ∷ decimal units ∷ decimal passed ∷ [])
text_of (Refusal e) = fault_text e
text_of TooLong = codes "too long"

-- lines one below the other, each with its end
abbrev pub printed : List Line → List ℕ
printed = flat_map (λ line. text_of line ++ codes "\n")
