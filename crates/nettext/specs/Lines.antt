-- The text of each line of a network's text.
use Rattle.std.specs.Prelude.{ℕ, List, [], ◌∷◌, codes, decimal}
use Rattle.network.specs.Words.{spaced}
use Rattle.nettext.specs.declared.line.TextLine.{TextLine}
use Rattle.nettext.specs.declared.line.TextLine.TheVariants.{Members, Member, Claim}

abbrev pub text_of : TextLine → List ℕ
text_of (Members n) = spaced (codes "members") (decimal n ∷ [])
text_of (Member member entry) =
    spaced (codes "member") (decimal member ∷ codes "house" ∷ decimal entry.house ∷ codes "class" ∷ decimal entry.class ∷ codes "endowment" ∷ decimal entry.endowment ∷ [])
text_of (Claim debtor creditor units) = spaced (codes "claim") (decimal debtor ∷ decimal creditor ∷ decimal units ∷ [])
