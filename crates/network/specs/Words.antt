-- Words of a line of text.
use Rattle.std.specs.Prelude.{ℕ, List, [], ◌∷◌, ◌++◌, codes}

-- a word, and numbers or words behind it, with single spaces between
abbrev pub spaced : List ℕ → List (List ℕ) → List ℕ
spaced word [] = word
spaced word (next ∷ more) = word ++ (codes " " ++ spaced next more)
