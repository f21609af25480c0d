-- Lists made place by place.
use Rattle.std.specs.Prelude.{ℕ, ◌+◌, ◌-◌, List, [], ◌∷◌, map, length}
use Rattle.std.specs.List.{range_with_len}

-- for each creditor k of a list of claims, what f says of k
abbrev pub each : List ℕ → (ℕ → ℕ) → List ℕ
each cs f = map f (range_with_len 0 (length cs))

-- two lists added, place by place
abbrev pub plus : List ℕ → List ℕ → List ℕ
plus [] ys = ys
plus (x ∷ xs) [] = x ∷ xs
plus (x ∷ xs) (y ∷ ys) = (x + y) ∷ plus xs ys

-- one list less another, place by place
abbrev pub minus : List ℕ → List ℕ → List ℕ
minus [] ys = []
minus (x ∷ xs) [] = x ∷ xs
minus (x ∷ xs) (y ∷ ys) = (x - y) ∷ minus xs ys
