-- Classes: the creditors of a lower class are served before those of a higher one.
use Rattle.std.specs.Prelude.{ℕ, cond, List, map, ◌==◌, slice_index}
use Rattle.network.specs.declared.figures.Figures.{Figures}
use Rattle.rules.specs.InTurn.{Part, in_turn}
use Rattle.rules.specs.Laws.{Rule}
use Rattle.rules.specs.Places.{each}

-- the class of each member of a network
abbrev pub classes_of : Figures → List ℕ
classes_of f = map (λ m. m.class) f.members

-- creditor k's claim, if it is of class t
abbrev pub class_claim : List ℕ → ℕ → List ℕ → ℕ → ℕ
class_claim ts t cs k = cond (slice_index ts k == t) (slice_index cs k) 0

-- the claims of class t, all others taken as 0
abbrev pub of_class : List ℕ → ℕ → List ℕ → List ℕ
of_class ts t cs = each cs (class_claim ts t cs)

abbrev pub class_part : List ℕ → Rule → ℕ → Part
class_part ts f t = record { portion = of_class ts t; rule = f }

-- classes 0 to 7 served in turn, each divided by f
abbrev pub by_class : List ℕ → Rule → Rule
by_class ts f = in_turn (class_part ts f) 8
