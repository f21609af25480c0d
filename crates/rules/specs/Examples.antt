-- Settled examples.
use Rattle.std.specs.Prelude.{◌≡◌, [], ◌∷◌}
use Rattle.rules.specs.Classes.{by_class}
use Rattle.rules.specs.Dual.{dual}
use Rattle.rules.specs.Unit.{equal_awards, jefferson}

pub record Examples : Type 0 where
  -- equal awards of 6 units over claims of 1, 4 and 4
  pub equal_awards_of_6 : equal_awards 6 (1 ∷ 4 ∷ 4 ∷ []) ≡ 1 ∷ 3 ∷ 2 ∷ []
  -- Jefferson over claims of 6 and 3
  pub jefferson_of_2 : jefferson 2 (6 ∷ 3 ∷ []) ≡ 2 ∷ 0 ∷ []
  pub jefferson_of_3 : jefferson 3 (6 ∷ 3 ∷ []) ≡ 2 ∷ 1 ∷ []
  -- the dual of equal awards, of 1 unit over claims of 1 and 1: a tie goes to the higher number
  pub dual_of_1 : dual equal_awards 1 (1 ∷ 1 ∷ []) ≡ 0 ∷ 1 ∷ []
  -- creditors of classes 1, 0 and 0 with claims of 5, 2 and 2, over equal awards
  pub classes_of_3 : by_class (1 ∷ 0 ∷ 0 ∷ []) equal_awards 3 (5 ∷ 2 ∷ 2 ∷ []) ≡ 0 ∷ 2 ∷ 1 ∷ []
