-- What a loop over the creditors keeps of its best so far.
use Rattle.std.proofs.Common.{◌≡◌, ℕ, ◌+◌, ◌<◌, ◌≤◌, List, IfSome, Option, Some, None, add-one, arith}
use Rattle.rules.specs.Standards.{Scoring}
use Rattle.rules.specs.Unit.{contended, picked}
use Rattle.rules.specs.Picks.{FirstOf, first_picked}

first_in : (f : Scoring) (cs hs : List ℕ) (n all : ℕ) (o : Option ℕ) → n ≤ all → FirstOf f cs hs n o → IfSome o (λ b. b < all)
first_in f cs hs n all None le full = tt
first_in f cs hs n all (Some b) le (lt, _, _, _) = omega arith

-- it is in the list
pub picked_in : (f : Scoring) (positive : (j c h : ℕ) → 1 ≤ (f j c h).1) (cs hs : List ℕ) (n all : ℕ) (o : Option ℕ) → n ≤ all → o ≡ picked f cs hs n → IfSome o (λ b. b < all)
picked_in f positive cs hs n all o le is = rw is (first_in f cs hs n all (picked f cs hs n) le (first_picked f positive cs hs n))

pub picked_more : (f : Scoring) (cs hs : List ℕ) (best r : Option ℕ) (j : ℕ) → r ≡ contended f cs hs best j → best ≡ picked f cs hs j → r ≡ picked f cs hs (j + 1)
picked_more f cs hs best r j new before = rw (add-one, ← before) new
