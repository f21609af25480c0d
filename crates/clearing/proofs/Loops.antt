-- The turns of loops that settle in order and that close: P at the loop's start, Q as the turn begins, Q' as it ends.
use Rattle.std.proofs.Common.{◌≡◌, ℕ, suc, ◌+◌, ◌<◌, true, false, sym, ap, ◌∙◌, subst, inl, inr, le_trans, le_of_eq, add-one, arith}
use Rattle.std.proofs.lemmas.Bool.{cases_lt}
use Rattle.clearing.specs.Networks.{Network, Division, Payments, LawfulDivision, Least, AtMost, Equal}
use Rattle.clearing.specs.Settling.{Closes, moved, settle, settle_below, round, rounds}
use Rattle.clearing.proofs.Growth.{Good}
use Rattle.clearing.proofs.Closing.{close_least}
use Rattle.clearing.proofs.Respects.{settle_eq, round_eq, moved_eq, least_eq}

pub under_equal : (N : Network) (P Q R : Payments) → AtMost N P R → Equal N Q R → AtMost N P Q
under_equal N P Q R h e i j a b = le_trans (h i j a b) (le_of_eq (sym (e i j a b)))

module _ (N : Network) (D : Division) where
  -- member m had its turn
  pub settle_more : (P Q Q' : Payments) (m : ℕ) → m < N.members → Equal N Q (settle_below N D m P) → Equal N Q' (settle N D Q m) → Equal N Q' (settle_below N D (m + 1) P)
  settle_more P Q Q' m l e f i j a b =
      f i j a b ∙ settle_eq N D Q (settle_below N D m P) e m l i j a b ∙ sym (ap (λ k. settle_below N D k P i j) (add-one m))

  -- one round more
  pub rounds_on : (P Q Q' : Payments) (r : ℕ) → Equal N Q (rounds N D r P) → Equal N Q' (round N D Q) → Equal N Q' (rounds N D (suc r) P)
  rounds_on P Q Q' r e f i j a b = f i j a b ∙ round_eq N D Q (rounds N D r P) e i j a b

  same_move : (P Q Q' : Payments) (r : ℕ) → Equal N Q (rounds N D r P) → Equal N Q' (round N D Q) → moved N (rounds N D r P) (rounds N D (suc r) P) ≡ moved N Q Q'
  same_move P Q Q' r e f =
      moved_eq N (rounds N D r P) Q (rounds N D (suc r) P) Q' (λ i j a b. sym (e i j a b)) (λ i j a b. sym (rounds_on P Q Q' r e f i j a b))

  -- which moved units
  pub moving_more : (P Q Q' : Payments) (r : ℕ) → Equal N Q (rounds N D r P) → Equal N Q' (round N D Q) → moved N Q Q' ≡ true
      → ((k : ℕ) → k < r → moved N (rounds N D k P) (rounds N D (suc k) P) ≡ true) → (k : ℕ) → k < r + 1 → moved N (rounds N D k P) (rounds N D (suc k) P) ≡ true
  moving_more P Q Q' r e f t h k l =
      elim (cases_lt k r) [
        | inl s ↦ h k s
        | inr s ↦
            (let same : r ≡ k = omega arith in
            subst (λ x. moved N (rounds N D x P) (rounds N D (suc x) P) ≡ true) same (same_move P Q Q' r e f ∙ t))
      ]

  -- or moved nothing
  pub close_rests : (P Q Q' : Payments) (r : ℕ) → Equal N Q (rounds N D r P) → Equal N Q' (round N D Q) → moved N Q Q' ≡ false
      → ((k : ℕ) → k < r → moved N (rounds N D k P) (rounds N D (suc k) P) ≡ true) → Closes N D P r
  close_rests P Q Q' r e f t h = record { moving = h; resting = same_move P Q Q' r e f ∙ t }

  pub close_is_least : LawfulDivision N D → (P F : Payments) (r : ℕ) → Good N D P → Closes N D P r → Equal N F (rounds N D r P) → Least N D F
  close_is_least law P F r g c e = least_eq N D (rounds N D r P) F (λ i j a b. sym (e i j a b)) (close_least N D law P g r c)
