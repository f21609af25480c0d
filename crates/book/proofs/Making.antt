-- What an array holds whose elements were made by calls of a closure that changes nothing.
use Rattle.std.proofs.Common.{◌≡◌, ℕ, zero, suc, ◌+◌, ◌<◌, ◌≤◌, List, get_or, sym, subst, inl, inr, arith}
use Rattle.std.specs.Array.{IsFromFnResultFrom}
use Rattle.std.specs.Fn.{Called}
use Rattle.std.proofs.lemmas.Bool.{cases_eq}
use denote.Param.Members.{Mut}

pub made : {F B : Type 0} (g : Mut F (ℕ × Unit {0}) B) (R : ℕ → B → Type 0) (ys : List B) (d : B) (i n : ℕ) (f : F)
    → ((k : ℕ) (y : B) (q : F) → Called g f (k, tt) y q → (q ≡ f) × R k y) → IsFromFnResultFrom g f ys i n → (k : ℕ) → i ≤ k → k < i + n → R k (get_or ys k d)
made g R ys d i zero f same h k a b = absurd (omega arith)
made g R ys d i (suc n) f same (q, y, at, called, rest) k a b =
    elim (cases_eq k i) [
      | inl e ↦ subst (λ z. R z (get_or ys z d)) (sym e) (subst (λ w. R i w) (sym (at.1 d)) (same i y q called).1)
      | inr e ↦ made g R ys d (i + 1) n f same (subst (λ p. IsFromFnResultFrom g p ys (i + 1) n) (same i y q called).0 rest) k (omega arith) (omega arith)
    ]
