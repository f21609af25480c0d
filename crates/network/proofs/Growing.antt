-- A list that a loop pushes onto: f says what it holds after each turn.
use Rattle.std.proofs.Common.{◌≡◌, ℕ, suc, ◌+◌, List, [], ◌++◌, sym, ap, ◌∙◌, append_assoc, add-one}
use Rattle.std.proofs.lemmas.List.{append-nil}

-- a turn that pushes a piece
pub grown : {X : Type 0} (before now next : List X) (f : ℕ → List X) (m : ℕ) (piece : List X) → now ≡ before ++ f m → next ≡ now ++ piece → f (suc m) ≡ f m ++ piece → next ≡ before ++ f (m + 1)
grown before now next f m piece inv pushed step =
    let more : f (m + 1) ≡ f m ++ piece = ap f (add-one m) ∙ step in
    cc (append_assoc before (f m) piece)

-- a turn that pushes nothing
pub kept : {X : Type 0} (before now next : List X) (f : ℕ → List X) (m : ℕ) → now ≡ before ++ f m → next ≡ now → f (suc m) ≡ f m ++ [] → next ≡ before ++ f (m + 1)
kept before now next f m inv same step = grown before now next f m [] inv (same ∙ sym (append-nil now)) step
