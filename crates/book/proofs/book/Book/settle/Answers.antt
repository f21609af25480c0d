use Rattle.std.proofs.Common.{refl, ◌∙◌, length-set}
use Rattle.book.specs.Seats.{Moves}
use Rattle.book.proofs.Cases.{at_seat, moves_settle, moves_keep, moves_columns}
use Rattle.book.proofs.book.Book.settle.Goals as goal

pub invariant_of-self : goal.invariant_of-self
invariant_of-self g c =
    let A = g.R.Rulebook.awarded c.args.rulebook.now in
    let B = c.args.self.now in
    let m = c.args.member in
    let s = c.in-Some.settlement in
    let l = c.in_ok-seat.ensures.1.1 in
    let moves = at_seat (λ X k. Moves A X k s) c.in_ok-seat.seat c.in_ok-seat.ensures.1.0 c.in-Some.ensures in
    let kept = moves_keep A B m l s moves in
    record { rows = length-set B.paid m s.row ∙ B.rows; columns = moves_columns A B m l s moves; capped = kept.0; solvent = kept.1 }

pub returns : goal.returns
returns g c =
    let A = g.R.Rulebook.awarded c.args.rulebook.now in
    let B = c.args.self.now in
    let m = c.args.member in
    let s = c.in-Some.settlement in
    moves_settle A B m c.in_ok-seat.ensures.1.1 s (at_seat (λ X k. Moves A X k s) c.in_ok-seat.seat c.in_ok-seat.ensures.1.0 c.in-Some.ensures) refl refl
