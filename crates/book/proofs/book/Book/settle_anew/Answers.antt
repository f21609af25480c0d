use Rattle.std.proofs.Common.{◌≡◌, ℕ, true, List, [], get_or, refl, ◌∙◌, subst, arith, length-set}
use Rattle.book.specs.Seats.{IsSeat, Moves}
use Rattle.book.specs.Views.{receded_in}
use Rattle.book.specs.Visits.{Credited}
use Rattle.book.proofs.Cases.{at_seat, moves_settle, moves_keep, moves_columns}
use Rattle.book.proofs.Tables.{estate_cap}
use Rattle.book.proofs.Visiting.{keeps_settled, keeps_passed}
use Rattle.book.proofs.book.Book.settle_anew.Goals as goal

pub returns-in_default-clause-kept : goal.returns-in_default-clause-kept
returns-in_default-clause-kept g c =
    let A = g.R.Rulebook.awarded c.args.rulebook.now in
    let B = c.args.self.now in
    let m = c.args.member in
    let receded = at_seat (λ X k. receded_in A X k ≡ true) c.seat-seat.result (c.seat-seat.ensures.book, c.seat-seat.ensures.number) c.in_default.ensures in
    keeps_passed A B m c.requires.member receded c.args.tallies.now c.requires.kept

pub returns-clause-settles : goal.returns-clause-settles
returns-clause-settles g c =
    let A = g.R.Rulebook.awarded c.args.rulebook.now in
    let B = c.args.self.now in
    let m = c.args.member in
    let s = c.in-Some.settlement in
    moves_settle A B m c.requires.member s (at_seat (λ X k. Moves A X k s) c.seat-seat.result (c.seat-seat.ensures.book, c.seat-seat.ensures.number) c.in-Some.ensures) refl refl

pub credit-requires-clause-low : goal.credit-requires-clause-low
credit-requires-clause-low g c j l =
    let B = c.args.self.now in
    omega (arith, c.requires.kept.worth j l, estate_cap B j B.figures.n B.figures.few)

pub invariant_of-self : goal.invariant_of-self
invariant_of-self g c =
    let A = g.R.Rulebook.awarded c.args.rulebook.now in
    let B = c.args.self.now in
    let m = c.args.member in
    let s = c.in-Some.settlement in
    let moves = at_seat (λ X k. Moves A X k s) c.seat-seat.result (c.seat-seat.ensures.book, c.seat-seat.ensures.number) c.in-Some.ensures in
    let kept = moves_keep A B m c.requires.member s moves in
    record { rows = length-set B.paid m s.row ∙ B.rows; columns = moves_columns A B m c.requires.member s moves; capped = kept.0; solvent = kept.1 }

pub returns-clause-kept : goal.returns-clause-kept
returns-clause-kept g c =
    let A = g.R.Rulebook.awarded c.args.rulebook.now in
    let B = c.args.self.now in
    let m = c.args.member in
    let s = c.in-Some.settlement in
    let seat = c.seat-seat.result in
    let is : IsSeat B m seat = (c.seat-seat.ensures.book, c.seat-seat.ensures.number) in
    let V = c.args.tallies.now in
    let V' = c.credit.new.tallies in
    let moves = at_seat (λ X k. Moves A X k s) seat is c.in-Some.ensures in
    let raised : Credited V (get_or seat.book.now.paid seat.at []) s.row B.figures.n V' = subst (λ (xs : List ℕ). Credited V xs s.row B.figures.n V') c.row.ensures c.credit.ensures in
    keeps_settled A B _ m c.requires.member s moves (moves_settle A B m c.requires.member s moves refl refl) V V' c.requires.kept c.credit.array_long
    (at_seat (λ X k. Credited V (get_or X.paid k []) s.row B.figures.n V') seat is raised)
