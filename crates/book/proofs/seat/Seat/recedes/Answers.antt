use Rattle.std.proofs.Common.{ltb, List, length, ℕ, get_or, ap, ◌∙◌, arith}
use Rattle.clearing.specs.Networks.{any}
use Rattle.book.proofs.Sums.{any_zip}
use Rattle.book.proofs.seat.Seat.recedes.Goals as goal

pub returns : goal.returns
returns c =
    let B = c.args.self.now.book.now in
    let m = c.args.self.now.at in
    let few = B.figures.few in
    c.some_above.ensures
    ∙ any_zip (λ p. ltb p.1 p.0) c.row.result.now c.args.due.now B.figures.n (omega (arith, ap length c.row.ensures, B.columns m c.args.self.now.inside, few)) (omega (arith, few, c.told-due))
    ∙ ap (λ (xs : List ℕ). any B.figures.n (λ j. ltb (get_or c.args.due.now j 0) (get_or xs j 0))) c.row.ensures
