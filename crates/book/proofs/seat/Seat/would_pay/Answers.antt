use Rattle.std.proofs.Common.{ℕ, List, [], length, eqb, ltb, get_or, ◌∙◌, ap, not, arith}
use Rattle.clearing.specs.Networks.{any}
use Rattle.clearing.proofs.Respects.{any_eq}
use Rattle.book.proofs.Cases.{receded_is, steady_is, would_not, would_if}
use Rattle.book.proofs.Sums.{any_zip, less_differs}
use Rattle.book.proofs.seat.Seat.would_pay.Goals as goal

pub returns-then-not-recedes : goal.returns-then-not-recedes
returns-then-not-recedes g c =
    let A = g.R.Rulebook.awarded c.args.rulebook.now in
    let B = c.args.self.now.book.now in
    let m = c.args.self.now.at in
    let n = B.figures.n in
    let few = B.figures.few in
    let row : List ℕ = get_or B.paid m [] in
    let due : List ℕ = c.due_row-due.result in
    let told = c.due_row-due.ensures in
    would_if A B m due told (receded_is A B m due told c.recedes.result c.recedes.ensures ∙ c.if-not-recedes.true) c.some_above.result
    (c.some_above.ensures
    ∙ any_zip (λ p. ltb p.1 p.0) due c.row.result.now n (omega (arith, few, told.wide)) (omega (arith, ap length c.row.ensures, B.columns m c.args.self.now.inside, few))
    ∙ ap (λ (xs : List ℕ). any n (λ k. ltb (get_or xs k 0) (get_or due k 0))) c.row.ensures
    ∙ any_eq n (λ k. ltb (get_or row k 0) (get_or due k 0)) (λ k. not (eqb (get_or row k 0) (get_or due k 0)))
    (λ k l. less_differs (get_or row k 0) (get_or due k 0) (steady_is A B m due told c.recedes.result c.recedes.ensures c.if-not-recedes.true k l)))

pub returns-else-not-recedes : goal.returns-else-not-recedes
returns-else-not-recedes g c =
    let A = g.R.Rulebook.awarded c.args.rulebook.now in
    let B = c.args.self.now.book.now in
    let m = c.args.self.now.at in
    let told = receded_is A B m c.due_row-due.result c.due_row-due.ensures c.recedes.result c.recedes.ensures in
    ap not c.if-not-recedes.false ∙ would_not A B m (told ∙ c.if-not-recedes.false)
