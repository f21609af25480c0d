use Rattle.std.proofs.Common.{◌≡◌, ℕ, Bool, true, false, rules, tests}
use Rattle.std.proofs.lemmas.Iterator.{first_from_Range}
use Rattle.clearing.specs.Settling.{would_pay}
use Rattle.book.specs.Views.{net_of, payments_of, division_of}
use Rattle.book.proofs.Cases.{first_is}
use Rattle.book.proofs.book.Book.next.Goals as goal

pub returns : goal.returns
returns g c =
    let B = c.args.self.now in
    let test : ℕ → Bool = would_pay (net_of B) (division_of (g.R.Rulebook.awarded c.args.rulebook.now) B) (payments_of B) in
    first_is test B.figures.n c.find.result
    (first_from_Range _ _ _ _ (λ i. test i ≡ true) (λ i. test i ≡ false) c.find.ensures.ran (λ x q k. search (rules, tests)) (λ x q k. search (rules, tests)))
