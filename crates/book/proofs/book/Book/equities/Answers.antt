use Rattle.std.proofs.Common.{◌≡◌, sym, ◌∙◌, inl, inr, zero-le, arith, rules, tests}
use Rattle.std.proofs.lemmas.List.{get_or_past}
use Rattle.std.proofs.lemmas.Bool.{cases_lt}
use Rattle.book.specs.Views.{payments_of, cash_of}
use Rattle.book.proofs.Making.{made}
use Rattle.book.proofs.Outside.{cash_past}
use Rattle.book.proofs.book.Book.equities.Goals as goal

pub returns : goal.returns
returns c k =
    let B = c.args.self.now in
    let xs = c.from_fn.result in
    elim (cases_lt k 32) [
      | inl l ↦ made _ (λ i y. y ≡ cash_of B i) xs 0 0 32 _ (λ i y q h. search (rules, tests)) c.from_fn.ensures.items.each k zero-le l
      | inr l ↦ get_or_past xs k 0 (omega (arith, c.from_fn.ensures.items.long)) ∙ sym (cash_past B.figures (payments_of B) k (omega (arith, B.figures.few)) B.capped)
    ]
