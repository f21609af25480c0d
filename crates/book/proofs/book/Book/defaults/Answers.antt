use Rattle.std.proofs.Common.{◌≡◌, false, ltb, sym, ◌∙◌, inl, inr, zero-le, arith, rules, tests}
use Rattle.std.proofs.lemmas.List.{get_or_past}
use Rattle.std.proofs.lemmas.Bool.{cases_lt}
use Rattle.clearing.specs.Networks.{owed}
use Rattle.book.specs.Views.{payments_of, net_of, outlay_of}
use Rattle.book.proofs.Making.{made}
use Rattle.book.proofs.Outside.{default_past}
use Rattle.book.proofs.book.Book.defaults.Goals as goal

pub returns : goal.returns
returns c k =
    let B = c.args.self.now in
    let xs = c.from_fn.result in
    elim (cases_lt k 32) [
      | inl l ↦ made _ (λ i y. y ≡ ltb (outlay_of B i) (owed (net_of B) i)) xs false 0 32 _ (λ i y q h. search (rules, tests)) c.from_fn.ensures.items.each k zero-le l
      | inr l ↦ get_or_past xs k false (omega (arith, c.from_fn.ensures.items.long)) ∙ sym (default_past B.figures (payments_of B) k (omega (arith, B.figures.few)))
    ]
