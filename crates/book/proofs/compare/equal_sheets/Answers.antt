use Rattle.std.proofs.Common.{◌≡◌, refl, ◌∙◌, sym, Decides}
use Rattle.std.proofs.lemmas.Slice.Eq.{slice_eq-Decides}
use Rattle.std.proofs.lemmas.Bool.{both_ways}
use Rattle.std.proofs.lemmas.Bool.Decides.{Decides-eqb}
use Rattle.std.specs.Cmp.{booleans_Decides}
use Rattle.book.proofs.compare.equal_sheets.Goals as goal
use Rattle.book.proofs.compare.equal_sheets.Goals.{then-eq, else-eq}

pub returns-then-eq-2 : goal.returns-then-eq-2
returns-then-eq-2 c =
    let payments : Decides c.eq.result (c.args.one.now.paid ≡ c.args.two.now.paid) = slice_eq-Decides (λ xs ys. slice_eq-Decides Decides-eqb xs ys _ refl) c.args.one.now.paid c.args.two.now.paid c.eq.result c.eq.ensures in
    let defaults : Decides c.eq-then-eq-2.result (c.args.one.now.defaults ≡ c.args.two.now.defaults) = slice_eq-Decides booleans_Decides c.args.one.now.defaults c.args.two.now.defaults c.eq-then-eq-2.result c.eq-then-eq-2.ensures in
    elim c.if-eq.branch [
      | then-eq w ↦
          (let equities : Decides w.eq-then-eq.result (c.args.one.now.equities ≡ c.args.two.now.equities) = slice_eq-Decides Decides-eqb c.args.one.now.equities c.args.two.now.equities w.eq-then-eq.result w.eq-then-eq.ensures in
          (λ e. record { payments = payments.0 w.if-eq.true; equities = equities.0 (sym w.value-is ∙ c.if-eq-2.true); defaults = defaults.0 e }, λ s. defaults.1 s.defaults))
      | else-eq w ↦ absurd (both_ways _ (w.value-is ∙ w.if-eq.false) c.if-eq-2.true)
    ]

pub returns-else-eq-2 : goal.returns-else-eq-2
returns-else-eq-2 c =
    let payments : Decides c.eq.result (c.args.one.now.paid ≡ c.args.two.now.paid) = slice_eq-Decides (λ xs ys. slice_eq-Decides Decides-eqb xs ys _ refl) c.args.one.now.paid c.args.two.now.paid c.eq.result c.eq.ensures in (
      λ e. absurd (both_ways _ c.if-eq-2.false e),
      λ s. elim c.if-eq.branch [
        | then-eq w ↦ (let equities : Decides w.eq-then-eq.result (c.args.one.now.equities ≡ c.args.two.now.equities) = slice_eq-Decides Decides-eqb c.args.one.now.equities c.args.two.now.equities w.eq-then-eq.result w.eq-then-eq.ensures in w.value-is ∙ equities.1 s.equities)
        | else-eq w ↦ absurd (both_ways _ w.if-eq.false (payments.1 s.payments))
      ],
    )
