use Rattle.std.proofs.Common.{refl, arith}
use Rattle.book.specs.Views.{payments_of}
use Rattle.book.proofs.Turning.{turn_pays, turn_passes, paid_cap, turned_round}
use Rattle.book.proofs.book.Book.visit_all.Goals as goal
use Rattle.book.proofs.book.Book.visit_all.Goals.{in-Some, in-None}

pub loop-m-init : goal.loop-m-init
loop-m-init g c = (record { figures = refl; payments = λ i j a b. refl; units = omega arith; passed = refl; few = omega arith }, c.requires)

pub overflow_add-units : goal.overflow_add-units
overflow_add-units g c =
    let B = c.args.self.now in
    let on = turn_pays (g.R.Rulebook.awarded c.args.rulebook.now) B.figures (payments_of B) c.loop-m.m c.loop-m.units c.loop-m.passed
    c.loop-m.self c.visit.new.self c.loop-m.invariant.0 c.loop-m-test.true c.in-Some.moved c.in-Some.ensures.settles in
    omega (arith, on.units, paid_cap B.figures c.visit.new.self on.figures)

pub loop-m-preserved : goal.loop-m-preserved
loop-m-preserved g c =
    let B = c.args.self.now in
    let A = g.R.Rulebook.awarded c.args.rulebook.now in
    let m = c.loop-m.m in
    let B' = c.visit.new.self in (
      elim c.match-visit.branch [
        | in-Some w ↦ simp (w.units-is, w.passed-is) (turn_pays A B.figures (payments_of B) m c.loop-m.units c.loop-m.passed c.loop-m.self B' c.loop-m.invariant.0 c.loop-m-test.true w.in-Some.moved w.in-Some.ensures.settles)
        | in-None w ↦ simp (w.units-is, w.passed-is) (turn_passes A B.figures (payments_of B) m c.loop-m.units c.loop-m.passed c.loop-m.self B' c.loop-m.invariant.0 c.loop-m-test.true _ w.in-None.ensures.settles)
      ],
      c.visit.ensures.kept,
    )

pub returns : goal.returns
returns g c =
    record {
      round = turned_round (g.R.Rulebook.awarded c.args.rulebook.now) c.args.self.now c.loop-m.self c.loop-m.m c.loop-m.units c.loop-m.passed c.loop-m.invariant.0 (omega arith);
      kept = c.loop-m.invariant.1;
    }
