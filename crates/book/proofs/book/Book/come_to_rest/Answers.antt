use Rattle.std.proofs.Common.{refl, arith}
use Rattle.book.proofs.Resting.{rounds_again, rounds_less, rounds_fit, rounds_rest}
use Rattle.book.proofs.book.Book.come_to_rest.Goals as goal

pub loop-tallies-init : goal.loop-tallies-init
loop-tallies-init g c = (
  record { figures = refl; payments = λ i j a b. refl; moving = λ k l. absurd (omega arith); units = omega arith; count = omega arith },
  c.no_visits-tallies.ensures (g.R.Rulebook.awarded c.args.rulebook.now),
)

pub returns-then-moved-eq0 : goal.returns-then-moved-eq0
returns-then-moved-eq0 g c =
    rounds_rest (g.R.Rulebook.awarded c.args.rulebook.now) c.args.self.now c.loop-tallies.rounds c.loop-tallies.units
    c.loop-tallies.self c.visit_all-moved.new.self c.visit_all-moved.result c.loop-tallies.invariant.0 c.visit_all-moved.ensures.round c.if-moved-eq0.true

pub overflow_add-rounds : goal.overflow_add-rounds
overflow_add-rounds g c =
    omega (
      arith,
      (rounds_fit (g.R.Rulebook.awarded c.args.rulebook.now) c.args.self.now c.loop-tallies.rounds c.loop-tallies.units
          c.loop-tallies.self c.visit_all-moved.new.self c.visit_all-moved.result c.loop-tallies.invariant.0 c.visit_all-moved.ensures.round c.if-moved-eq0.false).1,
    )

pub overflow_add-units : goal.overflow_add-units
overflow_add-units g c =
    omega (
      arith,
      (rounds_fit (g.R.Rulebook.awarded c.args.rulebook.now) c.args.self.now c.loop-tallies.rounds c.loop-tallies.units
          c.loop-tallies.self c.visit_all-moved.new.self c.visit_all-moved.result c.loop-tallies.invariant.0 c.visit_all-moved.ensures.round c.if-moved-eq0.false).0,
    )

pub loop-tallies-smaller : goal.loop-tallies-smaller
loop-tallies-smaller g c =
    rounds_less (g.R.Rulebook.awarded c.args.rulebook.now) c.args.self.now c.loop-tallies.rounds c.loop-tallies.units
    c.loop-tallies.self c.visit_all-moved.new.self c.visit_all-moved.result c.loop-tallies.invariant.0 c.visit_all-moved.ensures.round c.if-moved-eq0.false

pub loop-tallies-preserved : goal.loop-tallies-preserved
loop-tallies-preserved g c = (
  rounds_again (g.R.Rulebook.awarded c.args.rulebook.now) c.args.self.now c.loop-tallies.rounds c.loop-tallies.units
      c.loop-tallies.self c.visit_all-moved.new.self c.visit_all-moved.result c.loop-tallies.invariant.0 c.visit_all-moved.ensures.round c.if-moved-eq0.false,
  c.visit_all-moved.ensures.kept,
)
