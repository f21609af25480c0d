use Rattle.std.proofs.Common.{le_refl, arith}
use Rattle.book.proofs.Visiting.{raised_none, raised_more}
use Rattle.book.proofs.visits.credit.Goals as goal

pub loop-j-init : goal.loop-j-init
loop-j-init c = raised_none c.args.tallies.now c.args.before.now c.args.after.now c.told-tallies

pub overflow_add-tallies : goal.overflow_add-tallies
overflow_add-tallies c =
    let j = c.loop-j.j in
    omega (arith, c.loop-j.invariant.rest j (le_refl j), c.requires.low j c.loop-j-test.true, c.requires.small j)

pub loop-j-preserved : goal.loop-j-preserved
loop-j-preserved c =
    raised_more c.args.tallies.now c.loop-j.tallies c.args.before.now c.args.after.now c.loop-j.j c.loop-j.invariant (omega (arith, c.loop-j-test.true, c.requires.few))

pub returns : goal.returns
returns c = record { risen = λ j l. c.loop-j.invariant.risen j (omega arith); last = c.loop-j.invariant.last }
