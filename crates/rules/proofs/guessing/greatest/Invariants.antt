use Rattle.rules.specs.Kept.{OverFirst, Small}
use Rattle.rules.proofs.guessing.greatest.Given as goal

abbrev pub invariant-loop-head : goal.invariant-loop-head
invariant-loop-head l = Small l.greatest × OverFirst l.heads l.head-index l.greatest
