use Rattle.std.proofs.Common.{sym, ◌∙◌}
use Rattle.rules.proofs.Guesses.{greatest_kept, greatest_rises}
use Rattle.rules.proofs.guessing.greatest.Goals as goal
use Rattle.rules.proofs.guessing.greatest.Goals.{then-higher, else-higher}

pub loop-head-preserved : goal.loop-head-preserved
loop-head-preserved c =
    let before = c.loop-head.invariant in
    elim c.if-higher.branch [
      | then-higher w ↦ simp w.greatest-is (c.requires _ _ c.loop-head-test.true, greatest_rises _ _ _ before.0 before.1 (sym c.higher.ensures ∙ w.if-higher.true))
      | else-higher w ↦ simp w.greatest-is (before.0, greatest_kept _ _ _ before.0 before.1 (sym c.higher.ensures ∙ w.if-higher.false))
    ]
