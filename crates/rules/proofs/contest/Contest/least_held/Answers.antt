use Rattle.rules.proofs.Guesses.{least_falls, least_kept, least_stays}
use Rattle.rules.proofs.contest.Contest.least_held.Goals as goal
use Rattle.rules.proofs.contest.Contest.least_held.Goals.{then-units-gt0+then-higher, then-units-gt0+else-higher, else-units-gt0}

pub loop-k-preserved : goal.loop-k-preserved
loop-k-preserved g c =
    let f = g.S.Standard.scored c.args.self.now.standard.now in
    let cs = c.args.self.now.claims.list.now in
    let hs = c.args.held.now in
    let before = c.loop-k.invariant in
    elim c.if-units-gt0.branch [
      | then-units-gt0+then-higher w ↦
          simp w.least-is (w.score-last.ensures.small, least_falls f cs hs c.loop-k.k c.loop-k.least before.0 before.1 _ w.score-last.ensures.is (cc))
      | then-units-gt0+else-higher w ↦
          simp w.least-is (before.0, least_kept f cs hs c.loop-k.k c.loop-k.least before.0 before.1 _ w.score-last.ensures.is (cc))
      | else-units-gt0 w ↦ simp w.least-is (before.0, least_stays f cs hs c.loop-k.k c.loop-k.least before.0 before.1 w.if-units-gt0.false)
    ]
