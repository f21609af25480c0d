use Rattle.std.proofs.Common.{◌≡◌, ℕ, ◌<◌, get_or}
use Rattle.rules.specs.Classes.{class_claim}
use Rattle.rules.proofs.class_table.ClassTable.select.Given as goal

abbrev pub invariant-loop-k : goal.invariant-loop-k
invariant-loop-k l =
    (j : ℕ) → j < l.k → get_or l.room j 0 ≡ class_claim l.self.classes l.class l.claims.list.now j
