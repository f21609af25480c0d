use Rattle.std.proofs.Common.{ℕ, ◌≤◌, List, get_or, subst}
use Rattle.rules.specs.Classes.{classes_of}
use Rattle.rules.specs.Ring.{ring_rule, RingApart}
use Rattle.rules.specs.Standards.{equal_score, jefferson_score}
use Rattle.rules.specs.Theorems.{Level}
use Rattle.rules.specs.Unit.{equal_awards, jefferson}
use Rattle.rules.proofs.ClassAwards.{classes_apart}
use Rattle.rules.proofs.DualAwards.{dual_only}
use Rattle.rules.proofs.OrderlyAwards.{priority_only}
use Rattle.rules.proofs.Quota.{jefferson_quota}
use Rattle.rules.proofs.StandardAwards.{equal_only, jefferson_only}
use Rattle.rules.proofs.StandardScores.{equal_positive, jefferson_positive}
use Rattle.rules.specs.UnitLaws.{unit_laws}
use Rattle.rules.proofs.ring.ring_rulebook.Goals as goal

apart : (us ts : List ℕ) → ((k : ℕ) → get_or ts k 0 ≤ 7) → RingApart (ring_rule us) ts
apart us ts low = record {
  house_0 = priority_only;
  house_1 = equal_only;
  house_2 = jefferson_only;
  quota_2 = jefferson_quota;
  house_3 = dual_only equal_awards (unit_laws equal_score equal_positive) Level equal_only;
  others = classes_apart ts jefferson low (unit_laws jefferson_score jefferson_positive);
}

pub returns-clause-apart : goal.returns-clause-apart
returns-clause-apart c =
    apart c.new-classes.result.table.classes (classes_of c.args.figures.now)
    (subst (λ xs. (k : ℕ) → get_or xs k 0 ≤ 7) c.of.ensures.entries c.of.result.low)
