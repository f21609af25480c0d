use Rattle.other_rule.specs.ReverseLaws.{dual_of_priority}
use Rattle.other_rule.proofs.reverse.ReversePriority.new.Goals as goal

pub returns : goal.returns
returns c = dual_of_priority
