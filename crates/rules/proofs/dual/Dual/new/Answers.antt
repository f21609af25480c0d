use Rattle.rules.proofs.DualAwards.{dual_of}
use Rattle.rules.proofs.dual.Dual.new.Goals as goal

pub returns-clause-losses : goal.returns-clause-losses
returns-clause-losses g c = λ house. dual_of _ (g.met.R.Rulebook.lawful c.args.below house)
