use Rattle.rules.proofs.ClassAwards.{classes_apart}
use Rattle.rules.specs.InTurnLaws.{in_turn_laws}
use Rattle.rules.proofs.classes.Classes.new.Goals as goal

pub returns-clause-apart : goal.returns-clause-apart
returns-clause-apart g c = λ house. classes_apart c.args.table.classes _ c.args.table.low (g.met.R.Rulebook.lawful c.args.below house)

pub returns-clause-turns : goal.returns-clause-turns
returns-clause-turns g c = in_turn_laws
