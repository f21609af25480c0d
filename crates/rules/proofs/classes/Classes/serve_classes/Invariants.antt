use Rattle.std.proofs.Common.{◌≡◌, ◌-◌}
use Rattle.rules.specs.Classes.{class_part}
use Rattle.rules.specs.InTurn.{earlier, in_turn}
use Rattle.rules.proofs.classes.Classes.serve_classes.Given as goal

abbrev pub invariant-loop-class : goal.invariant-loop-class
invariant-loop-class g l =
    let p = class_part l.self.table.classes (g.R.Rulebook.awarded l.self.below l.house) in
    (l.awards ≡ in_turn p l.class l.estate l.claims.list.now) × (l.left ≡ l.estate - earlier p l.class l.claims.list.now)
