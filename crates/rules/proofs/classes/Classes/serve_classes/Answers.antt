use Rattle.std.proofs.Common.{ℕ, ◌<◌, List, arith}
use Rattle.rules.specs.Claims.{Admitted}
use Rattle.rules.specs.Classes.{class_part}
use Rattle.rules.specs.ClassLaws.{length_of_class, class_splits}
use Rattle.rules.specs.InTurnLaws.{in_turn_fits}
use Rattle.rules.proofs.classes.Classes.serve_classes.Goals as goal

pub serve-left-requires : goal.serve-left-requires
serve-left-requires g c =
    let s = c.args.self.now in
    let f = g.R.Rulebook.awarded s.below c.args.house in
    let splits = class_splits s.table.classes f s.table.low (g.met.R.Rulebook.lawful s.below c.args.house) in
    let cs : List ℕ = c.args.claims.now.list.now in
    let ok : Admitted cs = c.args.claims.now.admitted in
    let t : ℕ = c.loop-class.class in
    let lt : t < 8 = omega arith in
    let size = length_of_class s.table.classes t cs in
    record {
      same = rw c.select-part.ensures (omega arith);
      fits = λ k. rw (c.select-part.ensures, c.loop-class.invariant.0) (in_turn_fits (class_part s.table.classes f) 8 splits cs ok t c.args.estate k lt);
    }
