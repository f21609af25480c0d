use Rattle.std.proofs.Common.{◌≡◌, ℕ, List, length, Ok, Err, Result, subst, inr}
use Rattle.network.specs.Answers.{Gives}
use Rattle.network.specs.declared.fault.Fault.{Fault}
use Rattle.network.specs.declared.figures.Figures.{Figures}
use Rattle.netfile.specs.Files.{file_of}
use Rattle.rules.specs.Claims.{awards_fault}
use Rattle.rules.specs.Classes.{classes_of}
use Rattle.rules.specs.Laws.{Rule}
use Rattle.rules.specs.Ring.{ring_rule, ring_classes, RingRules}
use Rattle.engine.specs.Exports.{Divided}
use Rattle.engine.proofs.divide.Goals as goal

-- what a rulebook answers of a list, once the file is loaded
divided : {file : List ℕ} (figures : Figures) (rules : ℕ → Rule) → file ≡ file_of figures → RingRules rules (classes_of figures) → (house estate : ℕ) (claims before after : List ℕ) (r : Result (Unit {0}) Fault) → Gives (awards_fault claims (length before)) (λ _. after ≡ rules house estate claims) (after ≡ before) r → Divided file house estate claims before r after
divided figures rules is houses house estate claims before after (Ok _) given =
    (given.0, record { figures = figures; rules = rules; is_file = is; houses = houses; divided = given.1 })
divided figures rules is houses house estate claims before after (Err e) given = (inr (inr ((figures, is), given.0)), given.1)

pub returns : goal.returns
returns c =
    let rulebook = c.ring_rulebook-rulebook.result in
    let houses = subst (λ (F : Figures). RingRules (ring_rule (ring_classes rulebook)) (classes_of F)) c.figures.ensures c.ring_rulebook-rulebook.ensures.rules in
    divided c.load.new.draft.figures (ring_rule (ring_classes rulebook)) c.in_ok-load.ensures.loaded.1 houses
    c.args.house c.args.estate c.args.claims.now c.args.awards.now c.awards.new.awards
    c.awards.result c.awards.ensures
