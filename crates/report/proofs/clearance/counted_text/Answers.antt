use Rattle.std.proofs.Common.{◌∙◌, ap, [], sym, refl, subst}
use Rattle.network.specs.declared.draft.Draft.{Draft}
use Rattle.network.specs.declared.figures.Figures.{Figures}
use Rattle.rules.specs.Classes.{classes_of}
use Rattle.rules.specs.Ring.{ring_rule, ring_classes, RingRules}
use Rattle.clearing.proofs.Respects.{least_eq}
use Rattle.book.specs.Tables.{cells, network_of}
use Rattle.book.specs.Rulebooks.{division}
use Rattle.book.specs.Lives.{EqualDrafts, Life, rest}
use Rattle.report.specs.Lines.{printed}
use Rattle.report.proofs.clearance.counted_text.Goals as goal

same : (draft : Draft) → EqualDrafts draft draft
same draft = record { members = refl; endowments = λ i _. refl; houses = λ i _. refl; claims = λ i j _ _. refl }

pub returns-clause-cleared : goal.returns-clause-cleared
returns-clause-cleared c =
    let draft = c.load.new.draft in
    let rulebook = c.ring_rulebook-rulebook.result in
    let sheet = c.close-sheet.result in
    let life : Life (ring_rule (ring_classes rulebook)) draft [] sheet =
    record { opened = c.open.result; worked = c.open.result; opens = c.open.ensures; works = rest; ends = c.close-sheet.ensures.ends } in
    let two = c.close-sheet.ensures.order draft draft (same draft) [] [] c.open.result sheet c.open.ensures rest c.close-sheet.ensures.ends life in
    record {
      draft = draft;
      rulebook = rulebook;
      sheet = sheet;
      short = c.requires.short;
      file = c.in_ok-load.ensures.loaded.1;
      houses = subst (λ (F : Figures). RingRules (ring_rule (ring_classes rulebook)) (classes_of F)) c.figures.ensures c.ring_rulebook-rulebook.ensures.rules;
      life = life;
      least = least_eq (network_of draft.figures) (division (ring_rule (ring_classes rulebook)) draft.figures) two.least (cells sheet.paid) (λ i j a b. sym (two.first.ends i j a b)) two.first.least;
      lines = c.in_ok-print.ensures ∙ ap printed (c.as_slice.ensures.value ∙ c.in_ok-lines.ensures);
    }
