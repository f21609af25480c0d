use Rattle.std.proofs.Common.{◌≡◌, ℕ, min, List, length, take, replicate, sum, sym, ap, ◌∙◌, arith}
use Rattle.std.proofs.lemmas.List.{length-take, length-replicate}
use Rattle.rules.specs.Claims.{Admitted}
use Rattle.rules.specs.Places.{plus}
use Rattle.rules.proofs.Acceptance.{filled}
use Rattle.rules.proofs.Served.{nothing_served, served_in_full}
use Rattle.rules.proofs.in_turn.serve.Goals as goal
use Rattle.rules.proofs.in_turn.serve.Goals.{then-share-total, else-share-total+then-share-gt0, else-share-total+else-share-gt0}

-- the first of 32 places, one for each claim
room : (cs : List ℕ) → Admitted cs → length (take (length cs) (replicate {A = ℕ} 32 0)) ≡ length cs
room cs ok = omega (arith, ok.few, length-take (length cs) (replicate {A = ℕ} 32 0), length-replicate {A = ℕ} 32 0)

pub add_to-requires-then-share-gt0-clause-fits : goal.add_to-requires-then-share-gt0-clause-fits
add_to-requires-then-share-gt0-clause-fits g c =
    let f = g.R.Rulebook.awarded c.args.rulebook.now c.args.house in
    let laws = g.met.R.Rulebook.lawful c.args.rulebook.now c.args.house in
    let cs : List ℕ = c.args.part.now.list.now in
    let e : ℕ = c.min-share.result in
    let is : c.awards.new.awards ≡ f e cs = filled cs _ c.awards.result _ _ _ c.args.part.now.admitted (room cs c.args.part.now.admitted) c.awards.ensures in
    λ k. rw is (omega (arith, laws.within e cs c.args.part.now.admitted k, c.requires.fits k))

pub returns-clause-served : goal.returns-clause-served
returns-clause-served g c =
    let f = g.R.Rulebook.awarded c.args.rulebook.now c.args.house in
    let laws = g.met.R.Rulebook.lawful c.args.rulebook.now c.args.house in
    let cs : List ℕ = c.args.part.now.list.now in
    let ok = c.args.part.now.admitted in
    let e : ℕ = c.min-share.result in
    let now : List ℕ = c.args.awards.now in
    let total : c.total-total.result ≡ sum cs = c.total-total.ensures in
    let worth : e ≡ min c.args.left (sum cs) = c.min-share.ensures ∙ ap (min c.args.left) total in
    let served : c.if-share-total.awards ≡ plus now (f e cs) =
    elim c.if-share-total.branch [
      | then-share-total w ↦
          let all : e ≡ sum cs = w.if-share-total.true ∙ total in
          w.awards-is ∙ w.add_to.ensures ∙ ap (plus now) (sym (ap (λ x. f x cs) all ∙ served_in_full f laws cs ok))
      | else-share-total+then-share-gt0 w ↦
          w.awards-is ∙ w.add_to-then-share-gt0.ensures ∙ ap (plus now) (filled cs _ w.awards.result _ _ _ ok (room cs ok) w.awards.ensures)
      | else-share-total+else-share-gt0 w ↦
          let none : e ≡ 0 = omega (arith, w.if-share-gt0.false) in
          w.awards-is ∙ nothing_served f laws cs now ok (omega arith) ∙ sym (ap (λ x. plus now (f x cs)) none)
    ] in
    served ∙ ap (λ x. plus now (f x cs)) worth
