use Rattle.std.proofs.Common.{◌≡◌, ◌≤◌, sum, rules, sym, ap, ◌∙◌, arith}
use Rattle.std.proofs.lemmas.Bool.{ltb-true}
use Rattle.rules.specs.Lists.{admitted_total}
use Rattle.rules.specs.Unit.{dealt}
use Rattle.rules.proofs.Guesses.{guess_is_dealt, within_is}
use Rattle.rules.proofs.contest.Contest.check_guess.Goals as goal

pub sum-total-requires-clause-fits : goal.sum-total-requires-clause-fits
sum-total-requires-clause-fits g c =
    let guess = c.args.guess.now in
    let ok = c.args.self.now.claims.admitted in
    let within = within_is guess c.args.self.now.claims.list.now c.requires.scores.listed (sym c.within.ensures ∙ c.if-not-within.false) in
    let small : sum guess ≤ 320000 = admitted_total guess (record { few = omega (arith, ok.few, c.requires.scores.listed); small = λ k. omega (arith, within k, ok.small k) }) in
    search rules

pub returns-then-higher : goal.returns-then-higher
returns-then-higher g c =
    let f = g.S.Standard.scored c.args.self.now.standard.now in
    let positive = (g.met.S.Standard.measured c.args.self.now.standard.now).positive in
    let cs = c.args.self.now.claims.list.now in
    let guess = c.args.guess.now in
    let within = within_is guess cs c.requires.scores.listed (sym c.within.ensures ∙ c.if-not-within.false) in
    let total : c.sum-total.result ≡ sum guess = search rules in (
      c.if-total-units.false,
      guess_is_dealt f positive cs guess c.args.heads.now within c.requires.scores c.least_held-least.result c.greatest-greatest.result
          c.least_held-least.ensures.1 c.greatest-greatest.ensures.1 (ltb-true _ _ (sym c.higher.ensures ∙ c.if-higher.true)) c.requires.falling c.args.self.now.claims.admitted
          ∙ sym (ap (dealt f cs) total),
    )
