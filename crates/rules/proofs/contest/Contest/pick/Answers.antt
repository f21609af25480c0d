use Rattle.std.proofs.Common.{length, sym, ◌∙◌}
use Rattle.rules.specs.Picks.{first_among_all, first_picked}
use Rattle.rules.specs.Unit.{picked}
use Rattle.rules.proofs.KeptScores.{scan_starts, scan_none, scan_goes, scan_ends, tail_small}
use Rattle.rules.proofs.contest.Contest.pick.Goals as goal

pub returns-in_err-best-clause-value : goal.returns-in_err-best-clause-value
returns-in_err-best-clause-value g c = let none = scan_none _ _ _ _ c.requires (sym c.in_err-best.was ∙ c.first_short.ensures) in cc

pub loop-behind-init : goal.loop-behind-init
loop-behind-init g c = scan_starts _ _ _ _ c.requires _ c.in_ok-best.ensures

pub first_above-requires-clause-kept : goal.first_above-requires-clause-kept
first_above-requires-clause-kept g c = tail_small _ _ _ _ c.requires c.loop-behind.best

pub loop-behind-preserved : goal.loop-behind-preserved
loop-behind-preserved g c = scan_goes _ _ _ _ c.requires _ _ c.loop-behind.invariant c.in-Some.ensures

pub returns : goal.returns
returns g c =
    let f = g.S.Standard.scored c.args.self.now.standard.now in
    let cs = c.args.self.now.claims.list.now in
    let hs = c.args.held.now in
    let positive = (g.met.S.Standard.measured c.args.self.now.standard.now).positive in
    let is = scan_ends f cs hs c.args.heads.now c.requires c.loop-behind.best c.loop-behind.invariant c.in_default.ensures in
    record { value = sym is; first = rw is at (first_among_all f cs hs (picked f cs hs (length cs)) (first_picked f positive cs hs (length cs))) }
