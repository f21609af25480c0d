use Rattle.std.proofs.Common.{rules, tests, ◌==◌, not, refl, ℕ, [], Ok, length, arith}
use Rattle.std.proofs.lemmas.Iterator.{YieldsList-from_map, YieldsList-from_range, YieldsList-from_slice, YieldsList-from_zip}
use Rattle.std.proofs.lemmas.Iterator.Adapters.{items_from_extend}
use Rattle.std.proofs.lemmas.Iterator.Consumers.{YieldsList-at, YieldsList-from_filter, YieldsList-turn}
use Rattle.network.proofs.Walks.{pair_at}
use Rattle.nettext.proofs.Rows.{row_pushed}
use Rattle.nettext.specs.declared.line.TextLine.TheVariants.{Claim}
use Rattle.nettext.proofs.writing.push_claims.Goals as goal

pub loop-debtor-preserved : goal.loop-debtor-preserved
loop-debtor-preserved c =
    let F = c.args.figures.now in
    let k = length c.loop-debtor.yielded in
    let d = c.in-Some.debtor in
    let row = c.in-Some.row.now in
    let turn = YieldsList-turn
    (YieldsList-at c.into_iter-debtor-iterator.ensures.into_iter_gives (YieldsList-from_zip (YieldsList-at c.zip-debtor-items.ensures.first (YieldsList-from_range 0 F.n F.n refl (omega arith))) (YieldsList-from_slice F.claims c.zip-debtor-items.ensures.second.0)))
    c.loop-debtor.yielded c.loop-debtor.debtor-iterator c.loop-debtor.yielded_by c.next.result c.next.new.self (d, c.in-Some.row) c.in-Some.is c.next.ensures.steps in
    let here = pair_at F.n k F.claims [] (d, row) (omega arith) turn in
    let pushed = items_from_extend {E = ℕ} (Ok _) c.in_ok-extend.ensures.ran
    (YieldsList-from_map _ (λ p. Claim d p.0 p.1)
    (YieldsList-at c.map.ensures.source
    (YieldsList-from_filter _ (λ p. not (p.1 == 0))
    (YieldsList-at c.filter-claims.ensures.source (YieldsList-from_zip (YieldsList-at c.zip.ensures.first (YieldsList-from_range 0 F.n F.n refl (omega arith))) (YieldsList-from_slice row c.zip.ensures.second.0)))
    c.filter-claims.ensures.closure (λ x r q k. search (rules, tests))))
    c.map.ensures.closure (λ x r q k. search rules)) in
    row_pushed F c.args.lines.now.items c.loop-debtor.lines.items c.extend.new.self.items c.loop-debtor.yielded _ d row here c.loop-debtor.invariant pushed.0
