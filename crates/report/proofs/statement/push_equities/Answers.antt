use Rattle.std.proofs.Common.{rules, ◌++◌, ap, refl, ◌∙◌, arith}
use Rattle.std.proofs.lemmas.Iterator.{YieldsList-from_map, YieldsList-from_range, YieldsList-from_slice, YieldsList-from_zip}
use Rattle.std.proofs.lemmas.Iterator.Adapters.{items_from_extend}
use Rattle.std.proofs.lemmas.Iterator.Consumers.{YieldsList-at}
use Rattle.std.proofs.lemmas.Result.{on_ok_weaker}
use Rattle.network.proofs.Walks.{walked_each}
use Rattle.report.specs.Sheets.{equity_lines}
use Rattle.report.specs.declared.line.Line.TheVariants.{Equity}
use Rattle.report.proofs.statement.push_equities.Goals as goal

pub returns : goal.returns
returns c =
    let S = c.args.sheet.now in
    let n = S.figures.n in
    let pushed = items_from_extend c.extend.result c.extend.ensures.ran
    (YieldsList-from_map _ (λ p. Equity p.0 p.1)
    (YieldsList-at c.map.ensures.source (YieldsList-from_zip (YieldsList-at c.zip-equities.ensures.first (YieldsList-from_range 0 n n refl (omega arith))) (YieldsList-from_slice S.equities c.zip-equities.ensures.second.0)))
    c.map.ensures.closure (λ x r q k. search rules)) in
    on_ok_weaker c.extend.result (λ e. e.0 ∙ ap (λ xs. c.args.lines.now.items ++ xs) (walked_each Equity 0 (equity_lines S) n S.equities refl (omega arith) (λ m l. refl))) pushed
