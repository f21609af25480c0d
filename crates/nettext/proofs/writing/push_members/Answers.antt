use Rattle.std.proofs.Common.{rules, ◌++◌, ap, refl, ◌∙◌, arith}
use Rattle.std.proofs.lemmas.Iterator.{YieldsList-from_map, YieldsList-from_range, YieldsList-from_slice, YieldsList-from_zip}
use Rattle.std.proofs.lemmas.Iterator.Adapters.{items_from_extend}
use Rattle.std.proofs.lemmas.Iterator.Consumers.{YieldsList-at}
use Rattle.std.proofs.lemmas.Result.{on_ok_weaker}
use Rattle.network.specs.Limits.{nobody}
use Rattle.network.proofs.Walks.{walked_each}
use Rattle.nettext.specs.Networks.{member_lines}
use Rattle.nettext.specs.declared.line.TextLine.TheVariants.{Member}
use Rattle.nettext.proofs.writing.push_members.Goals as goal

pub returns : goal.returns
returns c =
    let F = c.args.figures.now in
    let h = items_from_extend c.extend.result c.extend.ensures.ran
    (YieldsList-from_map _ (λ p. Member p.0 p.1)
    (YieldsList-at c.map.ensures.source (YieldsList-from_zip (YieldsList-at c.zip-members.ensures.first (YieldsList-from_range 0 F.n F.n refl (omega arith))) (YieldsList-from_slice F.members c.zip-members.ensures.second.0)))
    c.map.ensures.closure (λ x r q k. search rules)) in
    on_ok_weaker c.extend.result (λ e. e.0 ∙ ap (λ xs. c.args.lines.now.items ++ xs) (walked_each Member nobody (member_lines F) F.n F.members refl (omega arith) (λ m l. refl))) h
