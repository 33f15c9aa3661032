use Rattle.std.proofs.Common.{◌∙◌, ◌++◌, ap, subst, map, take, arith}
use Rattle.std.proofs.lemmas.List.{take_all}
use Rattle.std.specs.Borrow.{Bor}
use Rattle.ng_ast.specs.declared.Component.{Component}
use Rattle.ng_hosts.specs.Index.{marked, entries, Adds}
use Rattle.ng_hosts.proofs.Adding.{adds_more, entries_more, index_is}
use Rattle.ng_hosts.proofs.index.selector_index.Goals as goal

pub loop-at-preserved : goal.loop-at-preserved
loop-at-preserved c =
    adds_more c.empty_index-index.result c.loop-at.index c.push_alternatives.new.index _ _ _ c.loop-at.invariant c.in_ok-push_alternatives.ensures
    (λ w. ap (λ l. entries c.in_ok-counts.counts w 0 (map (λ (r : Bor Component). r.now) (take c.loop-at.at c.args.components.now)) ++ marked c.in_ok-counts.counts w c.loop-at.at 0 l) c.as_slice.ensures
    ∙ entries_more c.in_ok-counts.counts w c.args.components.now c.loop-at.at c.index-components-at.result (omega arith) c.index-components-at.is)

pub returns : goal.returns
returns c =
    index_is c.empty_index-index.result c.loop-at.index c.in_ok-counts.counts (map (λ (r : Bor Component). r.now) c.args.components.now) c.empty_index-index.ensures
    (subst (λ l. Adds c.empty_index-index.result c.loop-at.index (λ w. entries c.in_ok-counts.counts w 0 (map (λ (r : Bor Component). r.now) l))) (take_all c.loop-at.at c.args.components.now (omega arith)) c.loop-at.invariant)
