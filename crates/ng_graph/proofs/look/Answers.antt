use Rattle.std.proofs.Common.{◌≡◌, rules, arith, subst, ◌<◌, length, get_or}
use Rattle.std.proofs.lemmas.Grind.{common_steps}
use Rattle.ng_graph.proofs.Steps.{in_at, searched_more}
use Rattle.ng_graph.proofs.look.Goals as goal

pub row_of-row-requires : goal.row_of-row-requires
row_of-row-requires c = let e : get_or c.args.queue.now.items c.args.at 0 ≡ c.index.result.now = first_of (search rules, grind (arith, common_steps)) in
    subst (λ z. z < length c.args.graph.now) e (c.requires.searched.below _ (in_at c.args.queue.now.items c.args.at c.requires.at))

pub returns-clause-more : goal.returns-clause-more
returns-clause-more c = let e : get_or c.args.queue.now.items c.args.at 0 ≡ c.index.result.now = first_of (search rules, grind (arith, common_steps)) in
    searched_more _ _ _ _ _ _ _ c.index.result.now c.row_of-row.result.now c.requires.searched c.requires.at e c.row_of-row.ensures (rw c.as_slice.ensures at c.in_ok-visit_all.ensures)
