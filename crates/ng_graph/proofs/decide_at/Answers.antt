use Rattle.std.proofs.Common.{◌≡◌, arith, rules, refl, sym, subst, length, replicate, false, ◌∷◌, []}
use Rattle.std.proofs.lemmas.Grind.{common_steps}
use Rattle.ng_graph.specs.Visit.{Searched}
use Rattle.ng_graph.proofs.Steps.{searched_none}
use Rattle.ng_graph.proofs.decide_at.Goals as goal

pub decide-requires-clause-searched : goal.decide-requires-clause-searched
decide-requires-clause-searched c =
    let e : c.as_mut_slice.result.now ≡ replicate (length c.args.graph.now) false = first_of (search rules, grind (arith, common_steps)) in
    let f : c.push.new.self.items ≡ c.args.start ∷ [] = first_of (search rules, grind (arith, common_steps)) in
    subst (λ m. Searched c.args.graph.now c.args.start m c.push.new.self.items 0) (sym e)
    (subst (λ q. Searched c.args.graph.now c.args.start (replicate (length c.args.graph.now) false) q 0) (sym f) (searched_none c.args.graph.now c.args.start (length c.args.graph.now) refl c.requires))
