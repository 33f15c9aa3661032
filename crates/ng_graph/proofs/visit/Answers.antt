use Rattle.std.proofs.Common.{◌<◌, length, arith, refl}
use Rattle.ng_graph.proofs.Steps.{visits_one}
use Rattle.ng_graph.proofs.visit.Goals as goal

pub returns : goal.returns
returns c = let inside : c.args.node < length c.args.marked.now = omega arith in
    visits_one _ _ _ _ _ inside c.if-marked-node.false refl c.in_ok-push.ensures.items
