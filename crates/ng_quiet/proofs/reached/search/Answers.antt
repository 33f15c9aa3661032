use Rattle.std.proofs.Common.{◌≡◌, length, arith}
use Rattle.ng_quiet.proofs.ReachedLaws.{searches_next, searches_last, left_falls, nothing_in}
use Rattle.ng_quiet.proofs.reached.search.Goals as goal

pub loop-node-smaller : goal.loop-node-smaller
loop-node-smaller c = left_falls c.args.graph.now c.in-Some.node c.loop-node.marks c.mark.new.marks c.loop-node.ahead.items c.pop.new.self.items c.mark.new.ahead.items
    c.in-Some.ensures.items c.in_ok-mark.ensures

pub loop-node-preserved : goal.loop-node-preserved
loop-node-preserved c = λ starts so_far. searches_next c.args.graph.now starts c.in-Some.node c.loop-node.marks c.mark.new.marks c.loop-node.ahead.items c.pop.new.self.items c.mark.new.ahead.items
    c.in-Some.ensures.items (c.loop-node.invariant starts so_far) c.in_ok-mark.ensures

pub returns : goal.returns
returns c = λ starts so_far. let ok = c.loop-node.ahead.ok in let cases = c.in_default.ensures.cases in let none : length c.loop-node.ahead.items ≡ 0 = omega (arith, ok.0, cases.0) in
    searches_last c.args.graph.now starts c.loop-node.marks c.loop-node.ahead.items (nothing_in c.loop-node.ahead.items none) (c.loop-node.invariant starts so_far)
