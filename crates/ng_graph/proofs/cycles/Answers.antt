use Rattle.std.proofs.Common.{◌≡◌, arith, subst, sym, true}
use Rattle.ng_graph.specs.Walk.{Tells, IsOnCycle}
use Rattle.ng_graph.proofs.Steps.{told_more}
use Rattle.ng_graph.proofs.cycles.Goals as goal

pub loop-node-preserved : goal.loop-node-preserved
loop-node-preserved c = record {
  long = omega (arith, c.in_ok-push.ensures.len, c.loop-node.invariant.long);
  each = subst (Tells c.args.graph.now) (sym c.in_ok-push.ensures.items) (told_more c.args.graph.now c.loop-node.answers.items c.in_ok-answer.answer c.loop-node.invariant.each (subst (λ n. (c.in_ok-answer.answer ≡ true → IsOnCycle c.args.graph.now n) × (IsOnCycle c.args.graph.now n → c.in_ok-answer.answer ≡ true)) (sym c.loop-node.invariant.long) c.in_ok-answer.ensures));
}
