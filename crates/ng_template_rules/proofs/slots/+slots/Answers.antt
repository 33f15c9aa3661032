use Rattle.std.proofs.Common.{◌∙◌, ◌++◌, ap, arith}
use Rattle.std.specs.List.{flat_map}
use Rattle.ng_breaks.specs.Least.{least_of}
use Rattle.ng_template_rules.specs.TemplateRules.{slots, twice_in}
use Rattle.ng_breaks.specs.LeastLaws.{flat_map_next, least_next}
use Rattle.ng_template_rules.proofs.SlotLaws.{nodes_seen, nodes_best}
use Rattle.ng_template_rules.proofs.slots.+slots.Goals as goal

pub judge_nodes-loop-node-preserved : goal.judge_nodes-loop-node-preserved
judge_nodes-loop-node-preserved t c = record {
  seen = nodes_seen _ _ _ c.args.nodes.now c.loop-node.node-index c.node-item.result (omega arith) c.node-item.is c.loop-node.invariant.seen c.in_ok-judge_node.ensures.seen;
  best = nodes_best _ _ _ _ _ _ c.args.nodes.now c.loop-node.node-index c.node-item.result (omega arith) c.node-item.is c.loop-node.invariant.best c.in_ok-judge_node.ensures.best c.in_ok-judge_node.ensures.seen;
}

pub judge_branches-loop-branch-preserved : goal.judge_branches-loop-branch-preserved
judge_branches-loop-branch-preserved t c = record {
  seen = c.in_ok-judge_branch.ensures.seen ∙ c.loop-branch.invariant.seen;
  later = c.in_ok-judge_branch.ensures.later ∙ ap (λ l. l ++ flat_map slots c.branch-item.result.nodes) c.loop-branch.invariant.later
      ∙ flat_map_next (λ b. flat_map slots b.nodes) c.args.branches.now c.loop-branch.branch-index c.branch-item.result (omega arith) c.branch-item.is;
  best = least_next (λ b. twice_in c.args.seen.now.items b.nodes) c.args.branches.now c.loop-branch.branch-index c.branch-item.result c.args.best.now c.loop-branch.best c.judge_branch.new.best (omega arith) c.branch-item.is c.loop-branch.invariant.best
      (c.in_ok-judge_branch.ensures.best ∙ ap (λ s. least_of c.loop-branch.best (twice_in s c.branch-item.result.nodes)) c.loop-branch.invariant.seen);
}
