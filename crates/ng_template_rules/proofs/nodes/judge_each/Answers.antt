use Rattle.std.proofs.Common.{map}
use Rattle.ng_template_rules.specs.TemplateRules.{node_breaks}
use Rattle.ng_template_rules.proofs.LeastNext.{pointed_next}
use Rattle.ng_template_rules.proofs.nodes.judge_each.Goals as goal

pub loop-node-preserved : goal.loop-node-preserved
loop-node-preserved c = pointed_next (node_breaks (map (λ r. r.now) c.args.components.now) c.args.owner.now) c.args.nodes.now c.loop-node.node-index c.node-item.result c.args.best.now c.loop-node.best c.judge_node.new.best
    c.loop-node-test.true c.node-item.is c.loop-node.invariant c.in_ok-judge_node.ensures
