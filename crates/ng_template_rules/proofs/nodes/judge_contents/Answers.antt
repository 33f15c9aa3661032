use Rattle.ng_template_rules.specs.TemplateRules.{content_breaks}
use Rattle.ng_template_rules.proofs.LeastNext.{pointed_next}
use Rattle.ng_template_rules.proofs.nodes.judge_contents.Goals as goal

pub loop-node-preserved : goal.loop-node-preserved
loop-node-preserved c = pointed_next content_breaks c.args.nodes.now c.loop-node.node-index c.node-item.result c.args.best.now c.loop-node.best c.judge_content.new.best
    c.loop-node-test.true c.node-item.is c.loop-node.invariant c.in_ok-judge_content.ensures
