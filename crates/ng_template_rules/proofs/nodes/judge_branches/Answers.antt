use Rattle.ng_template_rules.specs.TemplateRules.{branch_breaks}
use Rattle.ng_breaks.specs.LeastLaws.{least_next}
use Rattle.ng_template_rules.proofs.nodes.judge_branches.Goals as goal

pub loop-branch-preserved : goal.loop-branch-preserved
loop-branch-preserved c = least_next branch_breaks c.args.branches.now c.loop-branch.branch-index c.branch-item.result c.args.best.now c.loop-branch.best c.judge_branch.new.best
    c.loop-branch-test.true c.branch-item.is c.loop-branch.invariant c.in_ok-judge_branch.ensures
