use Rattle.ng_template_rules.proofs.LeastNext.{targets}
use Rattle.ng_template_rules.proofs.NodeLaws.{told-Element, told-For}
use Rattle.ng_template_rules.proofs.nodes.judge_node.Goals as goal

pub returns-in_ok-judge_inner_contents-in-Element : goal.returns-in_ok-judge_inner_contents-in-Element
returns-in_ok-judge_inner_contents-in-Element c = told-Element (targets c.args.components.now) c.args.owner.now c.args.node.now c.in-Element.place c.in-Element.tag c.in-Element.attrs _ _ c.in-Element.nodes _ _
    c.args.best.now c.judge_host.new.best c.judge_inner_view.new.best c.judge_inner_contents.new.best c.in-Element.is
    c.as_slice.ensures c.as_slice-in-Element.ensures c.as_slice-in-Element-2.ensures c.as_slice-in-Element-3.ensures
    c.in_ok-judge_host-in-Element.ensures c.in_ok-judge_inner_view-in-Element.ensures c.in_ok-judge_inner_contents-in-Element.ensures

pub returns-in_ok-judge_for-in-For : goal.returns-in_ok-judge_for-in-For
returns-in_ok-judge_for-in-For c = told-For (targets c.args.components.now) c.args.owner.now c.args.node.now c.in-For.place c.in-For.head c.in-For.nodes _ c.in-For.empty c.args.best.now c.judge_for.new.best
    c.in-For.is c.as_slice-in-For.ensures c.in_ok-judge_for-in-For.ensures
