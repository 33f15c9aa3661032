use Rattle.ng_nodes.proofs.Steps.{tag_settled}
use Rattle.ng_nodes.proofs.state.State.end_tag.Goals as goal

pub returns : goal.returns
returns c = tag_settled c.args.tag.now c.args.self.now c.settle.new.self c.end_element.new.self c.end_element.result c.in_ok-settle.ensures.settled c.end_element.ensures
