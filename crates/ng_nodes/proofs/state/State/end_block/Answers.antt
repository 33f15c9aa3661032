use Rattle.ng_nodes.proofs.Steps.{block_settled}
use Rattle.ng_nodes.proofs.state.State.end_block.Goals as goal

pub returns : goal.returns
returns c = block_settled c.args.self.now c.settle.new.self c.end_inside.new.self c.end_inside.result c.in_ok-settle.ensures.settled c.end_inside.ensures
