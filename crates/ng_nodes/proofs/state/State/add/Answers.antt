use Rattle.ng_nodes.proofs.Steps.{added_settled}
use Rattle.ng_nodes.proofs.state.State.add.Goals as goal

pub returns-in-Ok : goal.returns-in-Ok
returns-in-Ok c = added_settled c.args.node c.args.self.now c.settle.new.self c.append.new.self c.append.result c.in-Ok.ensures.settled c.append.ensures
