use Rattle.ng_nodes.proofs.Steps.{begun_settled}
use Rattle.ng_nodes.proofs.state.State.begin.Goals as goal

pub returns-in-Ok : goal.returns-in-Ok
returns-in-Ok c = begun_settled c.args.opener c.args.keep c.args.self.now c.settle.new.self c.enter.new.self c.enter.result c.in-Ok.ensures.settled c.enter.ensures
