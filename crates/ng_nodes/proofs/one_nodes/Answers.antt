use Rattle.ng_nodes.proofs.Public.{one_reading}
use Rattle.ng_nodes.proofs.one_nodes.Goals as goal

pub returns : goal.returns
returns c = one_reading
