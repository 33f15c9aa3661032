use Rattle.ng_nodes.proofs.Loops.{decoded_some, decoded_none}
use Rattle.ng_nodes.proofs.text.decoded.Goals as goal

pub returns-in-Ok : goal.returns-in-Ok
returns-in-Ok c = decoded_some c.in-Ok.text c.args.bytes c.in_ok-from_string-in-Ok.field-0 c.in-Ok.ensures.ok c.in_ok-from_string-in-Ok.ensures

pub returns : goal.returns
returns c = decoded_none c.args.bytes.items c.in-Err.ensures.succeeds
