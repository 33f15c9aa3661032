use Rattle.std.proofs.Common.{arith}
use Rattle.ng_exprs.proofs.BlocksPublic.{body_ok, body_rest, body_err}
use Rattle.ng_exprs.proofs.bodies.read_tokens.Goals as goal

pub returns-in-Err : goal.returns-in-Err
returns-in-Err c = body_err _ _ c.requires c.in-Err.ensures

pub returns-then-len-gt0 : goal.returns-then-len-gt0
returns-then-len-gt0 c = body_rest _ _ _ c.requires c.in-Ok.ensures (omega arith)

pub returns : goal.returns
returns c = body_ok _ _ _ c.in-Ok.ensures (omega arith)
