use Rattle.std.proofs.Common.{arith}
use Rattle.ng_exprs.proofs.Public.{at_rest, at_long, at_end}
use Rattle.ng_exprs.proofs.Whole.{fails}
use Rattle.ng_exprs.proofs.read_tokens.Goals as goal

pub returns-in-Err : goal.returns-in-Err
returns-in-Err c = fails _ _ c.in-Err.ensures

pub returns-then-len-gt0 : goal.returns-then-len-gt0
returns-then-len-gt0 c = at_rest _ _ _ c.in-Ok.ensures (omega arith)

pub returns-then-count-gt-MAX_TOKENS : goal.returns-then-count-gt-MAX_TOKENS
returns-then-count-gt-MAX_TOKENS c = at_long _ _ _ c.in-Ok.ensures (omega arith) (omega arith)

pub returns : goal.returns
returns c = at_end _ _ _ c.in-Ok.ensures (omega arith) (omega arith)
