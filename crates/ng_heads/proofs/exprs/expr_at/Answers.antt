use Rattle.ng_heads.proofs.FrontLaws.{front_read, front_stops}
use Rattle.ng_heads.proofs.exprs.expr_at.Goals as goal

pub returns-in_default : goal.returns-in_default
returns-in_default c = let none = rw c.in_default.is at c.expr_len.ensures.found in λ x k z e is i h. none c.args.at.place x k z e is i h

pub split-requires : goal.split-requires
split-requires c = rw c.in-Some.is at c.expr_len.ensures.boundary

pub returns-in-Ok : goal.returns-in-Ok
returns-in-Ok c =
    front_read c.args.at c.split.result.1 c.in-Some.len c.split.result.0.place c.split.result.0.text.now c.in-Ok.found (rw c.in-Some.is at c.expr_len.ensures.found) c.split.ensures.rest c.split.ensures.front.0 c.split.ensures.front.1 c.in-Ok.ensures

pub returns-in-Err : goal.returns-in-Err
returns-in-Err c =
    front_stops c.args.at c.in-Some.len c.split.result.0.place c.split.result.0.text.now c.in-Err.stop (rw c.in-Some.is at c.expr_len.ensures.found) c.split.ensures.front.0 c.split.ensures.front.1 c.in-Err.ensures
