use Rattle.ng_heads.proofs.BlockLaws.{else_read, else_unread, else_if_answers}
use Rattle.ng_heads.proofs.heads.else_head.Goals as goal

pub returns-in-Some : goal.returns-in-Some
returns-in-Some c = λ p e. else_if_answers p c.args.at c.in-Some.rest c.else_if_head.result e c.in-Some.ensures c.else_if_head.ensures

pub returns-then-is_brace : goal.returns-then-is_brace
returns-then-is_brace c = λ p e. else_read p c.args.at (rw c.if-is_brace.true at c.is_brace.ensures)

pub returns-else-is_brace : goal.returns-else-is_brace
returns-else-is_brace c = λ p e. else_unread p c.args.at c.args.at.place (rw c.in_default.is at c.after_if.ensures) (rw c.if-is_brace.false at c.is_brace.ensures)
