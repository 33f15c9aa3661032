use Rattle.ng_heads.proofs.BlockLaws.{empty_read, empty_unread}
use Rattle.ng_heads.proofs.heads.empty_head.Goals as goal

pub returns-then-is_brace : goal.returns-then-is_brace
returns-then-is_brace c = λ p e. empty_read p c.args.at (rw c.if-is_brace.true at c.is_brace.ensures)

pub returns-else-is_brace : goal.returns-else-is_brace
returns-else-is_brace c = λ p e. empty_unread p c.args.at c.args.at.place (rw c.if-is_brace.false at c.is_brace.ensures)
