use Rattle.ng_heads.proofs.BlockLaws.{default_read, default_unread}
use Rattle.ng_heads.proofs.heads.default_head.Goals as goal

pub returns-then-is_brace : goal.returns-then-is_brace
returns-then-is_brace c = λ p e. default_read p c.args.at (rw c.if-is_brace.true at c.is_brace.ensures)

pub returns-else-is_brace : goal.returns-else-is_brace
returns-else-is_brace c = λ p e. default_unread p c.args.at c.args.at.place (rw c.if-is_brace.false at c.is_brace.ensures)
