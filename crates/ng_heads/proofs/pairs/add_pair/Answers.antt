use Rattle.ng_heads.proofs.RowLaws.{add_one, add_none}
use Rattle.ng_heads.proofs.pairs.add_pair.Goals as goal

pub returns-in_default : goal.returns-in_default
returns-in_default c = add_none c.args.at.text.now (rw c.in_default.is at c.pair.ensures)

pub returns : goal.returns
returns c = add_one c.args.at.text.now _ _ _ _ c.in_ok-left.left c.in_ok-right.right (rw c.in-Some.is at c.pair.ensures) c.in_ok-left.ensures c.in_ok-right.ensures c.in_ok-push.ensures.ok
