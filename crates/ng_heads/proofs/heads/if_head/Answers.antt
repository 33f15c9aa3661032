use Rattle.ng_heads.proofs.BlockLaws.{if_unbracketed, if_read, if_turned}
use Rattle.ng_heads.proofs.heads.if_head.Goals as goal

pub returns-in_default : goal.returns-in_default
returns-in_default c = λ p e. if_unbracketed p c.args.at e c.args.at.place (rw c.in_default.is at c.brackets.ensures)

pub returns-in-Ok : goal.returns-in-Ok
returns-in-Ok c = λ p e. let k = rw c.in-Some.is at c.brackets.ensures in if_read p c.args.at e c.in-Some.inside k c.in-Ok.test c.in-Ok.name (c.in-Ok.ensures k.x k.kept)

pub returns-in-Err : goal.returns-in-Err
returns-in-Err c = λ p e. let k = rw c.in-Some.is at c.brackets.ensures in if_turned p c.args.at e c.in-Some.inside k c.in-Err.stop c.turned.result (c.in-Err.ensures k.x k.kept) c.turned.ensures
