use Rattle.std.proofs.Common.{sym, ◌∙◌}
use Rattle.ng_heads.proofs.LetLaws.{let_unfronted, let_turned, let_read, let_unread}
use Rattle.ng_heads.proofs.lets.whole_let.Goals as goal

pub returns-in_default : goal.returns-in_default
returns-in_default c = let_unfronted c.args.at c.args.at.place (rw c.in_default.is at c.front.ensures)

pub returns-then-not-is : goal.returns-then-not-is
returns-then-not-is c = let_unread c.args.at c.in-Some.name c.in-Some.rest (rw c.in-Some.is at c.front.ensures) c.in-Ok.value c.in-Ok.end c.in-Ok.ensures c.in-Ok.end.place (sym c.is.ensures ∙ c.if-not-is.true)

pub returns-in-Ok-new : goal.returns-in-Ok-new
returns-in-Ok-new c = rw c.in-Ok-new.ensures (let_read c.args.at c.in-Some.name c.in-Some.rest (rw c.in-Some.is at c.front.ensures) c.in-Ok.value c.in-Ok.end c.in-Ok.ensures (sym c.is.ensures ∙ c.if-not-is.false))

pub returns-in-Err : goal.returns-in-Err
returns-in-Err c = let_turned c.args.at c.in-Some.name c.in-Some.rest (rw c.in-Some.is at c.front.ensures) c.in-Err.stop c.turned.result c.in-Err.ensures c.turned.ensures
