use Rattle.std.proofs.Common.{sym, ◌∙◌}
use Rattle.ng_heads.proofs.TestLaws.{is_round, not_round, alone_read, alone_unread, alone_stops}
use Rattle.ng_heads.proofs.conditions.read_alone.Goals as goal

pub returns-in-Err : goal.returns-in-Err
returns-in-Err c = alone_stops c.args.at c.in-Err.stop c.in-Err.ensures

pub returns-then-is : goal.returns-then-is
returns-then-is c = alone_read c.args.at c.in-Ok.rest c.in-Ok.value c.in-Ok.ensures (is_round c.in-Ok.rest.text.now (sym c.is.ensures ∙ c.if-is.true))

pub returns-else-is : goal.returns-else-is
returns-else-is c = alone_unread c.args.at c.in-Ok.rest c.in-Ok.value c.in-Ok.rest.place c.in-Ok.ensures (not_round c.in-Ok.rest.text.now (sym c.is.ensures ∙ c.if-is.false))
