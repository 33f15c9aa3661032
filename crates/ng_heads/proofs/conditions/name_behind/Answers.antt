use Rattle.std.proofs.Common.{sym, ◌∙◌}
use Rattle.ng_heads.proofs.TestLaws.{is_round, not_round}
use Rattle.ng_heads.proofs.conditions.name_behind.Goals as goal

pub returns-then-is : goal.returns-then-is
returns-then-is c = is_round c.args.at.text.now (sym c.is.ensures ∙ c.if-is.true)

pub returns-in_default : goal.returns-in_default
returns-in_default c = (not_round c.args.at.text.now (sym c.is.ensures ∙ c.if-is.false), rw c.in_default.is at c.name_after.ensures)

pub returns : goal.returns
returns c = rw c.in_ok-name.ensures (rw c.in-Some.is at c.name_after.ensures)
