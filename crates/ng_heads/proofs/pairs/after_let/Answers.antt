use Rattle.std.proofs.Common.{sym, ◌∙◌}
use Rattle.ng_heads.proofs.ExtraLaws.{no_let_word, no_let_gap, at_let}
use Rattle.ng_heads.proofs.pairs.after_let.Goals as goal

pub returns-in_err-rest : goal.returns-in_err-rest
returns-in_err-rest c = rw c.from_residual.ensures (no_let_word c.args.at c.blank-front.result c.blank-front.ensures c.in_err-rest.ensures)

pub returns-then-is_blank : goal.returns-then-is_blank
returns-then-is_blank c = at_let c.args.at c.blank-front.result c.blank-front.ensures c.in_ok-rest.rest c.in_ok-rest.ensures (sym c.is_blank.ensures ∙ c.if-is_blank.true)

pub returns-else-is_blank : goal.returns-else-is_blank
returns-else-is_blank c = no_let_gap c.args.at c.blank-front.result c.blank-front.ensures c.in_ok-rest.rest c.in_ok-rest.ensures (sym c.is_blank.ensures ∙ c.if-is_blank.false)
