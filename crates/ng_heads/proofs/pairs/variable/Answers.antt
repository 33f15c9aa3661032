use Rattle.std.proofs.Common.{sym, ◌∙◌, ap}
use Rattle.ng_tokens.specs.Lexis.{is_one_of}
use Rattle.ng_lex.specs.Heads.{row_variables}
use Rattle.ng_heads.proofs.RowLaws.{no_variable, more_than_variable, spaced_is}
use Rattle.ng_heads.proofs.pairs.variable.Goals as goal

pub returns-then-not-is_row_variable : goal.returns-then-not-is_row_variable
returns-then-not-is_row_variable c =
    no_variable c.args.at c.blank-front.result c.blank-front.ensures c.dark.result.0 c.dark.result.1 c.dark.ensures c.blank-end.result c.blank-end.ensures
    (ap (is_one_of row_variables) (sym c.as_bytes.ensures.value) ∙ sym c.is_row_variable.ensures ∙ c.if-not-is_row_variable.true)

pub returns-then-is : goal.returns-then-is
returns-then-is c = (
  spaced_is c.args.at c.blank-front.result c.blank-front.ensures c.dark.result.0 c.dark.result.1 c.dark.ensures c.blank-end.result c.blank-end.ensures (sym c.is.ensures ∙ c.if-is.true),
  ap (is_one_of row_variables) (sym c.as_bytes.ensures.value) ∙ sym c.is_row_variable.ensures ∙ c.if-not-is_row_variable.false,
)

pub returns-else-is : goal.returns-else-is
returns-else-is c =
    more_than_variable c.args.at c.blank-front.result c.blank-front.ensures c.dark.result.0 c.dark.result.1 c.dark.ensures c.blank-end.result c.blank-end.ensures (sym c.is.ensures ∙ c.if-is.false)
