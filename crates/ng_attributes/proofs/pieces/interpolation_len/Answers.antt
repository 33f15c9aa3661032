use Rattle.std.proofs.Common.{sym, ◌∙◌, subst, take, drop}
use Rattle.ng_lex.specs.declared.kinds.TokenKind.TheVariants as kind
use Rattle.ng_lex.specs.Spans.{IsSpan}
use Rattle.ng_attributes.proofs.PieceSteps.{value_kind, not_value, none_found}
use Rattle.ng_attributes.proofs.pieces.interpolation_len.Goals as goal

pub returns-in_default : goal.returns-in_default
returns-in_default c = λ a z s e. none_found c.span.result _ c.in_default.is (c.span.ensures.exact kind.Interpolation a z s e)

pub returns-then-is_value : goal.returns-then-is_value
returns-then-is_value c = (subst (λ k. IsSpan k (take c.in-Some.len c.args.text.now) (drop c.in-Some.len c.args.text.now)) (value_kind c.in-Some.kind (sym c.is_value.ensures ∙ c.if-is_value.true)) c.in-Some.ensures.found, c.in-Some.ensures.boundary)

pub returns-else-is_value : goal.returns-else-is_value
returns-else-is_value c = λ a z s e. not_value c.in-Some.kind c.in-Some.len _ c.span.result c.in-Some.is (c.span.ensures.exact kind.Interpolation a z s e) (sym c.is_value.ensures ∙ c.if-is_value.false)
