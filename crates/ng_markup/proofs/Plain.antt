-- Nothing is heavy where literal text stands.
use Rattle.std.proofs.Common.{◌≡◌, [], ◌∷◌, ◌++◌, ◌∙◌, ap}
use Rattle.std.specs.Prelude.{true, false}
use Rattle.ng_ast.specs.declared.Place.{Place}
use Rattle.ng_tokens.specs.Lexis.{Text}
use Rattle.ng_lex.specs.declared.kinds.TokenKind.TheVariants as kind
use Rattle.ng_lex.specs.declared.markup.Shape.{Shape}
use Rattle.ng_lex.specs.declared.markup.Shape.TheVariants as s
use Rattle.ng_lex.specs.Heavy.{IsHeavy}
use Rattle.ng_lex.specs.Span.{starts_plain}
use Rattle.ng_lex.specs.Spans.{IsSpan}
use Rattle.ng_heads.proofs.Texts.{not_both}
use Rattle.ng_markup.specs.Parts.{IsCalm}

-- No literal text stands where a part passes a limit.
pub heavy_marked : (p : Place) (z : Text) (shape : Shape) → IsHeavy p z shape → starts_plain z ≡ false
heavy_marked p z s.Interpolation (t, r, is, first, over) = ap starts_plain is
heavy_marked p z s.Tag (tag, x, is, h, over) = ap starts_plain is
heavy_marked p z s.If (w, x, is, blank, over) = ap starts_plain is
heavy_marked p z s.ElseIf (word, (v, gap, same), (w, x, is, blank, over)) = ap starts_plain is ∙ ap (λ k. starts_plain (k ++ (w ++ (40 ∷ x)))) same
heavy_marked p z s.For (w, x, is, blank, over) = ap starts_plain is
heavy_marked p z s.Switch (w, x, is, blank, over) = ap starts_plain is
heavy_marked p z s.Case (w, x, is, blank, over) = ap starts_plain is
heavy_marked p z s.Let (x, t, n, is, (w, v, same, gap, blank, name), over) = ap starts_plain is ∙ ap (λ k. starts_plain (k ++ t)) same

-- Literal text stands where a token of it begins.
pub literal_plain : (a z : Text) → IsSpan kind.Literal a z → starts_plain (a ++ z) ≡ true
literal_plain [] z h = absurd h
literal_plain (b ∷ a) z h = h.0.0

pub literal_calm : (p : Place) (a z : Text) → IsSpan kind.Literal a z → IsCalm p (a ++ z)
literal_calm p a z h = λ shape heavy. not_both (starts_plain (a ++ z)) (literal_plain a z h) (heavy_marked p (a ++ z) shape heavy)
