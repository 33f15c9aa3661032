-- Parts that are begun, and in which an expression passes a limit.
use Rattle.std.specs.Prelude.{◌≡◌, false, [], ◌∷◌, ◌++◌, codes}
use Rattle.ng_ast.specs.declared.Place.{Place}
use Rattle.ng_tokens.specs.Lexis.{Text, steps}
use Rattle.ng_exprs.specs.Reading.{OverText}
use Rattle.ng_lex.specs.declared.markup.Shape.{Shape}
use Rattle.ng_lex.specs.declared.markup.Shape.TheVariants as shape
use Rattle.ng_lex.specs.Words.{IsBlank, literal, First, opening, closing}
use Rattle.ng_lex.specs.Attributes.{IsTag, OverAttrs}
use Rattle.ng_lex.specs.Heads.{IsElseIf, IsLetFront, OverFront, OverBracket, OverFor}

-- The text, whose first byte stands at the place, begins like a part of this shape, in which an expression or a listener is begun that passes a limit.
abbrev pub IsHeavy : Place → Text → Shape → Type 0
IsHeavy p z shape.Interpolation = (t r : Text) × (z ≡ opening ++ (t ++ (closing ++ r))) × First literal closing t × OverText false (steps p opening) t
IsHeavy p z shape.Tag = (tag x : Text) × (z ≡ 60 ∷ (tag ++ x)) × IsTag tag × OverAttrs (steps p (60 ∷ tag)) x
IsHeavy p z shape.If = OverBracket p (codes "@if") z
IsHeavy p z shape.ElseIf = (word : Text) × IsElseIf word × OverBracket p word z
IsHeavy p z shape.For = (w x : Text) × (z ≡ codes "@for" ++ (w ++ (40 ∷ x))) × IsBlank w × OverFor (steps p (codes "@for" ++ (w ++ (40 ∷ [])))) x
IsHeavy p z shape.Switch = OverBracket p (codes "@switch") z
IsHeavy p z shape.Case = OverBracket p (codes "@case") z
IsHeavy p z shape.Let = (x t n : Text) × (z ≡ x ++ t) × IsLetFront x n × OverFront (steps p x) t
