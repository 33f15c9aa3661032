-- What the reader of a token answers.
use Rattle.std.specs.Prelude.{◌≡◌, ◌⊎◌, ◌++◌, Result, Ok, Err}
use Rattle.ng_ast.specs.declared.Place.{Place}
use Rattle.ng_tokens.specs.Lexis.{Text}
use Rattle.ng_lex.specs.declared.markup.Markup.{Markup}
use Rattle.ng_lex.specs.declared.markup.Markup.TheVariants as m
use Rattle.ng_lex.specs.declared.markup.Shape.{Shape}
use Rattle.ng_lex.specs.declared.kinds.TokenKind.{TokenKind}
use Rattle.ng_lex.specs.Letters.{Letters, letters, Decodes}
use Rattle.ng_lex.specs.Lexis.{IsWritten}
use Rattle.ng_lex.specs.Heavy.{IsHeavy}
use Rattle.ng_lex.specs.Spans.{IsSpan, kind_of}
use Rattle.ng_heads.specs.declared.halt.Halt.{Halt}
use Rattle.ng_heads.specs.declared.halt.Halt.TheVariants as h

-- The text, whose first byte stands at the place, is this part: literal text with these letters, or a part that is written so.
abbrev pub IsRead : Place → Text → Markup → Type 0
IsRead p a c = ((ls : Letters) × Decodes p a ls × (c ≡ m.Literal (letters ls))) ⊎ IsWritten p a c

-- no part is begun there in which an expression passes a limit
abbrev pub IsCalm : Place → Text → Type 0
IsCalm p t = (shape : Shape) → IsHeavy p t shape → ⊥

-- The first text, a token of this kind before the second one, is this part; or a part is begun there in which an expression passes a limit.
abbrev pub Says : TokenKind → Place → Text → Text → Markup → Type 0
Says k p a z c = ((shape : Shape) × (c ≡ m.Heavy shape) × IsHeavy p (a ++ z) shape) ⊎ ((kind_of c ≡ k) × IsRead p a c × IsCalm p (a ++ z))

-- no token of this kind is written so
abbrev pub IsNoPart : TokenKind → Place → Text → Type 0
IsNoPart k p a = (c : Markup) → kind_of c ≡ k → IsRead p a c → ⊥

-- Syntax comes only where the token is no part.
abbrev pub AnswersPart : TokenKind → Place → Text → Result Markup Halt → Type 0
AnswersPart k p a (Ok c) = (z : Text) → IsSpan k a z → Says k p a z c
AnswersPart k p a (Err (h.Syntax q)) = IsNoPart k p a
AnswersPart k p a (Err h.Memory) = Unit {0}
