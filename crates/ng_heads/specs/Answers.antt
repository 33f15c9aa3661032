-- What readers answer: what they read, or why they read nothing.
use Rattle.std.specs.Prelude.{◌≡◌, ◌++◌, Result, Ok, Err}
use Rattle.ng_ast.specs.declared.Place.{Place}
use Rattle.ng_tokens.specs.Lexis.{Text}
use Rattle.ng_lex.specs.declared.kinds.TokenKind.{TokenKind}
use Rattle.ng_lex.specs.declared.markup.Markup.{Markup}
use Rattle.ng_lex.specs.declared.markup.Markup.TheVariants as m
use Rattle.ng_lex.specs.declared.markup.Shape.{Shape}
use Rattle.ng_lex.specs.Lexis.{IsWritten}
use Rattle.ng_lex.specs.Heavy.{IsHeavy}
use Rattle.ng_lex.specs.Spans.{kind_of, kind_of_shape}
use Rattle.ng_heads.specs.declared.halt.Halt.{Halt}
use Rattle.ng_heads.specs.declared.halt.Halt.TheVariants as h
use Rattle.ng_heads.specs.declared.halt.Stop.{Stop}
use Rattle.ng_heads.specs.declared.halt.Stop.TheVariants as stop

-- ---- parts

-- the text, whose first byte stands at the place, and whatever comes after it, is heavy in no shape
abbrev pub IsCalm : Place → Text → Type 0
IsCalm p a = (z : Text) (shape : Shape) → IsHeavy p (a ++ z) shape → ⊥

-- The text, whose first byte stands at the place, is a token of this kind, and says this: it is written so, and passes no limit. Heavy says that it passes one, whatever comes after it.
abbrev pub Says : TokenKind → Place → Text → Markup → Type 0
Says k p a (m.Heavy shape) = (kind_of_shape shape ≡ k) × ((z : Text) → IsHeavy p (a ++ z) shape)
Says k p a c = (kind_of c ≡ k) × IsWritten p a c × IsCalm p a

-- Syntax comes only where no part of this kind is written so.
abbrev pub Refuses : TokenKind → Place → Text → Halt → Type 0
Refuses k p a (h.Syntax q) = (c : Markup) → kind_of c ≡ k → IsWritten p a c → ⊥
Refuses k p a h.Memory = Unit {0}

-- this part, unless memory ran out
abbrev pub IsOrMemory : Markup → Result Markup Halt → Type 0
IsOrMemory c (Ok d) = d ≡ c
IsOrMemory c (Err (h.Syntax q)) = ⊥
IsOrMemory c (Err h.Memory) = Unit {0}

abbrev pub Answers : TokenKind → Place → Text → Result Markup Halt → Type 0
Answers k p a (Ok c) = Says k p a c
Answers k p a (Err e) = Refuses k p a e

-- ---- what stands in parts

-- What is read, where no limit is passed, whatever comes after it; Syntax where nothing is read, Limit where a limit is passed.
abbrev pub Reads : {A : Type 0} → (A → Type 0) → (Text → Type 0) → Result A Stop → Type 0
Reads reads over (Ok a) = reads a × ((z : Text) → over z → ⊥)
Reads {A} reads over (Err (stop.Syntax q)) = (a : A) → reads a → ⊥
Reads reads over (Err stop.Limit) = (z : Text) → over z
Reads reads over (Err stop.Memory) = Unit {0}

-- what a part answers that isn't read: of this shape, where a limit is passed
abbrev pub Turns : Shape → Stop → Result Markup Halt → Type 0
Turns shape (stop.Syntax q) r = r ≡ Err (h.Syntax q)
Turns shape stop.Limit r = r ≡ Ok (m.Heavy shape)
Turns shape stop.Memory r = r ≡ Err h.Memory
