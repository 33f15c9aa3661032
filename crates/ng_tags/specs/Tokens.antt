-- What the readers of tags answer.
use Rattle.std.specs.Prelude.{◌≡◌, Bool, true, false, ◌||◌, ◌&&◌, ◌++◌, Option, Some, None, Result, Ok, Err}
use Rattle.std.specs.Borrow.{Bor}
use Rattle.ng_ast.specs.declared.Place.{Place}
use Rattle.ng_tokens.specs.Lexis.{Text, steps}
use Rattle.ng_lex.specs.declared.kinds.TokenKind.{TokenKind}
use Rattle.ng_lex.specs.declared.markup.Markup.{Markup}
use Rattle.ng_lex.specs.declared.markup.Markup.TheVariants as m
use Rattle.ng_lex.specs.declared.markup.Shape.{Shape}
use Rattle.ng_lex.specs.declared.markup.Shape.TheVariants as shape
use Rattle.ng_lex.specs.Words.{at_front}
use Rattle.ng_lex.specs.Attributes.{IsTag, in_tag, is_void, is_dashed}
use Rattle.ng_lex.specs.Lexis.{IsWritten}
use Rattle.ng_lex.specs.Heavy.{IsHeavy}
use Rattle.ng_lex.specs.Spans.{IsSpan}
use Rattle.ng_attributes.specs.declared.at.At.{At}
use Rattle.ng_tags.specs.declared.halt.Halt.{Halt}
use Rattle.ng_tags.specs.declared.halt.Halt.TheVariants as halt
use Rattle.ng_attributes.specs.declared.stop.Stop.{Stop}
use Rattle.ng_attributes.specs.declared.stop.Stop.TheVariants as stop
use Rattle.ng_tags.specs.declared.tags.Element.{Element}
use Rattle.ng_tags.specs.declared.tags.Element.TheVariants as e
use Rattle.ng_attributes.specs.Places.{Fits}
use Rattle.ng_attributes.specs.Runs.{Run}

-- no part that passes a limit begins at the first text, where the second comes after it
abbrev pub IsCalm : Place → Text → Text → Type 0
IsCalm p a z = (shape : Shape) → IsHeavy p (a ++ z) shape → ⊥

-- The text is this part, and none that passes a limit begins there; or it begins a heavy part, whatever comes after it.
abbrev pub ReadsToken : Place → Text → Markup → Type 0
ReadsToken p a (m.Heavy s) = (z : Text) → IsHeavy p (a ++ z) s
ReadsToken p a c = IsWritten p a c × ((z : Text) → IsCalm p a z)

-- a token of this kind that is written so is no part
abbrev pub IsNoPart : TokenKind → Place → Text → Type 0
IsNoPart kind p a = (z : Text) → IsSpan kind a z → (c : Markup) → IsWritten p a c → ⊥

-- why a token of this kind isn't read
abbrev pub RefusesToken : TokenKind → Place → Text → Halt → Type 0
RefusesToken kind p a (halt.Syntax q) = IsNoPart kind p a
RefusesToken kind p a halt.Memory = Unit {0}

-- this part, unless memory ran out
abbrev pub IsOrMemory : Markup → Result Markup Halt → Type 0
IsOrMemory c (Ok d) = d ≡ c
IsOrMemory c (Err halt.Memory) = Unit {0}
IsOrMemory c (Err (halt.Syntax q)) = ⊥

-- ---- what the code gives

abbrev pub AnswersTag : TokenKind → At → Result Markup Stop → Type 0
AnswersTag kind at (Ok c) = IsWritten at.place at.text.now c × ((z : Text) → IsCalm at.place at.text.now z)
AnswersTag kind at (Err (stop.Syntax q)) = IsNoPart kind at.place at.text.now
AnswersTag kind at (Err stop.Limit) = (z : Text) → IsHeavy at.place (at.text.now ++ z) shape.Tag
AnswersTag kind at (Err stop.Memory) = Unit {0}

abbrev pub TellsStop : Stop → Result Markup Halt → Type 0
TellsStop (stop.Syntax q) r = r ≡ Err (halt.Syntax q)
TellsStop stop.Limit r = r ≡ Ok (m.Heavy shape.Tag)
TellsStop stop.Memory r = r ≡ Err halt.Memory

abbrev pub Tells : Result Markup Stop → Result Markup Halt → Type 0
Tells (Ok c) r = r ≡ Ok c
Tells (Err e) r = TellsStop e r

-- the name of a tag at the front, and what comes after it
pub record TagAt (at : At) (tag : Text) (rest : At) : Type 0 where
  pub name : IsTag tag
  pub run : Run in_tag at.text.now tag rest.text.now
  pub place : rest.place ≡ steps at.place tag
  pub fits : Fits rest.place rest.text.now

abbrev pub IsTagAt : At → Option (Bor Text × At) → Type 0
IsTagAt at None = (tag x : Text) → IsTag tag → at_front in_tag x ≡ false → at.text.now ≡ tag ++ x → ⊥
IsTagAt at (Some v) = TagAt at v.0.now v.1

-- the element of a tag
abbrev pub Chooses : Text → Bool → Option Element → Type 0
Chooses tag closed (Some e.Single) = (is_void tag || (closed && is_dashed tag)) ≡ true
Chooses tag closed (Some e.Paired) = (is_void tag ≡ false) × (closed ≡ false)
Chooses tag closed None = (is_void tag ≡ false) × (closed ≡ true) × (is_dashed tag ≡ false)
