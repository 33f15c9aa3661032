-- The heads of blocks, after their words.
use Rattle.std.specs.Prelude.{◌≡◌, [], ◌∷◌, ◌++◌, codes, Result}
use Rattle.ng_ast.specs.declared.Place.{Place}
use Rattle.ng_tokens.specs.Lexis.{Text, steps}
use Rattle.ng_lex.specs.declared.kinds.TokenKind.TheVariants as kind
use Rattle.ng_lex.specs.declared.markup.Markup.{Markup}
use Rattle.ng_lex.specs.Words.{IsBlank, IsGap}
use Rattle.ng_lex.specs.Heads.{IsElseIf}
use Rattle.ng_heads.specs.declared.at.At.{At}
use Rattle.ng_heads.specs.declared.halt.Halt.{Halt}
use Rattle.ng_heads.specs.Steps.{Past}
use Rattle.ng_heads.specs.Answers.{Answers}

-- what a head answers that begins with this word, where the text after it is given
abbrev pub AnswersAfter : Text → At → Result Markup Halt → Type 0
AnswersAfter word at r = (p : Place) → at.place ≡ steps p word → Answers kind.Head p (word ++ at.text.now) r

-- the same where the word is `@else` with `if`
abbrev pub AnswersElseIf : At → Result Markup Halt → Type 0
AnswersElseIf at r = (word : Text) → IsElseIf word → AnswersAfter word at r

-- white space and `{`, which end the text
abbrev pub IsBrace : Text → Type 0
IsBrace t = (w : Text) × IsBlank w × (t ≡ w ++ (123 ∷ []))

-- white space and `if` stand at the front
pub record AtIf (at next : At) : Type 0 where
  pub w : Text
  pub gap : IsGap w
  pub past : Past at (w ++ codes "if") next

abbrev pub NoIf : Text → Type 0
NoIf t = (w z : Text) → IsGap w → t ≡ w ++ (codes "if" ++ z) → ⊥
