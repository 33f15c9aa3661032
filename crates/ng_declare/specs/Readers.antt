-- What is asked of the readers of other crates.
use Rattle.std.specs.Prelude.{true, false}
use Rattle.ng_ast.specs.declared.Place.{Place}
use Rattle.ng_tokens.specs.declared.kinds.Sign.TheVariants as s
use Rattle.ng_tokens.specs.Lexis.{Text}
use Rattle.ng_exprs.specs.Grammar.{ReadsPiped}
use Rattle.ng_exprs.specs.Reading.{OverText}
use Rattle.ng_exprs.specs.Bodies.{ReadsWhole, OverBody}
use Rattle.ng_phrases.specs.Parser.{Readers}
use Rattle.ng_declare.specs.declared.halt.Part.{Part}
use Rattle.ng_declare.specs.declared.halt.Part.TheVariants as part
use Rattle.ng_declare.specs.Parts.{NoPart}

-- which part, at which place, at the front of which text
pub record Question : Type 0 where
  pub what : Part
  pub place : Place
  pub text : Text

abbrev pub ask : Part → Place → Text → Question
ask what p t = record { what = what; place = p; text = t }

-- no such part stands there
abbrev pub unread_at : Part → Place → Text → Type 0
unread_at part.Expression p t = NoPart s.Semicolon ReadsPiped p t
unread_at part.Body p t = NoPart s.CloseBrace (ReadsWhole false) p t

-- a front of what stands there is such a part, begun, and passes a limit
abbrev pub over_at : Part → Place → Text → Type 0
over_at part.Expression p t = OverText true p t
over_at part.Body p t = OverBody p t

abbrev pub readers : Readers
readers = record { Question = Question; unread = λ q. unread_at q.what q.place q.text; over = λ q. over_at q.what q.place q.text }
