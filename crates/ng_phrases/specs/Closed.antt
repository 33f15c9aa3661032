-- Phrases without a hole, and those that ask no other reader.
use Rattle.std.specs.Prelude.{Err}
use Rattle.ng_ast.specs.declared.Place.{Place}
use Rattle.ng_tokens.specs.Lexis.{Text}
use Rattle.ng_phrases.specs.Parser.{Readers, Stop, Parser}

-- nobody is asked
abbrev pub nobody : Readers
nobody = record { Question = ⊥; unread = λ q. ⊥; over = λ q. ⊥ }

-- what is put for the hole of a phrase without one: it is read nowhere, and passes no limit
abbrev pub nowhere : Place → Text → Text → ⊥ → Type 0
nowhere p x z a = ⊥

abbrev pub never : Place → Text → Type 0
never p t = ⊥

abbrev pub nothing : {Q : Type 0} → Parser Q ⊥
nothing = λ p t. Err Stop.Syntax
