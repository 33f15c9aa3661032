-- What a function of the code gives: what the parser on texts gives, unless memory ran out, with what is left to read.
use Rattle.std.specs.Prelude.{◌≡◌, ℕ, [], Result, Ok, Err}
use Rattle.ng_ast.specs.declared.Place.{Place}
use Rattle.ng_tokens.specs.Lexis.{Text}
use Rattle.ng_exprs.specs.Reading.{Refused}
use Rattle.ng_phrases.specs.Parser.{Stop, Outcome, Parser}
use Rattle.ng_phrases.specs.Phrase.{Phrase}
use Rattle.ng_phrases.specs.Parse.{parse}
use Rattle.ng_phrases.specs.Nested.{parse_below}
use Rattle.ng_values.specs.declared.value.Value.{Value}
use Rattle.ng_declare.specs.Constants.{constant_within}
use Rattle.ng_ast.specs.declared.refusals.Rule.TheVariants as rule
use Rattle.ng_ast.specs.declared.refusals.ReadError.{ReadError}
use Rattle.ng_ast.specs.declared.refusals.ReadError.TheVariants as r
use Rattle.ng_declare.specs.declared.halt.Part.{Part}
use Rattle.ng_declare.specs.declared.halt.Halt.{Halt}
use Rattle.ng_declare.specs.declared.halt.Halt.TheVariants as h
use Rattle.ng_declare.specs.Readers.{Question, ask, unread_at, over_at, readers}

-- the parser of what stands for the hole of a phrase without one
abbrev pub nothing : Parser Question ⊥
nothing = λ p t. Err Stop.Syntax

-- the parser of a phrase without a hole
abbrev pub read : {A : Type 0} → Phrase readers ⊥ A → Parser Question A
read g = parse nothing g

-- the parser of a phrase in a constant, within which others nest in fewer than so many levels
abbrev pub inside : {A : Type 0} → ℕ → Phrase readers Value A → Parser Question A
inside d g = parse (parse_below {R = readers} constant_within d) g

-- the refusal of another reader, or want of memory
abbrev pub Halts : Part → ReadError → Halt → Type 0
Halts part r.Memory halt = halt ≡ h.Memory
Halts part error halt = halt ≡ h.Refused part error

abbrev pub Fails : {A : Type 0} → Outcome Question A → Halt → Place → Text → Type 0
Fails o (h.Syntax q) p t = o ≡ Err Stop.Syntax
Fails o (h.Limit q) p t = o ≡ Err Stop.Limit
Fails o h.Memory p t = Unit {0}
Fails o (h.Refused what error) p t = (o ≡ Err (Stop.Refused (ask what p t))) × Refused (unread_at what p t) (over_at what p t) error

abbrev pub Gives : {A : Type 0} → Outcome Question A → Result A Halt → Place → Text → Type 0
Gives o (Ok a) p t = o ≡ Ok (a, p, t)
Gives o (Err e) p t = Fails o e p t

-- a text that is no selector, or want of memory
abbrev pub Unwritten : ReadError → Halt → Type 0
Unwritten r.Memory halt = halt ≡ h.Memory
Unwritten error (h.Syntax q) = Unit {0}
Unwritten error halt = ⊥

-- what a halt is told as
abbrev pub Tells : Halt → ReadError → Type 0
Tells (h.Refused what error) told = told ≡ error
Tells halt r.Memory = Unit {0}
Tells (h.Syntax q) (r.Syntax f) = (f.rule ≡ rule.Syntax) × (f.name ≡ [])
Tells (h.Limit q) (r.Limit f) = (f.rule ≡ rule.Limit) × (f.name ≡ [])
Tells _ _ = ⊥
