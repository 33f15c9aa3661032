-- What it means that a text is a phrase of a grammar over tokens, and what a reader of such phrases answers. The grammar's truth value says whether the limits are kept; another relation says where an expression is awaited.
use Rattle.std.specs.Prelude.{Bool, true, false, List, [], Result, Ok, Err}
use Rattle.ng_ast.specs.declared.Place.{Place}
use Rattle.ng_ast.specs.declared.refusals.ReadError.{ReadError}
use Rattle.ng_tokens.specs.declared.kinds.Token.{Token}
use Rattle.ng_tokens.specs.Lexis.{Text, Lexes}
use Rattle.ng_exprs.specs.declared.halt.Halt.{Halt}
use Rattle.ng_exprs.specs.Grammar.{Tokens}
use Rattle.ng_exprs.specs.Statements.{Begins, PassesIn, OverIn}
use Rattle.ng_exprs.specs.Reading.{Refused, Halts}

-- the text, whose first byte stands at the place, is this phrase
abbrev pub ReadsPhrase : {A : Type 0} → Bool → (Tokens → A → Type 0) → Place → Text → A → Type 0
ReadsPhrase comments R base t a = (ts : List Token) × Lexes comments base t ts [] × R ts a

-- a front of the text is a phrase that is begun, and passes a limit
abbrev pub OverPhrase : {A : Type 0} → Bool → (Tokens → A → Type 0) → (Tokens → Type 0) → Place → Text → Type 0
OverPhrase comments R awaits base t = (ts : List Token) × (rest : Text) × Lexes comments base t ts rest × Begins R ts × PassesIn awaits ts

-- the text is no phrase
abbrev pub NoPhrase : {A : Type 0} → Bool → (Tokens → A → Type 0) → Place → Text → Type 0
NoPhrase {A} comments R base t = (a : A) → ReadsPhrase comments R base t a → ⊥

-- ---- what the reader of tokens gives
abbrev pub AnswersTokens : {A : Type 0} → (Bool → Tokens → A → Type 0) → (Tokens → Type 0) → Tokens → Result A Halt → Type 0
AnswersTokens R awaits ts (Ok a) = R true ts a
AnswersTokens {A} R awaits ts (Err e) = Halts ((a : A) → R false ts a → ⊥) (OverIn (R false) awaits ts × ((a : A) → R true ts a → ⊥)) e

-- ---- what the reader of a text gives
abbrev pub AnswersPhrase : {A : Type 0} → Bool → (Bool → Tokens → A → Type 0) → (Tokens → Type 0) → Place → Text → Result A ReadError → Type 0
AnswersPhrase comments R awaits base t (Ok a) = ReadsPhrase comments (R true) base t a
AnswersPhrase comments R awaits base t (Err e) = Refused (NoPhrase comments (R false) base t) (OverPhrase comments (R false) awaits base t × NoPhrase comments (R true) base t) e
