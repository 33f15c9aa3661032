-- What a reader answers: what it reads, or why it reads nothing.
use Rattle.std.specs.Prelude.{◌≡◌, List, ◌++◌, Result, Ok, Err}
use Rattle.ng_ast.specs.declared.refusals.ReadError.{ReadError}
use Rattle.ng_ast.specs.declared.refusals.ReadError.TheVariants as r
use Rattle.ng_attributes.specs.declared.stop.Stop.{Stop}
use Rattle.ng_attributes.specs.declared.stop.Stop.TheVariants as h

-- Syntax comes only where the first holds, Limit only where the second does.
abbrev pub Halts : Type 0 → Type 0 → Stop → Type 0
Halts unread over (h.Syntax p) = unread
Halts unread over h.Limit = over
Halts unread over h.Memory = Unit {0}

-- what the refusal of an expression or a listener is told as
abbrev pub Stops : ReadError → Stop → Type 0
Stops r.Utf8 stop = Unit {0}
Stops (r.Syntax f) (h.Syntax p) = Unit {0}
Stops (r.Limit f) h.Limit = Unit {0}
Stops r.Memory h.Memory = Unit {0}
Stops _ _ = ⊥

-- What is read, where no limit is passed; Syntax where nothing is, Limit where one is passed.
abbrev pub Answers : {A : Type 0} → (A → Type 0) → Type 0 → Result A Stop → Type 0
Answers reads over (Ok a) = reads a × (over → ⊥)
Answers {A} reads over (Err e) = Halts ((a : A) → reads a → ⊥) over e

-- These items stand before what is left: both read on alike, and pass a limit alike. The first type is that of what is read beside items.
pub record Goes {I X A : Type 0} (reads : I → X → List A → Type 0) (over : X → Type 0) (from : X) (found : List A) (rest : X) : Type 0 where
  pub ahead : (i : I) (more : List A) → reads i rest more → reads i from (found ++ more)
  pub back : (i : I) (items : List A) → reads i from items → (more : List A) × (items ≡ found ++ more) × reads i rest more
  pub heavy : over rest → over from
  pub calm : over from → over rest
