-- What a function of the code gives: what the function on texts gives, unless memory ran out.
use Rattle.std.specs.Prelude.{◌≡◌, Bool, true, false, List, ◌++◌, Option, Some, None, Result, Ok, Err}
use Rattle.ng_tokens.specs.Lexis.{Text}
use Rattle.ng_selectors.specs.declared.halt.Halt.{Halt}
use Rattle.ng_selectors.specs.declared.halt.Halt.TheVariants as halt
use Rattle.ng_selectors.specs.Parse.{Outcome}

-- Syntax only where the function refuses
abbrev pub Fails : {A : Type 0} → Option A → Halt → Type 0
Fails o halt.Syntax = o ≡ None
Fails o halt.Memory = Unit {0}

-- the function gives this value, and this text is left
abbrev pub Gives : {A : Type 0} → Outcome A → Result A Halt → Text → Type 0
Gives o (Ok a) left = o ≡ Some (a, left)
Gives o (Err e) left = Fails o e

-- the function gives this value for the whole text
abbrev pub GivesAll : {A : Type 0} → Option A → Result A Halt → Type 0
GivesAll o (Ok a) = o ≡ Some a
GivesAll o (Err e) = Fails o e

-- the sign stood at the front, and what follows it is left; or it didn't, and nothing changed
abbrev pub Eats : Option Text → Bool → Text → Text → Type 0
Eats o true old new = o ≡ Some new
Eats o false old new = (o ≡ None) × (new ≡ old)

-- what was found stands before what is to come
abbrev pub front : {A : Type 0} → List A → Outcome (List A) → Outcome (List A)
front found None = None
front found (Some p) = Some (found ++ p.0, p.1)
