-- Parsers, and what it means that one reads a grammar.
use Rattle.std.specs.Prelude.{◌≡◌, [], ◌++◌, Result, Ok, Err}
use Rattle.ng_ast.specs.declared.Place.{Place}
use Rattle.ng_tokens.specs.Lexis.{Text, steps}

-- What is asked of readers of other grammars, and what each of their refusals means: there is no reading, or a limit is passed.
pub record Readers : Type 1 where
  pub Question : Type 0
  pub unread : Question → Type 0
  pub over : Question → Type 0

-- why a parser stops: no reading, a limit that is passed, or the refusal of another reader
pub data Stop (Q : Type 0) : Type 0 where
  Syntax : Stop Q
  Limit : Stop Q
  Refused : Q → Stop Q

-- a value, with the place and the text after it
abbrev pub Outcome : Type 0 → Type 0 → Type 0
Outcome Q A = Result (A × Place × Text) (Stop Q)

-- a parser takes a phrase from the front of a text at a place
abbrev pub Parser : Type 0 → Type 0 → Type 0
Parser Q A = Place → Text → Outcome Q A

abbrev pub and_then : {Q A B : Type 0} → Outcome Q A → (A → Parser Q B) → Outcome Q B
and_then (Ok r) f = f r.0 r.1 r.2
and_then (Err e) f = Err e

-- what was taken from the front: a text that is such a phrase
pub record Took {A : Type 0} (r : Place → Text → Text → A → Type 0) (p : Place) (t : Text) (a : A) (q : Place) (z : Text) : Type 0 where
  pub text : Text
  pub parts : t ≡ text ++ z
  pub place : q ≡ steps p text
  pub reads : r p text z a

-- what is taken is such a phrase
pub record Sound {Q A : Type 0} (r : Place → Text → Text → A → Type 0) (f : Parser Q A) : Type 0 where
  pub takes : (p : Place) (t : Text) (a : A) (q : Place) (z : Text) → f p t ≡ Ok (a, q, z) → Took r p t a q z

-- where it is taken, no limit is passed
pub record Calm {Q A : Type 0} (over : Place → Text → Type 0) (f : Parser Q A) : Type 0 where
  pub within : (p : Place) (t : Text) (a : A) (q : Place) (z : Text) → f p t ≡ Ok (a, q, z) → over p t → ⊥

-- this value, or a stop that does not say that there is no reading
abbrev pub Gets : (R : Readers) → {A : Type 0} → A × Place × Text → Outcome R.Question A → Type 0
Gets R v (Ok w) = w ≡ v
Gets R v (Err Stop.Syntax) = ⊥
Gets R v (Err Stop.Limit) = Unit {0}
Gets R v (Err (Stop.Refused q)) = R.unread q → ⊥

-- each such phrase is taken, unless a limit is passed
pub record Complete (R : Readers) {A : Type 0} (r : Place → Text → Text → A → Type 0) (f : Parser R.Question A) : Type 0 where
  pub gets : (p : Place) (x z : Text) (a : A) → r p x z a → Gets R (a, steps p x, z) (f p (x ++ z))

-- a stop says that a limit is passed only where one is
abbrev pub Means : (R : Readers) → Type 0 → Stop R.Question → Type 0
Means R over Stop.Syntax = Unit {0}
Means R over Stop.Limit = over
Means R over (Stop.Refused q) = R.over q → over

pub record Stops (R : Readers) {A : Type 0} (over : Place → Text → Type 0) (f : Parser R.Question A) : Type 0 where
  pub means : (p : Place) (t : Text) (e : Stop R.Question) → f p t ≡ Err e → Means R (over p t) e

-- A parser and a grammar are one: what it takes is what is read and passes no limit.
pub record Exact (R : Readers) {A : Type 0} (r : Place → Text → Text → A → Type 0) (over : Place → Text → Type 0) (f : Parser R.Question A) : Type 0 where
  pub sound : Sound r f
  pub calm : Calm over f
  pub complete : Complete R r f
  pub stops : Stops R over f

-- Two phrases that begin the same text at the same place are one text and one value.
pub record Agree {A : Type 0} (r s : Place → Text → Text → A → Type 0) : Type 0 where
  pub same : (p : Place) (x z y w : Text) (a b : A) → r p x z a → s p y w b → x ++ z ≡ y ++ w → (x ≡ y) × (a ≡ b)

-- such a phrase is not empty
abbrev pub Takes : {A : Type 0} → (Place → Text → Text → A → Type 0) → Type 0
Takes {A} r = (p : Place) (x z : Text) (a : A) → r p x z a → x ≡ [] → ⊥
