-- Phrases, of which a grammar is made. A `do` lists the parts of a phrase, one right after the other.
use Rattle.std.specs.Prelude.{Bool, true, false, List, Option, Some, None}
use Rattle.ng_ast.specs.declared.Place.{Place}
use Rattle.ng_tokens.specs.Lexis.{Text}
use Rattle.ng_phrases.specs.Parser.{Readers, Parser, Exact, Agree, Takes}

-- A phrase that is no list of others: which text it is for which value, before which text; where it passes a limit; its parser.
pub record Leaf (R : Readers) (A : Type 0) : Type 1 where
  pub reads : Place → Text → Text → A → Type 0
  pub over : Place → Text → Type 0
  pub parse : Parser R.Question A
  pub exact : Exact R reads over parse
  pub one : Agree reads reads

-- The phrases of values of a type. Where `hole` stands, a phrase for a value of H is to be put.
pub data Phrase (R : Readers) (H : Type 0) : Type 0 → Type 1 where
  -- nothing, for this value
  pure : {A : Type 0} → A → Phrase R H A
  -- a phrase, and then one that may depend on its value
  bind : {A B : Type 0} → Phrase R H A → (A → Phrase R H B) → Phrase R H B
  -- nothing, for the place of what comes
  here : Phrase R H Place
  -- nothing, for what is seen of the text that comes
  ahead : {A : Type 0} → (Text → A) → Phrase R H A
  -- no text
  refuse : {A : Type 0} → Phrase R H A
  -- nothing; a limit is passed unless the test holds
  within : Bool → Phrase R H (Unit {0})
  leaf : {A : Type 0} → Leaf R A → Phrase R H A
  -- As long as the text that comes passes the test: a leaf that is not empty, and a phrase by its value. The list begins with the values of the last argument; a limit is passed where a list fails the second test.
  many : {K A : Type 0} → (Text → Bool) → (l : Leaf R K) → Takes l.reads → (K → Phrase R H A) → (List A → Bool) → List A → Phrase R H (List A)
  hole : Phrase R H H

infixl 10 ◌>>=◌
abbrev pub ◌>>=◌ : {R : Readers} {H A B : Type 0} → Phrase R H A → (A → Phrase R H B) → Phrase R H B
r >>= f = Phrase.bind r f

infixl 10 ◌>>◌
abbrev pub ◌>>◌ : {R : Readers} {H A B : Type 0} → Phrase R H A → Phrase R H B → Phrase R H B
r >> f = Phrase.bind r (λ _. f)

-- nothing, for a value that is there
abbrev pub given : {R : Readers} {H A : Type 0} → Option A → Phrase R H A
given (Some a) = Phrase.pure a
given None = Phrase.refuse

-- nothing, where a test holds
abbrev pub check : {R : Readers} {H : Type 0} → Bool → Phrase R H (Unit {0})
check true = Phrase.pure tt
check false = Phrase.refuse
