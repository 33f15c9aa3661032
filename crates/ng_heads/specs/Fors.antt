-- The head of a `@for`, from left to right.
use Rattle.std.specs.Prelude.{◌≡◌, ℕ, true, false, ◌⊎◌, List, [], ◌∷◌, ◌++◌, codes, Option, Some, None, Result, Ok, Err}
use Rattle.ng_ast.specs.declared.Expr.{Expr}
use Rattle.ng_ast.specs.declared.ForHead.{ForHead}
use Rattle.ng_tokens.specs.Lexis.{Text, is_blank, steps}
use Rattle.ng_exprs.specs.Reading.{ReadsExpr, OverText}
use Rattle.ng_exprs.specs.Ends.{IsEnd}
use Rattle.ng_lex.specs.Words.{IsBlank, EndsWord, at_front}
use Rattle.ng_lex.specs.Attributes.{differs}
use Rattle.ng_lex.specs.Heads.{IsPair, ReadsPairs, IsLetPart, ReadsParts, IsRow, ReadsFor, OverParts, OverFor}
use Rattle.ng_heads.specs.declared.at.At.{At}
use Rattle.ng_heads.specs.declared.extras.Extras.{Extras}
use Rattle.ng_heads.specs.declared.halt.Stop.{Stop}
use Rattle.ng_heads.specs.declared.halt.Stop.TheVariants as stop
use Rattle.ng_heads.specs.Answers.{Reads}
use Rattle.ng_heads.specs.Parts.{merged}
use Rattle.ng_heads.specs.Steps.{Past}

-- ---- the row

-- a row's name and `of` stand at the front
pub record AtRow (at name next : At) : Type 0 where
  pub a : Text
  pub row : IsRow a name.text.now next.text.now
  pub past : Past at a next

abbrev pub NoRow : Text → Type 0
NoRow t = (a n z : Text) → t ≡ a ++ z → IsRow a n z → ⊥

-- ---- names for a row's variables

-- What adds names with variables to a list answers: those that the text holds, or Syntax where it holds none.
abbrev pub Adds : {A : Type 0} → (List (Text × Text) → Type 0) → List (Text × Text) → List (Text × Text) → Result A Stop → Type 0
Adds reads old new (Ok u) = (vs : List (Text × Text)) × (new ≡ old ++ vs) × reads vs
Adds reads old new (Err (stop.Syntax q)) = (vs : List (Text × Text)) → reads vs → ⊥
Adds reads old new (Err stop.Limit) = ⊥
Adds reads old new (Err stop.Memory) = Unit {0}

-- the same of one pair
abbrev pub AddsPair : Text → List (Text × Text) → List (Text × Text) → Result (Unit {0}) Stop → Type 0
AddsPair t old new r = Adds (λ vs. (n v : Text) × IsPair t n v × (vs ≡ (n, v) ∷ [])) old new r

-- these pairs stand before what is left
pub record GoesPairs (t : Text) (found : List (Text × Text)) (r : Text) : Type 0 where
  pub ahead : (more : List (Text × Text)) → ReadsPairs r more → ReadsPairs t (found ++ more)
  pub back : (all : List (Text × Text)) → ReadsPairs t all → (more : List (Text × Text)) × (all ≡ found ++ more) × ReadsPairs r more

-- the text begins with `let`, after which white space stands
pub record AtLet (at next : At) : Type 0 where
  pub w : Text
  pub blank : IsBlank w
  pub is : at.text.now ≡ w ++ (codes "let" ++ next.text.now)
  pub front : at_front is_blank next.text.now ≡ true

abbrev pub NoLet : Text → Type 0
NoLet u = (w t : Text) → IsBlank w → u ≡ w ++ (codes "let" ++ t) → at_front is_blank t ≡ true → ⊥

-- ---- parts

-- `;`, or the `)` at the end
abbrev pub AtStop : Text → Type 0
AtStop t = (t ≡ 41 ∷ []) ⊎ ((y : Text) × (t ≡ 59 ∷ y))

-- the first part is this one with `let`
pub record LetStep (at : At) (old new : List (Text × Text)) (next : At) : Type 0 where
  pub u : Text
  pub here : List (Text × Text)
  pub is : at.text.now ≡ 59 ∷ (u ++ next.text.now)
  pub part : IsLetPart u here
  pub all_of : new ≡ old ++ here
  pub place : next.place ≡ steps at.place (59 ∷ u)
  pub stop : AtStop next.text.now

abbrev pub NoLetPart : Text → Type 0
NoLetPart t = (u z : Text) (vs : List (Text × Text)) → t ≡ 59 ∷ (u ++ (z ++ (41 ∷ []))) → IsLetPart u vs → at_front (differs 59) z ≡ false → ⊥

abbrev pub AnswersLet : At → List (Text × Text) → List (Text × Text) → Result At Stop → Type 0
AnswersLet at old new (Ok next) = LetStep at old new next
AnswersLet at old new (Err (stop.Syntax q)) = NoLetPart at.text.now
AnswersLet at old new (Err stop.Limit) = ⊥
AnswersLet at old new (Err stop.Memory) = Unit {0}

-- `track` begins the first part
pub record AtTrack (at next : At) : Type 0 where
  pub w : Text
  pub blank : IsBlank w
  pub is : at.text.now ≡ 59 ∷ (w ++ (codes "track" ++ next.text.now))
  pub word : EndsWord next.text.now
  pub place : next.place ≡ steps at.place (59 ∷ (w ++ codes "track"))

abbrev pub NoTrack : Text → Type 0
NoTrack t = (w x : Text) → IsBlank w → t ≡ 59 ∷ (w ++ (codes "track" ++ x)) → EndsWord x → ⊥

-- the first part is this `track`, which passes no limit, and none came before
pub record TrackStep (at : At) (old new : Extras) (next : At) : Type 0 where
  pub w : Text
  pub t : Text
  pub c : ℕ
  pub z : Text
  pub e : Expr
  pub is : at.text.now ≡ 59 ∷ (w ++ (codes "track" ++ (t ++ next.text.now)))
  pub blank : IsBlank w
  pub word : EndsWord (t ++ next.text.now)
  pub reads : ReadsExpr false (steps at.place (59 ∷ (w ++ codes "track"))) t e
  pub calm : OverText false (steps at.place (59 ∷ (w ++ codes "track"))) t → ⊥
  pub end : IsEnd c
  pub left : next.text.now ≡ c ∷ z
  pub place : next.place ≡ steps at.place (59 ∷ (w ++ (codes "track" ++ t)))
  pub none : old.track ≡ None
  pub here : new ≡ record old { track = Some e }

-- the first part is one with `let`, and the rest stays
abbrev pub LetsStep : At → Extras → Extras → At → Type 0
LetsStep at old new next = LetStep at old.vars new.vars next × (new.track ≡ old.track)

-- no part stands there, where this track expression came before
abbrev pub NoPart : At → Option Expr → Type 0
NoPart at track = (x : Text) (tr whole : Option Expr) (more : List (Text × Text)) → at.text.now ≡ x ++ (41 ∷ []) → (x ≡ [] → ⊥) → ReadsParts at.place x tr more → merged track tr ≡ Some whole → ⊥

abbrev pub AnswersPart : At → Extras → Extras → Result At Stop → Type 0
AnswersPart at old new (Ok next) = TrackStep at old new next ⊎ LetsStep at old new next
AnswersPart at old new (Err (stop.Syntax q)) = NoPart at old.track
AnswersPart at old new (Err stop.Limit) = (old.track ≡ None) × ((y : Text) → OverParts at.place (at.text.now ++ y))
AnswersPart at old new (Err stop.Memory) = Unit {0}

abbrev pub AnswersExtras : At → Result Extras Stop → Type 0
AnswersExtras at r = (x : Text) → at.text.now ≡ x ++ (41 ∷ []) → Reads (λ (v : Extras). ReadsParts at.place x v.track v.vars) (λ z. OverParts at.place (at.text.now ++ z)) r

-- ---- all of the head

-- the head with this row, list and extras, unless memory ran out
abbrev pub WithRow : Text → Expr → Extras → Result ForHead Stop → Type 0
WithRow row list extras (Ok head) = head ≡ record { row = row; list = list; track = extras.track; vars = extras.vars }
WithRow row list extras (Err stop.Memory) = Unit {0}
WithRow row list extras (Err _) = ⊥

-- what the brackets of a `@for` hold, with the one that closes them
abbrev pub AnswersFor : At → Result ForHead Stop → Type 0
AnswersFor at r = (x : Text) → at.text.now ≡ x ++ (41 ∷ []) → Reads (ReadsFor at.place x) (λ z. OverFor at.place (at.text.now ++ z)) r
