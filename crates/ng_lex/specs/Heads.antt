-- How the heads of blocks and `@let` are written.
use Rattle.std.specs.Prelude.{◌≡◌, true, false, ◌⊎◌, List, [], ◌∷◌, ◌++◌, length, codes, Option, Some, None}
use Rattle.ng_ast.specs.declared.Place.{Place}
use Rattle.ng_ast.specs.declared.Expr.{Expr}
use Rattle.ng_ast.specs.declared.ForHead.{ForHead}
use Rattle.ng_tokens.specs.Lexis.{Text, is_blank, is_one_of, steps}
use Rattle.ng_exprs.specs.Reading.{ReadsExpr, OverText}
use Rattle.ng_exprs.specs.Ends.{end_from}
use Rattle.ng_lex.specs.Words.{IsBlank, IsGap, IsName, Spaced, IsOneName, EndsWord, at_front}

-- The text is the word, `(`, what stands inside, whose first byte is at the second place, `)` and `{`. White space may stand before each sign.
pub record Bracketed (p : Place) (word a : Text) (q : Place) (x : Text) : Type 0 where
  pub before_round : Text
  pub before_brace : Text
  pub blank_round : IsBlank before_round
  pub blank_brace : IsBlank before_brace
  pub is : a ≡ word ++ (before_round ++ (40 ∷ (x ++ (41 ∷ (before_brace ++ (123 ∷ []))))))
  pub at : q ≡ steps p (word ++ (before_round ++ (40 ∷ [])))

-- The text is the word and `{`, with white space between or without.
abbrev pub Braced : Text → Text → Type 0
Braced word a = (w : Text) × IsBlank w × (a ≡ word ++ (w ++ (123 ∷ [])))

-- `@else` and `if`, with white space between
abbrev pub IsElseIf : Text → Type 0
IsElseIf word = (w : Text) × IsGap w × (word ≡ codes "@else" ++ (w ++ codes "if"))

-- ---- @if: expr (";" "as" NAME)?

-- the text is `as` and the name
abbrev pub IsAs : Text → Text → Type 0
IsAs u n = (w t : Text) × (u ≡ w ++ (codes "as" ++ t)) × IsBlank w × (at_front is_blank t ≡ true) × IsOneName t n

abbrev pub ReadsTest : Place → Text → Expr → Option Text → Type 0
ReadsTest p x e None = ReadsExpr false p x e
ReadsTest p x e (Some n) = (t u : Text) × (x ≡ t ++ (59 ∷ u)) × ReadsExpr false p t e × IsAs u n

-- ---- @for: NAME "of" expr part*

unfoldable pub row_variables : List Text
row_variables = codes "$index" ∷ codes "$count" ∷ codes "$first" ∷ codes "$last" ∷ codes "$even" ∷ codes "$odd" ∷ []

-- NAME "=" var
abbrev pub IsPair : Text → Text → Text → Type 0
IsPair t n v = (x y : Text) × (t ≡ x ++ (61 ∷ y)) × IsOneName x n × Spaced y v × (is_one_of row_variables v ≡ true)

-- pairs with `,` between
pub data ReadsPairs : Text → List (Text × Text) → Type 0 where
  last_pair : (t n v : Text) → IsPair t n v → ReadsPairs t ((n, v) ∷ [])
  next_pair : {vs : List (Text × Text)} (t u n v : Text) → IsPair t n v → ReadsPairs u vs → ReadsPairs (t ++ (44 ∷ u)) ((n, v) ∷ vs)

-- the text is `let` and pairs
abbrev pub IsLetPart : Text → List (Text × Text) → Type 0
IsLetPart u vs = (w t : Text) × (u ≡ w ++ (codes "let" ++ t)) × IsBlank w × (at_front is_blank t ≡ true) × ReadsPairs t vs

-- The text is parts, each after its `;`: `track` with an expression, once at most, and `let` with pairs.
pub data ReadsParts : Place → Text → Option Expr → List (Text × Text) → Type 0 where
  no_part : {p : Place} → ReadsParts p [] None []
  track_part : {p : Place} {e : Expr} {vs : List (Text × Text)} (w t z : Text) → IsBlank w → EndsWord t → ReadsExpr false (steps p (59 ∷ (w ++ codes "track"))) t e
      → ReadsParts (steps p (59 ∷ (w ++ (codes "track" ++ t)))) z None vs → ReadsParts p (59 ∷ (w ++ (codes "track" ++ (t ++ z)))) (Some e) vs
  let_part : {p : Place} {track : Option Expr} {vs us : List (Text × Text)} (u z : Text) → IsLetPart u vs → ReadsParts (steps p (59 ∷ u)) z track us
      → ReadsParts p (59 ∷ (u ++ z)) track (vs ++ us)

-- a row's name and `of`, after which no word goes on
abbrev pub IsRow : Text → Text → Text → Type 0
IsRow a n z = (w v : Text) × (a ≡ w ++ (n ++ (v ++ codes "of"))) × IsBlank w × IsGap v × IsName n × EndsWord z

abbrev pub ReadsFor : Place → Text → ForHead → Type 0
ReadsFor p x head = (a t z : Text) × (x ≡ a ++ (t ++ z)) × IsRow a head.row (t ++ z) × ReadsExpr false (steps p a) t head.list × ReadsParts (steps p (a ++ t)) z head.track head.vars

-- ---- @let: "@let" NAME "=" expr ";"

-- all before the expression
abbrev pub IsLetFront : Text → Text → Type 0
IsLetFront a n = (w v : Text) × (a ≡ codes "@let" ++ (w ++ (n ++ (v ++ (61 ∷ []))))) × IsGap w × IsBlank v × IsName n

-- ---- heads that pass a limit

-- an expression at the front ends after the first text: there stands the first `)` or `;` outside of its brackets and text literals
abbrev pub EndsAfter : Text → Text → Type 0
EndsAfter t z = end_from 0 0 (t ++ z) ≡ Some (length t)

-- an expression at the front is begun, and passes a limit
abbrev pub OverFront : Place → Text → Type 0
OverFront p x = (t z : Text) × (x ≡ t ++ z) × EndsAfter t z × OverText false p t

-- The text begins with the word and `(`, and an expression behind it is begun, and passes a limit.
abbrev pub OverBracket : Place → Text → Text → Type 0
OverBracket p word a = (w x : Text) × (a ≡ word ++ (w ++ (40 ∷ x))) × IsBlank w × OverFront (steps p (word ++ (w ++ (40 ∷ [])))) x

-- a `track` after `let` parts has an expression that is begun, and passes a limit
pub data OverParts : Place → Text → Type 0 where
  in_track : {p : Place} (w x : Text) → IsBlank w → EndsWord x → OverFront (steps p (59 ∷ (w ++ codes "track"))) x → OverParts p (59 ∷ (w ++ (codes "track" ++ x)))
  after_let : {p : Place} {vs : List (Text × Text)} (u z : Text) → IsLetPart u vs → OverParts (steps p (59 ∷ u)) z → OverParts p (59 ∷ (u ++ z))

-- the list of a `@for`, or its `track`
abbrev pub OverFor : Place → Text → Type 0
OverFor p x = (a n y : Text) × (x ≡ a ++ y) × IsRow a n y
    × (OverFront (steps p a) y ⊎ ((t z : Text) × (e : Expr) × (y ≡ t ++ z) × ReadsExpr false (steps p a) t e × OverParts (steps p (a ++ t)) z))
