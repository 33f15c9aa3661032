-- Where the tokens of a template stand: how each kind is written, whatever it says.
use Rattle.std.specs.Prelude.{◌≡◌, ℕ, ◌+◌, true, ◌⊎◌, List, [], ◌∷◌, ◌++◌, length, codes}
use Rattle.ng_ast.specs.declared.Place.{Place}
use Rattle.ng_tokens.specs.Lexis.{Text, is_one_of}
use Rattle.ng_lex.specs.declared.markup.Markup.{Markup}
use Rattle.ng_lex.specs.declared.markup.Markup.TheVariants as m
use Rattle.ng_lex.specs.declared.markup.Part.{Part}
use Rattle.ng_lex.specs.declared.markup.Shape.{Shape}
use Rattle.ng_lex.specs.declared.markup.Shape.TheVariants as s
use Rattle.ng_lex.specs.declared.kinds.TokenKind.{TokenKind}
use Rattle.ng_lex.specs.declared.kinds.TokenKind.TheVariants as kind
use Rattle.ng_lex.specs.declared.kinds.Token.{Token}
use Rattle.ng_lex.specs.Words.{IsBlank, literal, valued, unquoted, First, at_front, opening, closing}
use Rattle.ng_lex.specs.Attributes.{is_lower}
use Rattle.ng_lex.specs.Heads.{IsElseIf, IsLetFront, EndsAfter}
use Rattle.ng_lex.specs.Lexis.{AllPlain, NotPlain, comment_opening, comment_closing, Lexes}

-- ---- heads

-- The first text stands in round brackets, which the `)` before the second text closes: it is pieces with `;` between, each of which an expression there ends.
pub data Fills : Text → Text → Type 0 where
  last_piece : (t z : Text) → EndsAfter t (41 ∷ z) → Fills t z
  next_piece : (t x z : Text) → EndsAfter t (59 ∷ (x ++ (41 ∷ z))) → Fills x z → Fills (t ++ (59 ∷ x)) z

unfoldable pub braced_words : List Text
braced_words = codes "@else" ∷ codes "@empty" ∷ codes "@default" ∷ []

unfoldable pub bracketed_words : List Text
bracketed_words = codes "@if" ∷ codes "@for" ∷ codes "@switch" ∷ codes "@case" ∷ []

-- The first text goes from an `@` to a `{`, where the second comes after it.
pub data IsHead : Text → Text → Type 0 where
  braced : (word w z : Text) → is_one_of braced_words word ≡ true → IsBlank w → IsHead (word ++ (w ++ (123 ∷ []))) z
  bracketed : (word w x v z : Text) → ((is_one_of bracketed_words word ≡ true) ⊎ IsElseIf word) → IsBlank w → IsBlank v → Fills x (v ++ (123 ∷ z))
      → IsHead (word ++ (w ++ (40 ∷ (x ++ (41 ∷ (v ++ (123 ∷ []))))))) z

-- ---- tokens

-- How a token of a kind is written, where the second text comes after it.
abbrev pub IsSpan : TokenKind → Text → Text → Type 0
IsSpan kind.Literal [] z = ⊥
IsSpan kind.Literal (b ∷ a) z = AllPlain (b ∷ a) z × NotPlain z
IsSpan kind.Interpolation a z = (t : Text) × (a ≡ opening ++ (t ++ closing)) × First literal closing t
IsSpan kind.Start a z = (t : Text) × (a ≡ 60 ∷ (t ++ (62 ∷ []))) × (at_front is_lower t ≡ true) × First valued (62 ∷ []) t
IsSpan kind.End a z = (t : Text) × (a ≡ 60 ∷ 47 ∷ (t ++ (62 ∷ []))) × First unquoted (62 ∷ []) t
IsSpan kind.Comment a z = (t : Text) × (a ≡ comment_opening ++ (t ++ comment_closing)) × First unquoted comment_closing t
IsSpan kind.Head a z = IsHead a z
IsSpan kind.Close a z = a ≡ 125 ∷ []
IsSpan kind.Let a z = (x t n : Text) × (a ≡ x ++ (t ++ (59 ∷ []))) × IsLetFront x n × EndsAfter t (59 ∷ z)

-- The text, of which so many bytes stand before, falls into these tokens, in order and with nothing between.
pub data Cuts : ℕ → Text → List Token → Type 0 where
  no_token : {n : ℕ} → Cuts n [] []
  one_token : {n : ℕ} {k : TokenKind} {ts : List Token} (a z : Text) → IsSpan k a z → Cuts (n + length a) z ts
      → Cuts n (a ++ z) (record { kind = k; from = n; to = n + length a } ∷ ts)

-- ---- the tokens of a reading

abbrev pub kind_of_shape : Shape → TokenKind
kind_of_shape s.Interpolation = kind.Interpolation
kind_of_shape s.Tag = kind.Start
kind_of_shape s.Let = kind.Let
kind_of_shape s.If = kind.Head
kind_of_shape s.ElseIf = kind.Head
kind_of_shape s.For = kind.Head
kind_of_shape s.Switch = kind.Head
kind_of_shape s.Case = kind.Head

abbrev pub kind_of : Markup → TokenKind
kind_of (m.Literal cs) = kind.Literal
kind_of (m.Interpolation e) = kind.Interpolation
kind_of m.Comment = kind.Comment
kind_of (m.Single tag attrs) = kind.Start
kind_of (m.Start tag attrs) = kind.Start
kind_of (m.End tag) = kind.End
kind_of (m.If e n) = kind.Head
kind_of (m.ElseIf e n) = kind.Head
kind_of m.Else = kind.Head
kind_of (m.For head) = kind.Head
kind_of m.Empty = kind.Head
kind_of (m.Switch e) = kind.Head
kind_of (m.Case e) = kind.Head
kind_of m.Default = kind.Head
kind_of (m.Let n e) = kind.Let
kind_of m.Close = kind.Close
kind_of (m.Heavy shape) = kind_of_shape shape

-- The tokens are those of the parts, each where its part begins; so many bytes stand before the text.
abbrev pub AreOf : ℕ → List Part → List Token → Type 0
AreOf n [] [] = Unit {0}
AreOf n (p ∷ ps) (t ∷ ts) = (t.kind ≡ kind_of p.markup) × (p.place.byte ≡ n + t.from) × AreOf n ps ts
AreOf n _ _ = ⊥

-- The text falls into no tokens, and so into no parts.
pub record IsUncut (t : Text) : Type 0 where
  pub tokens : (ts : List Token) → Cuts 0 t ts → ⊥
  pub parts : (p : Place) (ps : List Part) → Lexes p t ps [] → ⊥
