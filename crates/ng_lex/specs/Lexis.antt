-- The parts of a template, by cases on how the text falls into them.
use Rattle.std.specs.Prelude.{◌≡◌, ℕ, Bool, true, false, ◌||◌, ◌==◌, if◌then◌else◌, List, [], ◌∷◌, ◌++◌, codes}
use Rattle.ng_ast.specs.declared.Place.{Place}
use Rattle.ng_tokens.specs.Lexis.{Text, begins, steps}
use Rattle.ng_exprs.specs.Reading.{ReadsExpr}
use Rattle.ng_lex.specs.declared.markup.Markup.{Markup}
use Rattle.ng_lex.specs.declared.markup.Markup.TheVariants as m
use Rattle.ng_lex.specs.declared.markup.Part.{Part}
use Rattle.ng_lex.specs.Letters.{Letters, letters, Decodes}
use Rattle.ng_lex.specs.Words.{IsBlank, literal, unquoted, First, opening, closing}
use Rattle.ng_lex.specs.Attributes.{ReadsAttrs, IsPaired, IsSingle}
use Rattle.ng_lex.specs.Heads.{Bracketed, Braced, IsElseIf, ReadsTest, ReadsFor, IsLetFront}

abbrev pub part : Markup → Place → Part
part markup place = record { place = place; markup = markup }

-- ---- literal text

-- a byte of literal text, where this text comes after it: it is no `<`, `@` or `}`, and not the first of `{{`
abbrev pub is_plain : ℕ → Text → Bool
is_plain b t = if b == 60 || b == 64 || b == 125 then false else (if begins opening (b ∷ t) then false else true)

-- each byte of the first text is one of literal text, where the second comes after it
abbrev pub AllPlain : Text → Text → Type 0
AllPlain [] z = Unit {0}
AllPlain (b ∷ a) z = (is_plain b (a ++ z) ≡ true) × AllPlain a z

-- no literal text goes on
abbrev pub NotPlain : Text → Type 0
NotPlain [] = Unit {0}
NotPlain (b ∷ z) = is_plain b z ≡ false

-- ---- comments

-- `<!--`
abbrev pub comment_opening : Text
comment_opening = 60 ∷ 33 ∷ 45 ∷ 45 ∷ []

-- `-->`
abbrev pub comment_closing : Text
comment_closing = 45 ∷ 45 ∷ 62 ∷ []

-- ---- parts

-- How a part is written that is no literal text, and whose first byte stands at the place.
abbrev pub IsWritten : Place → Text → Markup → Type 0
IsWritten p a (m.Literal cs) = ⊥
IsWritten p a (m.Interpolation e) = (t : Text) × (a ≡ opening ++ (t ++ closing)) × First literal closing t × ReadsExpr false (steps p opening) t e
IsWritten p a m.Comment = (t : Text) × (a ≡ comment_opening ++ (t ++ comment_closing)) × First unquoted comment_closing t
IsWritten p a (m.Single tag attrs) = (x : Text) × (closed : Bool) × (a ≡ 60 ∷ (tag ++ x)) × IsSingle tag closed × ReadsAttrs closed (steps p (60 ∷ tag)) x attrs
IsWritten p a (m.Start tag attrs) = (x : Text) × (a ≡ 60 ∷ (tag ++ x)) × IsPaired tag × ReadsAttrs false (steps p (60 ∷ tag)) x attrs
IsWritten p a (m.End tag) = (w : Text) × (a ≡ 60 ∷ 47 ∷ (tag ++ (w ++ (62 ∷ [])))) × IsPaired tag × IsBlank w
IsWritten p a (m.If e n) = (q : Place) × (x : Text) × Bracketed p (codes "@if") a q x × ReadsTest q x e n
IsWritten p a (m.ElseIf e n) = (word : Text) × (q : Place) × (x : Text) × IsElseIf word × Bracketed p word a q x × ReadsTest q x e n
IsWritten p a m.Else = Braced (codes "@else") a
IsWritten p a (m.For head) = (q : Place) × (x : Text) × Bracketed p (codes "@for") a q x × ReadsFor q x head
IsWritten p a m.Empty = Braced (codes "@empty") a
IsWritten p a (m.Switch e) = (q : Place) × (x : Text) × Bracketed p (codes "@switch") a q x × ReadsExpr false q x e
IsWritten p a (m.Case e) = (q : Place) × (x : Text) × Bracketed p (codes "@case") a q x × ReadsExpr false q x e
IsWritten p a m.Default = Braced (codes "@default") a
IsWritten p a (m.Let n e) = (x t : Text) × (a ≡ x ++ (t ++ (59 ∷ []))) × IsLetFront x n × ReadsExpr false (steps p x) t e
IsWritten p a m.Close = a ≡ 125 ∷ []
IsWritten p a (m.Heavy shape) = ⊥

-- The text, whose first byte stands at the place, begins with these parts, and the rest is left. Literal text is as long as can be.
pub data Lexes : Place → Text → List Part → Text → Type 0 where
  here : {p : Place} {z : Text} → Lexes p z [] z
  plain : {p : Place} {ls : Letters} {ps : List Part} {r : Text} (b : ℕ) (a z : Text) → AllPlain (b ∷ a) z → NotPlain z → Decodes p (b ∷ a) ls → Lexes (steps p (b ∷ a)) z ps r
      → Lexes p ((b ∷ a) ++ z) (part (m.Literal (letters ls)) p ∷ ps) r
  marked : {p : Place} {markup : Markup} {ps : List Part} {r : Text} (a z : Text) → IsWritten p a markup → Lexes (steps p a) z ps r → Lexes p (a ++ z) (part markup p ∷ ps) r
