-- Letters: the bytes of a text whose entities are decoded.
use Rattle.std.specs.Prelude.{◌≡◌, ℕ, ◌+◌, ◌-◌, ◌*◌, Bool, true, false, ◌&&◌, ◌||◌, ◌==◌, nat_le, if◌then◌else◌, List, [], ◌∷◌, ◌++◌, map, codes, Option, Some, None, encode_utf8}
use Rattle.ng_ast.specs.declared.Place.{Place}
use Rattle.ng_tokens.specs.Lexis.{Text, is_blank, is_digit, all, same_text, step, steps, value_from}
use Rattle.ng_exprs.specs.Grammar.{origin}
use Rattle.ng_lex.specs.declared.markup.Letter.{Letter}
use Rattle.ng_lex.specs.declared.letters.PlacedLetter.{PlacedLetter}

abbrev pub Letters : Type 0
Letters = List PlacedLetter

abbrev pub bytes : Letters → Text
bytes ls = map (λ (l : PlacedLetter). l.letter.byte) ls

-- without their places
abbrev pub letters : Letters → List Letter
letters ls = map (λ (l : PlacedLetter). l.letter) ls

-- the place of the first letter
abbrev pub start : Letters → Place
start [] = origin
start (l ∷ ls) = l.place

-- a byte that stands for itself: it is blank where it is white space
abbrev pub itself : Place → ℕ → PlacedLetter
itself p b = record { letter = record { byte = b; blank = is_blank b }; place = p }

-- a byte of a character that is written as an entity: it is never blank
abbrev pub decoded : Place → ℕ → PlacedLetter
decoded p b = record { letter = record { byte = b; blank = false }; place = p }

-- ---- entities

-- the character of this number: a Unicode scalar value other than 0
abbrev pub scalar : ℕ → Option ℕ
scalar n = if (nat_le 1 n && nat_le n 55295) || (nat_le 57344 n && nat_le n 1114111) then Some n else None

abbrev pub is_hex : ℕ → Bool
is_hex b = is_digit b || (nat_le 97 b && nat_le b 102) || (nat_le 65 b && nat_le b 70)

abbrev pub hex_digit : ℕ → ℕ
hex_digit b = if is_digit b then b - 48 else (if nat_le 97 b then b - 87 else b - 55)

-- the number that hexadecimal digits say, after those that said n
abbrev pub hex_from : ℕ → Text → ℕ
hex_from n [] = n
hex_from n (b ∷ z) = hex_from (16 * n + hex_digit b) z

-- one digit or more
abbrev pub decimal : Text → Option ℕ
decimal [] = None
decimal (b ∷ z) = if all is_digit (b ∷ z) then scalar (value_from 0 (b ∷ z)) else None

abbrev pub hexadecimal : Text → Option ℕ
hexadecimal [] = None
hexadecimal (b ∷ z) = if all is_hex (b ∷ z) then scalar (hex_from 0 (b ∷ z)) else None

-- a number after `#`: decimal, or hexadecimal after `x`
abbrev pub numeral : Text → Option ℕ
numeral [] = None
numeral (b ∷ z) = if b == 120 then hexadecimal z else decimal (b ∷ z)

abbrev pub named : List (Text × ℕ) → Text → Option ℕ
named [] a = None
named (e ∷ es) a = if same_text e.0 a then Some e.1 else named es a

unfoldable pub characters : List (Text × ℕ)
characters = (codes "amp", 38) ∷ (codes "lt", 60) ∷ (codes "gt", 62) ∷ (codes "quot", 34) ∷ (codes "apos", 39) ∷ (codes "nbsp", 160) ∷ []

-- The character that an entity names, which is written so between `&` and `;`.
abbrev pub entity_of : Text → Option ℕ
entity_of [] = None
entity_of (b ∷ z) = if b == 35 then numeral z else named characters (b ∷ z)

abbrev pub is_alphanumeric : ℕ → Bool
is_alphanumeric b = (nat_le 97 b && nat_le b 122) || (nat_le 65 b && nat_le b 90) || is_digit b

-- letters or digits and then `;`
abbrev pub ends_name : Text → Bool
ends_name [] = false
ends_name (b ∷ z) = if b == 59 then true else (if is_alphanumeric b then ends_name z else false)

-- After `&` an entity begins: `#` stands there, or one letter or digit or more and then `;`.
abbrev pub begins_entity : Text → Bool
begins_entity [] = false
begins_entity (b ∷ z) = if b == 35 then true else (if is_alphanumeric b then ends_name z else false)

-- The text, whose first byte stands at the place, says these letters. `&` is itself where no entity begins.
pub data Decodes : Place → Text → Letters → Type 0 where
  nothing : {p : Place} → Decodes p [] []
  byte : {p : Place} {z : Text} {ls : Letters} (b : ℕ) → (b == 38) ≡ false → Decodes (step p b) z ls → Decodes p (b ∷ z) (itself p b ∷ ls)
  ampersand : {p : Place} {z : Text} {ls : Letters} → begins_entity z ≡ false → Decodes (step p 38) z ls → Decodes p (38 ∷ z) (itself p 38 ∷ ls)
  entity : {p : Place} {c : ℕ} {ls : Letters} (a z : Text) → entity_of a ≡ Some c → Decodes (steps p (38 ∷ (a ++ (59 ∷ [])))) z ls
      → Decodes p (38 ∷ (a ++ (59 ∷ z))) (map (decoded p) (encode_utf8 c) ++ ls)
