-- The tokens of a text, by cases on how the text falls into them.
use Rattle.std.specs.Prelude.{◌≡◌, ℕ, suc, ◌+◌, ◌-◌, ◌*◌, ◌^◌, ◌≤◌, Bool, true, false, ◌&&◌, ◌||◌, ◌==◌, nat_le, nat_lt, if◌then◌else◌, List, [], ◌∷◌, ◌++◌, length, codes, Option, Some, None, pos}
use Rattle.std.specs.List.{prefix_len}
use Rattle.std.specs.Option.{option_map}
use Rattle.ng_ast.specs.declared.Place.{Place}
use Rattle.ng_tokens.specs.declared.kinds.Sign.{Sign}
use Rattle.ng_tokens.specs.declared.kinds.Sign.TheVariants as s
use Rattle.ng_tokens.specs.declared.kinds.Shape.{Shape}
use Rattle.ng_tokens.specs.declared.kinds.Shape.TheVariants as shape
use Rattle.ng_tokens.specs.declared.kinds.Kind.{Kind}
use Rattle.ng_tokens.specs.declared.kinds.Kind.TheVariants as k
use Rattle.ng_tokens.specs.declared.kinds.Token.{Token}

-- a text is the list of its bytes
abbrev pub Text : Type 0
Text = List ℕ

-- ---- bytes

-- space, tab, line feed, form feed, carriage return
abbrev pub is_blank : ℕ → Bool
is_blank b = b == 32 || (nat_le 9 b && nat_le b 10) || (nat_le 12 b && nat_le b 13)

abbrev pub is_digit : ℕ → Bool
is_digit b = nat_le 48 b && nat_le b 57

-- a letter of ASCII, or _
abbrev pub is_letter : ℕ → Bool
is_letter b = (nat_le 97 b && nat_le b 122) || (nat_le 65 b && nat_le b 90) || b == 95

abbrev pub is_word : ℕ → Bool
is_word b = is_letter b || is_digit b

-- ' or "
abbrev pub is_quote : ℕ → Bool
is_quote b = b == 39 || b == 34

-- any byte but a line feed
abbrev pub in_line : ℕ → Bool
in_line b = if b == 10 then false else true

-- ---- places

-- the place after a byte: a byte from 128 to 191 goes on with a character
abbrev pub step : Place → ℕ → Place
step p b =
    if b == 10 then record { line = p.line + 1; column = 1; byte = p.byte + 1 }
    else (if nat_le 128 b && nat_le b 191 then record p { byte = p.byte + 1 } else record p { column = p.column + 1; byte = p.byte + 1 })

-- the place after some bytes
abbrev pub steps : Place → Text → Place
steps p [] = p
steps p (b ∷ z) = steps (step p b) z

-- ---- words

-- each byte passes the test
abbrev pub all : (ℕ → Bool) → Text → Bool
all p [] = true
all p (b ∷ z) = if p b then all p z else false

-- the second text begins with the first
abbrev pub begins : Text → Text → Bool
begins [] t = true
begins (b ∷ w) [] = false
begins (b ∷ w) (c ∷ t) = if b == c then begins w t else false

abbrev pub same_text : Text → Text → Bool
same_text w t = begins w t && (length w == length t)

-- ---- numbers

-- the number that digits say, after those that said n
abbrev pub value_from : ℕ → Text → ℕ
value_from n [] = n
value_from n (b ∷ z) = value_from (10 * n + (b - 48)) z

abbrev pub has_leading_zero : Text → Bool
has_leading_zero (b ∷ c ∷ z) = b == 48
has_leading_zero _ = false

-- ---- variables

unfoldable pub variables : List Text
variables = codes "$index" ∷ codes "$count" ∷ codes "$first" ∷ codes "$last" ∷ codes "$even" ∷ codes "$odd" ∷ codes "$event" ∷ []

abbrev pub is_one_of : List Text → Text → Bool
is_one_of [] a = false
is_one_of (w ∷ ws) a = if same_text w a then true else is_one_of ws a

abbrev pub is_variable : Text → Bool
is_variable a = is_one_of variables a

-- ---- text literals

-- what stands for what after a backslash
abbrev pub escape : ℕ → Option ℕ
escape c = if c == 92 || c == 39 || c == 34 then Some c else (if c == 110 then Some 10 else (if c == 116 then Some 9 else None))

-- one more byte that says this
abbrev pub put : Option ℕ → Option (Text × ℕ) → Option (Text × ℕ)
put (Some b) (Some q) = Some (b ∷ q.0, suc q.1)
put (Some b) None = None
put None o = None

-- one more byte
abbrev pub past : Option (Text × ℕ) → Option (Text × ℕ)
past (Some q) = Some (q.0, suc q.1)
past None = None

-- What a literal says, and how many bytes it takes with the quote that ends it. It is read after its first quote; the truth value says that a backslash stands before.
unfoldable pub unquote : ℕ → Bool → Text → Option (Text × ℕ)
unquote q e [] = None
unquote q true (b ∷ z) = put (escape b) (unquote q false z)
unquote q false (b ∷ z) = if b == q then Some ([], 1) else (if b == 92 then past (unquote q true z) else put (Some b) (unquote q false z))

abbrev pub value_of : Option (Text × ℕ) → Text
value_of (Some q) = q.0
value_of None = []

-- what a whole literal says
abbrev pub text_of : Text → Text
text_of [] = []
text_of (q ∷ z) = value_of (unquote q false z)

-- ---- comments

-- a comment begins, where comments count
abbrev pub opens_comment : Bool → Text → Bool
opens_comment c (a ∷ b ∷ z) = c && (a == 47) && ((b == 47) || (b == 42))
opens_comment c _ = false

-- the two bytes end a comment
abbrev pub closes : ℕ → ℕ → Bool
closes a b = (a == 42) && (b == 47)

-- the bytes up to and with the first */, where this byte stands before
abbrev pub closed : ℕ → Text → Option ℕ
closed p [] = None
closed p (b ∷ z) = if closes p b then Some 1 else option_map suc (closed b z)

-- the bytes of a comment: up to the end of the line, or with the first */
abbrev pub comment_len : Text → Option ℕ
comment_len (a ∷ b ∷ z) = if b == 47 then Some (2 + prefix_len in_line z) else option_map (λ n. 2 + n) (closed 0 z)
comment_len _ = None

-- ---- signs

abbrev pub spelling : Sign → Text
spelling s.Same = 61 ∷ 61 ∷ 61 ∷ []
spelling s.NotSame = 33 ∷ 61 ∷ 61 ∷ []
spelling s.Eq = 61 ∷ 61 ∷ []
spelling s.Ne = 33 ∷ 61 ∷ []
spelling s.Le = 60 ∷ 61 ∷ []
spelling s.Ge = 62 ∷ 61 ∷ []
spelling s.Or = 124 ∷ 124 ∷ []
spelling s.And = 38 ∷ 38 ∷ []
spelling s.OrNull = 63 ∷ 63 ∷ []
spelling s.SafeDot = 63 ∷ 46 ∷ []
spelling s.Lt = 60 ∷ []
spelling s.Gt = 62 ∷ []
spelling s.Plus = 43 ∷ []
spelling s.Minus = 45 ∷ []
spelling s.Star = 42 ∷ []
spelling s.Slash = 47 ∷ []
spelling s.Percent = 37 ∷ []
spelling s.Not = 33 ∷ []
spelling s.Dot = 46 ∷ []
spelling s.Comma = 44 ∷ []
spelling s.Semicolon = 59 ∷ []
spelling s.Question = 63 ∷ []
spelling s.Colon = 58 ∷ []
spelling s.Bar = 124 ∷ []
spelling s.Assign = 61 ∷ []
spelling s.Hash = 35 ∷ []
spelling s.OpenRound = 40 ∷ []
spelling s.CloseRound = 41 ∷ []
spelling s.OpenSquare = 91 ∷ []
spelling s.CloseSquare = 93 ∷ []
spelling s.OpenBrace = 123 ∷ []
spelling s.CloseBrace = 125 ∷ []

-- ---- tokens

abbrev pub IsRun : (ℕ → Bool) → (ℕ → Bool) → Text → Type 0
IsRun first more [] = ⊥
IsRun first more (b ∷ z) = (first b ≡ true) × (all more z ≡ true)

abbrev pub IsLiteral : Text → Type 0
IsLiteral [] = ⊥
IsLiteral (q ∷ z) = (is_quote q ≡ true) × ((v : Text) × (unquote q false z ≡ Some (v, length z)))

-- how each token is written
abbrev pub Written : Text → Shape → Type 0
Written a shape.Number = IsRun is_digit is_digit a
Written a shape.Name = IsRun is_letter is_word a
Written a shape.Variable = IsRun (λ b. b == 36) is_word a
Written a shape.Text = IsLiteral a
Written a (shape.Sign x) = a ≡ spelling x

-- what a token says that is written so
abbrev pub kind_of : Shape → Text → Kind
kind_of shape.Number a = k.Number (pos (value_from 0 a))
kind_of shape.Name a = k.Name a
kind_of shape.Variable a = k.Variable a
kind_of shape.Text a = k.Text (text_of a)
kind_of (shape.Sign x) a = k.Sign x

-- numbers are at most 9223372036854775807 and have no leading zeros, and the variables are those seven
abbrev pub fits : Shape → Text → Bool
fits shape.Number a = if has_leading_zero a then false else nat_lt (value_from 0 a) (2 ^ 63)
fits shape.Variable a = is_variable a
fits _ a = true

-- no longer token stands there
abbrev pub Longest : Text → Text → Type 0
Longest a z = (b r : Text) (form : Shape) → a ++ z ≡ b ++ r → Written b form → length b ≤ length a

-- The text, whose first byte stands at the place, begins with these tokens, with white space and comments round them, and the rest is left.
pub data Lexes (comments : Bool) : Place → Text → List Token → Text → Type 0 where
  here : {p : Place} {z : Text} → Lexes comments p z [] z
  blank : {p : Place} {b : ℕ} {z r : Text} {ts : List Token} → is_blank b ≡ true → Lexes comments (step p b) z ts r → Lexes comments p (b ∷ z) ts r
  comment : {p : Place} {r : Text} {ts : List Token} (a z : Text) → opens_comment comments (a ++ z) ≡ true → comment_len (a ++ z) ≡ Some (length a) → Lexes comments (steps p a) z ts r
      → Lexes comments p (a ++ z) ts r
  next : {p : Place} {r : Text} {ts : List Token} (a z : Text) (form : Shape) → Written a form → fits form a ≡ true → Longest a z → opens_comment comments (a ++ z) ≡ false
      → Lexes comments (steps p a) z ts r → Lexes comments p (a ++ z) (record { kind = kind_of form a; place = p } ∷ ts) r
