-- The same as a function.
use Rattle.std.specs.Prelude.{◌≡◌, ℕ, zero, suc, ◌-◌, Bool, false, ◌==◌, if◌then◌else◌, List, [], ◌∷◌, ◌++◌, length, take, Option, Some, None, Result, Ok, Err, Vec}
use Rattle.std.specs.declared.alloc.Global.{Global}
use Rattle.std.specs.List.{prefix_len}
use Rattle.ng_ast.specs.declared.Place.{Place}
use Rattle.ng_tokens.specs.declared.kinds.Sign.{Sign}
use Rattle.ng_tokens.specs.declared.kinds.Sign.TheVariants as s
use Rattle.ng_tokens.specs.declared.kinds.Shape.{Shape}
use Rattle.ng_tokens.specs.declared.kinds.Shape.TheVariants as shapes
use Rattle.ng_tokens.specs.declared.kinds.Kind.{Kind}
use Rattle.ng_tokens.specs.declared.kinds.Token.{Token}
use Rattle.ng_tokens.specs.declared.lexer.ScanError.{ScanError}
use Rattle.ng_tokens.specs.declared.lexer.ScanError.TheVariants as r
use Rattle.ng_tokens.specs.Lexis.{Text, is_blank, is_digit, is_letter, is_word, is_quote, begins, unquote, opens_comment, comment_len, kind_of, fits, step}

-- the first sign of the table that the text begins with
abbrev pub find : List (Text × Sign) → Text → Option (Shape × ℕ)
find [] t = None
find (e ∷ es) t = if begins e.0 t then Some (shapes.Sign e.1, length e.0) else find es t

-- the longest first
unfoldable pub signs : List (Text × Sign)
signs = ((61 ∷ 61 ∷ 61 ∷ []), s.Same)
    ∷ ((33 ∷ 61 ∷ 61 ∷ []), s.NotSame)
    ∷ ((61 ∷ 61 ∷ []), s.Eq)
    ∷ ((33 ∷ 61 ∷ []), s.Ne)
    ∷ ((60 ∷ 61 ∷ []), s.Le)
    ∷ ((62 ∷ 61 ∷ []), s.Ge)
    ∷ ((124 ∷ 124 ∷ []), s.Or)
    ∷ ((38 ∷ 38 ∷ []), s.And)
    ∷ ((63 ∷ 63 ∷ []), s.OrNull)
    ∷ ((63 ∷ 46 ∷ []), s.SafeDot)
    ∷ ((60 ∷ []), s.Lt)
    ∷ ((62 ∷ []), s.Gt)
    ∷ ((43 ∷ []), s.Plus)
    ∷ ((45 ∷ []), s.Minus)
    ∷ ((42 ∷ []), s.Star)
    ∷ ((47 ∷ []), s.Slash)
    ∷ ((37 ∷ []), s.Percent)
    ∷ ((33 ∷ []), s.Not)
    ∷ ((46 ∷ []), s.Dot)
    ∷ ((44 ∷ []), s.Comma)
    ∷ ((59 ∷ []), s.Semicolon)
    ∷ ((63 ∷ []), s.Question)
    ∷ ((58 ∷ []), s.Colon)
    ∷ ((124 ∷ []), s.Bar)
    ∷ ((61 ∷ []), s.Assign)
    ∷ ((35 ∷ []), s.Hash)
    ∷ ((40 ∷ []), s.OpenRound)
    ∷ ((41 ∷ []), s.CloseRound)
    ∷ ((91 ∷ []), s.OpenSquare)
    ∷ ((93 ∷ []), s.CloseSquare)
    ∷ ((123 ∷ []), s.OpenBrace)
    ∷ ((125 ∷ []), s.CloseBrace) ∷ []

-- a literal, and the quote before it
abbrev pub quoted : Option (Text × ℕ) → Option (Shape × ℕ)
quoted None = None
quoted (Some q) = Some (shapes.Text, suc q.1)

-- how the longest token at the front is written, and how many bytes it has
unfoldable pub shape : Text → Option (Shape × ℕ)
shape [] = None
shape (b ∷ z) = if is_digit b then Some (shapes.Number, prefix_len is_digit (b ∷ z)) else (
    if is_letter b then Some (shapes.Name, prefix_len is_word (b ∷ z)) else (
    if b == 36 then Some (shapes.Variable, suc (prefix_len is_word z)) else (
    if is_quote b then quoted (unquote b false z) else find signs (b ∷ z))))

-- the token that is written so, if it is one
abbrev pub fitted : Shape → Text → Option Kind
fitted form a = if fits form a then Some (kind_of form a) else None

abbrev pub with_len : ℕ → Option Kind → Option (Option Kind × ℕ)
with_len n None = None
with_len n (Some kind) = Some (Some kind, n)

abbrev pub token_at : Text → Option (Shape × ℕ) → Option (Option Kind × ℕ)
token_at t None = None
token_at t (Some q) = with_len q.1 (fitted q.0 (take q.1 t))

-- the bytes that are no token
abbrev pub gap : Option ℕ → Option (Option Kind × ℕ)
gap None = None
gap (Some n) = Some (None, n)

-- what stands at the front, and how many bytes it has: a token, or white space or a comment
unfoldable pub piece : Bool → Text → Option (Option Kind × ℕ)
piece c [] = None
piece c (b ∷ z) = if is_blank b then Some (None, 1) else (if opens_comment c (b ∷ z) then gap (comment_len (b ∷ z)) else token_at (b ∷ z) (shape (b ∷ z)))

abbrev pub before : Place → Option Kind → Option (List Token) → Option (List Token)
before p None o = o
before p (Some kind) None = None
before p (Some kind) (Some ts) = Some (record { kind = kind; place = p } ∷ ts)

abbrev pub scan_piece : (ℕ → Option (List Token)) → Place → Option (Option Kind × ℕ) → Option (List Token)
scan_piece again p None = None
scan_piece again p (Some q) = before p q.0 (again (q.1 - 1))

-- The number counts the bytes that are left of a piece.
unfoldable pub scan : Bool → ℕ → Place → Text → Option (List Token)
scan c left p [] = Some []
scan c (suc left) p (b ∷ z) = scan c left (step p b) z
scan c zero p (b ∷ z) = scan_piece (λ n. scan c n (step p b) z) p (piece c (b ∷ z))

-- ---- what the code gives
abbrev pub joined : List Token → Option (List Token) → Option (List Token)
joined found None = None
joined found (Some ts) = Some (found ++ ts)

-- what was found, and what a piece adds
abbrev pub grown : List Token → Place → Option Kind → List Token
grown found p None = found
grown found p (Some kind) = found ++ record { kind = kind; place = p } ∷ []

abbrev pub Scans : Option (List Token) → Result (Vec Token Global) ScanError → Type 0
Scans o (Ok v) = o ≡ Some v.items
Scans o (Err (r.Syntax p)) = o ≡ None
Scans o (Err r.Memory) = Unit {0}
