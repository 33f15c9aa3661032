-- The same as a function: the next token's kind and how many bytes it has.
use Rattle.std.specs.Prelude.{◌≡◌, ℕ, zero, suc, ◌+◌, ◌-◌, Bool, false, ◌==◌, ◌&&◌, nat_lt, if◌then◌else◌, List, [], ◌∷◌, ◌++◌, drop, codes, Option, Some, None, Result, Ok, Err, Vec, slice_get}
use Rattle.std.specs.declared.alloc.Global.{Global}
use Rattle.std.specs.List.{prefix_len}
use Rattle.std.specs.Option.{option_map}
use Rattle.ng_tokens.specs.Lexis.{Text, is_blank, is_letter, is_word, begins}
use Rattle.ng_ast.specs.declared.refusals.ReadError.{ReadError}
use Rattle.ng_exprs.specs.Ends.{end_from, later}
use Rattle.ng_exprs.specs.Reading.{Refused}
use Rattle.ng_lex.specs.declared.quotes.Quoting.{Quoting}
use Rattle.ng_lex.specs.declared.quotes.Quoting.TheVariants.{Outside}
use Rattle.ng_lex.specs.declared.quotes.Quotes.{Quotes}
use Rattle.ng_lex.specs.declared.quotes.Quotes.TheVariants as quotes
use Rattle.ng_lex.specs.declared.kinds.TokenKind.{TokenKind}
use Rattle.ng_lex.specs.declared.kinds.TokenKind.TheVariants as kind
use Rattle.ng_lex.specs.declared.kinds.Token.{Token}
use Rattle.ng_lex.specs.Words.{is_outside, literal, valued, unquoted, at_front, closing}
use Rattle.ng_lex.specs.Attributes.{is_lower}
use Rattle.ng_lex.specs.Lexis.{is_plain, comment_closing}

-- ---- runs and words

abbrev pub is_ascii : ℕ → Bool
is_ascii b = nat_lt b 128

-- the bytes of literal text at the front
abbrev pub plain_len : Text → ℕ
plain_len [] = 0
plain_len (b ∷ t) = if is_plain b t then suc (plain_len t) else 0

-- literal text stands at the front
abbrev pub starts_plain : Text → Bool
starts_plain [] = false
starts_plain (b ∷ t) = is_plain b t

-- what these quotes make of a byte
abbrev pub quoted : Quotes → Quoting → ℕ → Quoting
quoted quotes.Literals s b = literal s b
quoted quotes.Values s b = valued s b
quoted quotes.None s b = unquoted s b

-- the bytes before the word, outside of quotes
abbrev pub seek : (Quoting → ℕ → Quoting) → Text → Quoting → Text → Option ℕ
seek f w s [] = None
seek f w s (b ∷ t) = if (if is_outside s then begins w (b ∷ t) else false) then Some 0 else option_map suc (seek f w (f s b) t)

abbrev pub blank_len : Text → ℕ
blank_len t = prefix_len is_blank t

-- a name at the front
abbrev pub name_len : Text → ℕ
name_len t = if at_front is_letter t then prefix_len is_word t else 0

-- ---- heads

-- white space and `{`
unfoldable pub brace_len : Text → Option ℕ
brace_len t = if begins (123 ∷ []) (drop (blank_len t) t) then Some (blank_len t + 1) else None

abbrev pub round_at : (ℕ → Option ℕ) → ℕ → Option ℕ → Option ℕ
round_at again n None = None
round_at again n (Some c) = if c == 41 then Some (n + 1) else (if c == 59 then again n else None)

abbrev pub round_by : (ℕ → Option ℕ) → Text → Option ℕ → Option ℕ
round_by again t None = None
round_by again t (Some n) = round_at again n (slice_get t n)

-- What stands in round brackets, with the `)`: expressions end at `;` or at it. The number counts the bytes that are left before the next one.
unfoldable pub round_len : ℕ → Text → Option ℕ
round_len left [] = None
round_len (suc left) (b ∷ t) = option_map suc (round_len left t)
round_len zero (b ∷ t) = round_by (λ n. option_map suc (round_len n t)) (b ∷ t) (end_from 0 0 (b ∷ t))

abbrev pub closed_by : Text → Option ℕ → Option ℕ
closed_by x None = None
closed_by x (Some m) = later m (brace_len (drop m x))

abbrev pub bracket_by : ℕ → Text → Option ℕ
bracket_by n t = if begins (40 ∷ []) (drop n t) then later (n + 1) (closed_by (drop (n + 1) t) (round_len 0 (drop (n + 1) t))) else None

-- white space, `(` .. `)`, white space and `{`
unfoldable pub bracket_len : Text → Option ℕ
bracket_len t = bracket_by (blank_len t) t

abbrev pub else_by : ℕ → Text → Option ℕ
else_by n t =
    if begins (123 ∷ []) (drop n t) then Some (n + 1) else (
    if nat_lt 0 n && begins (codes "if") (drop n t) then later (n + 2) (bracket_len (drop (n + 2) t)) else None)

-- what stands after `@else`
unfoldable pub else_len : Text → Option ℕ
else_len t = else_by (blank_len t) t

-- ---- @let

abbrev pub equals_by : ℕ → Text → Option ℕ
equals_by n t = if begins (61 ∷ []) (drop n t) then Some (n + 1) else None

abbrev pub equals_len : Text → Option ℕ
equals_len t = equals_by (blank_len t) t

abbrev pub named_by : ℕ → Text → Option ℕ
named_by n t = if nat_lt 0 n then later n (equals_len (drop n t)) else None

abbrev pub named_len : Text → Option ℕ
named_len t = named_by (name_len t) t

abbrev pub front_by : ℕ → Text → Option ℕ
front_by n t = if nat_lt 0 n then later n (named_len (drop n t)) else None

-- white space, a name, white space and `=`
unfoldable pub front_len : Text → Option ℕ
front_len t = front_by (blank_len t) t

abbrev pub ended_by : Text → Option ℕ → Option ℕ
ended_by t None = None
ended_by t (Some n) = if begins (59 ∷ []) (drop n t) then Some (n + 1) else None

-- an expression and `;`
unfoldable pub ended_len : Text → Option ℕ
ended_len t = ended_by t (end_from 0 0 t)

abbrev pub let_by : Text → Option ℕ → Option ℕ
let_by t None = None
let_by t (Some n) = later n (ended_len (drop n t))

-- what stands after `@let`
unfoldable pub let_len : Text → Option ℕ
let_len t = let_by t (front_len t)

-- ---- tokens

abbrev pub sized : TokenKind → Option ℕ → Option (TokenKind × ℕ)
sized k None = None
sized k (Some n) = Some (k, n)

-- the word, and what stands after it
abbrev pub worded : TokenKind → ℕ → (Text → Option ℕ) → Text → Option (TokenKind × ℕ)
worded k n f t = sized k (later n (f (drop n t)))

-- at an `@`
unfoldable pub headed : Text → Option (TokenKind × ℕ)
headed t =
    if begins (codes "@if") t then worded kind.Head 3 bracket_len t else (
    if begins (codes "@for") t then worded kind.Head 4 bracket_len t else (
    if begins (codes "@switch") t then worded kind.Head 7 bracket_len t else (
    if begins (codes "@case") t then worded kind.Head 5 bracket_len t else (
    if begins (codes "@else") t then worded kind.Head 5 else_len t else (
    if begins (codes "@empty") t then worded kind.Head 6 brace_len t else (
    if begins (codes "@default") t then worded kind.Head 8 brace_len t else (
    if begins (codes "@let") t then worded kind.Let 4 let_len t else None)))))))

-- after a `<`
unfoldable pub tagged : Text → Option (TokenKind × ℕ)
tagged t =
    if begins (codes "!--") t then sized kind.Comment (later 7 (seek unquoted comment_closing Outside (drop 3 t))) else (
    if begins (codes "/") t then sized kind.End (later 3 (seek unquoted (62 ∷ []) Outside (drop 1 t))) else (
    if at_front is_lower t then sized kind.Start (later 2 (seek valued (62 ∷ []) Outside t)) else None))

-- a token that is no literal text, by its first byte
unfoldable pub marked : ℕ → Text → Option (TokenKind × ℕ)
marked b t =
    if b == 125 then Some (kind.Close, 1) else (
    if b == 60 then tagged t else (
    if b == 64 then headed (b ∷ t) else sized kind.Interpolation (later 4 (seek literal closing Outside (drop 1 t)))))

unfoldable pub span : Text → Option (TokenKind × ℕ)
span [] = None
span (b ∷ t) = if is_plain b t then Some (kind.Literal, suc (plain_len t)) else marked b t

-- ---- all tokens

abbrev pub before : Token → Option (List Token) → Option (List Token)
before t None = None
before t (Some ts) = Some (t ∷ ts)

abbrev pub cut_by : ℕ → (ℕ → Option (List Token)) → Option (TokenKind × ℕ) → Option (List Token)
cut_by n again None = None
cut_by n again (Some q) = before (record { kind = q.0; from = n; to = n + q.1 }) (again q.1)

-- The first number counts the bytes that are left of a token, the second those before the next.
unfoldable pub cut : ℕ → ℕ → Text → Option (List Token)
cut left n [] = Some []
cut (suc left) n (b ∷ t) = cut left n t
cut zero n (b ∷ t) = cut_by n (λ k. cut (k - 1) (n + k) t) (span (b ∷ t))

-- ---- what the code gives

-- what was found stands before what is to come
abbrev pub joined : List Token → Option (List Token) → Option (List Token)
joined found None = None
joined found (Some ts) = Some (found ++ ts)

abbrev pub Gives : Option (List Token) → Result (Vec Token Global) ReadError → Type 0
Gives o (Ok v) = o ≡ Some v.items
Gives o (Err e) = Refused (o ≡ None) ⊥ e
