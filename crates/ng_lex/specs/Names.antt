-- The form of an attribute, by its name.
use Rattle.std.specs.Prelude.{◌≡◌, ℕ, ◌+◌, ◌-◌, Bool, true, false, ◌&&◌, ◌||◌, ◌==◌, nat_le, if◌then◌else◌, [], ◌∷◌, length, take, drop, codes, Option, Some, None}
use Rattle.std.specs.List.{prefix_len}
use Rattle.ng_tokens.specs.Lexis.{Text, is_blank, all, begins, same_text}
use Rattle.ng_lex.specs.declared.attributes.NameForm.{NameForm}
use Rattle.ng_lex.specs.declared.attributes.NameForm.TheVariants as f
use Rattle.ng_lex.specs.Letters.{is_alphanumeric}
use Rattle.ng_lex.specs.Words.{is_name}

-- any byte but white space, `"`, `'`, `<`, `>`, `/`, `=` and backtick
abbrev pub in_attribute : ℕ → Bool
in_attribute b = if is_blank b || b == 34 || b == 39 || b == 60 || b == 62 || b == 47 || b == 61 || b == 96 then false else true

abbrev pub IsAttribute : Text → Type 0
IsAttribute [] = ⊥
IsAttribute (b ∷ n) = all in_attribute (b ∷ n) ≡ true

-- what stands between the first word, with which the text begins, and the second, with which it ends
abbrev pub between : Text → Text → Text → Option Text
between a b n =
    if nat_le (length a + length b) (length n) && begins a n && same_text b (drop (length n - length b) n)
    then Some (take (length n - length a - length b) (drop (length a) n)) else None

-- letters, digits, `-`, `_`, `%`
abbrev pub in_part : ℕ → Bool
in_part b = is_alphanumeric b || b == 45 || b == 95 || b == 37

-- one byte of these or more
abbrev pub is_part : Text → Bool
is_part [] = false
is_part (b ∷ n) = all in_part (b ∷ n)

-- this form, where the test holds
abbrev pub given : Bool → NameForm → Option NameForm
given t form = if t then Some form else None

-- a style by its name and, after a dot, its unit
abbrev pub style_by : Text → Text → Option NameForm
style_by s [] = given (is_part s) (f.Style s None)
style_by s (d ∷ u) = given (d == 46 && is_part s && is_part u) (f.Style s (Some u))

abbrev pub style_of : Text → Option NameForm
style_of n = style_by (take (prefix_len in_part n) n) (drop (prefix_len in_part n) n)

-- in square brackets, without round ones
abbrev pub binding_of : Text → Option NameForm
binding_of n =
    if same_text (codes "ngTemplateOutlet") n then Some f.Outlet else (
    if same_text (codes "ngTemplateOutletContext") n then Some f.Context else (
    if begins (codes "attr.") n then given (is_part (drop 5 n)) (f.Attribute (drop 5 n)) else (
    if begins (codes "class.") n then given (is_part (drop 6 n)) (f.Class (drop 6 n)) else (
    if begins (codes "style.") n then style_of (drop 6 n) else
    given (is_name n) (f.Property n)))))

abbrev pub named_by : (Text → NameForm) → Option Text → Option NameForm
named_by make None = None
named_by make (Some n) = given (is_name n) (make n)

abbrev pub bound_by : Option Text → Option NameForm
bound_by None = None
bound_by (Some n) = binding_of n

-- The form of the name; none where it begins with `[`, `(`, `#`, `*` or `let-` and has no form of these.
unfoldable pub form_of : Text → Option NameForm
form_of n =
    if begins (codes "[(") n then named_by f.Both (between (codes "[(") (codes ")]") n) else (
    if begins (codes "[") n then bound_by (between (codes "[") (codes "]") n) else (
    if begins (codes "(") n then named_by f.Event (between (codes "(") (codes ")") n) else (
    if begins (codes "#") n then given (is_name (drop 1 n)) (f.Reference (drop 1 n)) else (
    if begins (codes "let-") n then given (is_name (drop 4 n)) (f.Variable (drop 4 n)) else (
    if begins (codes "*") n then None else Some (f.Plain n))))))

-- the bare word of a name
abbrev pub word_of : NameForm → Text
word_of (f.Plain n) = n
word_of (f.Property n) = n
word_of (f.Attribute n) = n
word_of (f.Class n) = n
word_of (f.Style n u) = n
word_of (f.Event n) = n
word_of (f.Both n) = n
word_of (f.Reference n) = n
word_of (f.Variable n) = n
word_of f.Outlet = codes "ngTemplateOutlet"
word_of f.Context = codes "ngTemplateOutletContext"
