-- The grammar of selectors, by cases on the text.
use Rattle.std.specs.Prelude.{◌≡◌, ℕ, suc, Bool, true, ◌&&◌, ◌||◌, ◌==◌, nat_le, not, List, [], ◌∷◌, ◌++◌, codes, Some, None}
use Rattle.ng_tokens.specs.Lexis.{Text, all, is_blank, is_digit, is_letter, is_word, is_quote, IsRun}
use Rattle.ng_ast.specs.declared.One.{One}
use Rattle.ng_ast.specs.declared.SelPart.{SelPart}
use Rattle.ng_ast.specs.declared.SelPart.TheVariants as kind
use Rattle.ng_ast.specs.declared.Selector.{Selector}

-- ---- bytes

-- a lower-case letter
abbrev pub is_lower : ℕ → Bool
is_lower b = nat_le 97 b && nat_le b 122

-- a lower-case letter, a digit or -
abbrev pub is_tag_byte : ℕ → Bool
is_tag_byte b = is_lower b || is_digit b || b == 45

-- a letter, a digit, _, - or %
abbrev pub is_identifier_byte : ℕ → Bool
is_identifier_byte b = is_word b || b == 45 || b == 37

-- any byte but this one
abbrev pub is_other : ℕ → ℕ → Bool
is_other c b = not (b == c)

-- ---- words

-- a tag: a lower-case letter, then lower-case letters, digits and -
abbrev pub IsTag : Text → Type 0
IsTag = IsRun is_lower is_tag_byte

-- the name of an attribute or a class: one or more letters, digits, -, _ and %
abbrev pub IsIdentifier : Text → Type 0
IsIdentifier = IsRun is_identifier_byte is_identifier_byte

-- a name: a letter or _, then letters, digits and _
abbrev pub IsName : Text → Type 0
IsName = IsRun is_letter is_word

-- How a value is written: a name as it is, or any bytes but that quote between two quotes. Letters are those of ASCII, and a quote is ' or ".
pub data ReadsValue : Text → Text → Type 0 where
  bare : {v : Text} → IsName v → ReadsValue v v
  quoted : (q : ℕ) (v : Text) → is_quote q ≡ true → all (is_other q) v ≡ true → ReadsValue (q ∷ (v ++ q ∷ [])) v

-- ---- selectors

-- The number says how many `:not` may stand round one another: one in a selector.
mutual
  -- the text is this part: [a], [a=v], .c or :not(one)
  pub data ReadsPart : ℕ → Text → SelPart → Type 0 where
    has : {d : ℕ} (a : Text) → IsIdentifier a → ReadsPart d (codes "[" ++ (a ++ codes "]")) (kind.Has a)
    equals : {d : ℕ} {v : Text} (a x : Text) → IsIdentifier a → ReadsValue x v → ReadsPart d (codes "[" ++ (a ++ (codes "=" ++ (x ++ codes "]")))) (kind.Is a v)
    class : {d : ℕ} (c : Text) → IsIdentifier c → ReadsPart d (codes "." ++ c) (kind.Class c)
    except : {d : ℕ} {a : One} (x : Text) → ReadsOne d x a → ReadsPart (suc d) (codes ":not(" ++ (x ++ codes ")")) (kind.Not a)

  -- any number of parts
  pub data ReadsParts : ℕ → Text → List SelPart → Type 0 where
    none : {d : ℕ} → ReadsParts d [] []
    more : {d : ℕ} {p : SelPart} {ps : List SelPart} (x y : Text) → ReadsPart d x p → ReadsParts d y ps → ReadsParts d (x ++ y) (p ∷ ps)

  -- one alternative: a tag, parts, or a tag and parts; or * alone, which has neither
  pub data ReadsOne : ℕ → Text → One → Type 0 where
    everything : {d : ℕ} → ReadsOne d (codes "*") (record { tag = None; parts = [] })
    tagged : {d : ℕ} {ps : List SelPart} (t x : Text) → IsTag t → ReadsParts d x ps → ReadsOne d (t ++ x) (record { tag = Some t; parts = ps })
    untagged : {d : ℕ} {p : SelPart} {ps : List SelPart} (x : Text) → ReadsParts d x (p ∷ ps) → ReadsOne d x (record { tag = None; parts = p ∷ ps })

-- one alternative or more, with a comma between, and white space round the commas alone
pub data ReadsAlternatives : Text → List One → Type 0 where
  one : {x : Text} {a : One} → ReadsOne 1 x a → ReadsAlternatives x (a ∷ [])
  several : {a : One} {others : List One} (x v w y : Text) → ReadsOne 1 x a → all is_blank v ≡ true → all is_blank w ≡ true → ReadsAlternatives y others
      → ReadsAlternatives (x ++ (v ++ (codes "," ++ (w ++ y)))) (a ∷ others)

-- the text is this selector
abbrev pub ReadsSelector : Text → Selector → Type 0
ReadsSelector t s = ReadsAlternatives t s.list
