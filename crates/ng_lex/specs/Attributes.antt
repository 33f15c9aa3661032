-- How attributes and tags are written.
use Rattle.std.specs.Prelude.{◌≡◌, ℕ, Bool, true, false, ◌&&◌, ◌||◌, ◌==◌, nat_le, if◌then◌else◌, List, [], ◌∷◌, ◌++◌, codes, Some}
use Rattle.ng_ast.specs.declared.Place.{Place}
use Rattle.ng_ast.specs.declared.TAttr.{TAttr}
use Rattle.ng_ast.specs.declared.AttrForm.{AttrForm}
use Rattle.ng_tokens.specs.Lexis.{Text, is_blank, is_digit, all, is_one_of, steps}
use Rattle.ng_lex.specs.declared.attributes.NameForm.{NameForm}
use Rattle.ng_lex.specs.Letters.{Letters, Decodes}
use Rattle.ng_lex.specs.Words.{IsBlank, IsGap, is_run, at_front}
use Rattle.ng_lex.specs.Names.{IsAttribute, form_of, word_of}
use Rattle.ng_lex.specs.Values.{Says, without_value, OverValue}

-- ---- values

-- any byte but this one
abbrev pub differs : ℕ → ℕ → Bool
differs q b = if b == q then false else true

-- any byte but white space, `"`, `'`, `<`, `>`, `=` and backtick
abbrev pub in_bare : ℕ → Bool
in_bare b = if is_blank b || b == 34 || b == 39 || b == 60 || b == 62 || b == 61 || b == 96 then false else true

-- one byte of these or more
abbrev pub IsBare : Text → Type 0
IsBare [] = ⊥
IsBare (b ∷ x) = all in_bare (b ∷ x) ≡ true

-- white space or `>`
abbrev pub ends_bare : ℕ → Bool
ends_bare b = is_blank b || b == 62

-- A value stands between two marks: `"`, `'`, or none, which goes up to white space or `>`. The first text is the mark, the third what comes after.
pub data Marked : Text → Text → Text → Type 0 where
  double : {z : Text} (x : Text) → all (differs 34) x ≡ true → Marked (34 ∷ []) x z
  single : {z : Text} (x : Text) → all (differs 39) x ≡ true → Marked (39 ∷ []) x z
  bare : {z : Text} (x : Text) → IsBare x → at_front ends_bare z ≡ true → Marked [] x z

-- ---- attributes

abbrev pub attribute : Place → NameForm → AttrForm → TAttr
attribute p f form = record { place = p; name = word_of f; form = form }

-- The first text, whose first byte stands at the place, is this attribute, where the second comes after it. White space may stand round `=`.
pub data ReadsAttr : Place → Text → Text → TAttr → Type 0 where
  without : {p : Place} {z : Text} {f : NameForm} {form : AttrForm} (n : Text) → IsAttribute n → form_of n ≡ Some f → without_value f ≡ Some form → ReadsAttr p n z (attribute p f form)
  having : {p : Place} {z : Text} {f : NameForm} {form : AttrForm} {ls : Letters} (n w v m x : Text) → IsAttribute n → form_of n ≡ Some f → IsBlank w → IsBlank v → Marked m x z
      → Decodes (steps p (n ++ (w ++ (61 ∷ (v ++ m))))) x ls → Says f (steps p (n ++ (w ++ (61 ∷ (v ++ m))))) ls form
      → ReadsAttr p (n ++ (w ++ (61 ∷ (v ++ (m ++ (x ++ m)))))) z (attribute p f form)

-- what ends a tag: `>`, or `/>` where it closes itself
abbrev pub ending : Bool → Text
ending false = 62 ∷ []
ending true = 47 ∷ 62 ∷ []

-- The text, all of it, is these attributes, with white space before each, and the end of a tag, white space before which may stand.
pub data ReadsAttrs (closed : Bool) : Place → Text → List TAttr → Type 0 where
  no_more : {p : Place} (w : Text) → IsBlank w → ReadsAttrs closed p (w ++ ending closed) []
  another : {p : Place} {one : TAttr} {others : List TAttr} (w x z : Text) → IsGap w → ReadsAttr (steps p w) x z one → ReadsAttrs closed (steps p (w ++ x)) z others
      → ReadsAttrs closed p (w ++ (x ++ z)) (one ∷ others)

-- After attributes that are read, one has a value that is begun, and passes a limit.
pub data OverAttrs : Place → Text → Type 0 where
  this_one : {p : Place} {f : NameForm} {ls : Letters} (u n w v m x z : Text) → IsGap u → IsAttribute n → form_of n ≡ Some f → IsBlank w → IsBlank v → Marked m x z
      → Decodes (steps p (u ++ (n ++ (w ++ (61 ∷ (v ++ m)))))) x ls → OverValue f (steps p (u ++ (n ++ (w ++ (61 ∷ (v ++ m)))))) ls
      → OverAttrs p (u ++ (n ++ (w ++ (61 ∷ (v ++ (m ++ (x ++ (m ++ z))))))))
  later_one : {p : Place} {one : TAttr} (w x z : Text) → IsGap w → ReadsAttr (steps p w) x z one → OverAttrs (steps p (w ++ x)) z → OverAttrs p (w ++ (x ++ z))

-- ---- tags

-- a lower-case letter
abbrev pub is_lower : ℕ → Bool
is_lower b = nat_le 97 b && nat_le b 122

-- a lower-case letter, a digit or `-`
abbrev pub in_tag : ℕ → Bool
in_tag b = is_lower b || is_digit b || b == 45

unfoldable pub refused_tags : List Text
refused_tags = codes "script" ∷ codes "style" ∷ []

unfoldable pub void_tags : List Text
void_tags = codes "area" ∷ codes "base" ∷ codes "br" ∷ codes "col" ∷ codes "embed" ∷ codes "hr" ∷ codes "img" ∷ codes "input" ∷ codes "link" ∷ codes "meta" ∷ codes "source"
    ∷ codes "track" ∷ codes "wbr" ∷ []

abbrev pub IsTag : Text → Type 0
IsTag t = (is_run is_lower in_tag t ≡ true) × (is_one_of refused_tags t ≡ false)

abbrev pub is_void : Text → Bool
is_void t = is_one_of void_tags t

abbrev pub is_dashed : Text → Bool
is_dashed [] = false
is_dashed (b ∷ t) = if b == 45 then true else is_dashed t

-- the tag of an element that has an end tag
abbrev pub IsPaired : Text → Type 0
IsPaired t = IsTag t × (is_void t ≡ false)

-- a void element, which may close itself, or one with a dash in its tag, which does
abbrev pub IsSingle : Text → Bool → Type 0
IsSingle t closed = IsTag t × ((is_void t || (closed && is_dashed t)) ≡ true)
