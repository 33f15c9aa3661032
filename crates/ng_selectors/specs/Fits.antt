-- Which elements a selector matches.
use Rattle.std.specs.Prelude.{ℕ, zero, suc, Bool, true, false, not, ◌&&◌, List, [], ◌∷◌, Option, Some, None, codes, filter}
use Rattle.std.specs.List.{list_any, list_all, onto_first}
use Rattle.std.specs.Str.{bytes_eq}
use Rattle.ng_tokens.specs.Lexis.{Text, is_blank}
use Rattle.ng_ast.specs.declared.One.{One}
use Rattle.ng_ast.specs.declared.SelPart.{SelPart, out-SelPart}
use Rattle.ng_ast.specs.declared.SelPart.TheOpen.{SelPart-F}
use Rattle.ng_ast.specs.declared.SelPart.TheViews.{size-One}
use Rattle.ng_ast.specs.declared.Selector.{Selector}
use Rattle.ng_selectors.specs.declared.Attr.{Attr}

-- ---- words

-- the pieces with one more byte at the front, which may be white space
abbrev pub before_byte : Bool → ℕ → List Text → List Text
before_byte true b ws = [] ∷ ws
before_byte false b ws = onto_first b ws

-- what stands between each two white space characters
abbrev pub between_blanks : Text → List Text
between_blanks [] = [] ∷ []
between_blanks (b ∷ t) = before_byte (is_blank b) b (between_blanks t)

-- not empty
abbrev pub is_filled : Text → Bool
is_filled [] = false
is_filled (b ∷ t) = true

-- the words of a text, with white space between
abbrev pub words : Text → List Text
words t = filter is_filled (between_blanks t)

-- one of the words
abbrev pub has_word : Text → Text → Bool
has_word w t = list_any (bytes_eq w) (words t)

-- ---- elements, by their tag and the attributes that count

module _ (attrs : List Attr) where
  -- an attribute of this name
  abbrev pub has : Text → Bool
  has n = list_any (λ a. bytes_eq n a.name) attrs

  -- an attribute of this name with this value
  abbrev pub has_value : Text → Text → Bool
  has_value n v = list_any (λ a. bytes_eq n a.name && bytes_eq v a.value) attrs

  -- the class is a word of the attribute `class`
  abbrev pub has_class : Text → Bool
  has_class c = list_any (λ a. bytes_eq (codes "class") a.name && has_word c a.value) attrs

-- no tag, or the element's own
abbrev pub tag_fits : Text → Option Text → Bool
tag_fits tag None = true
tag_fits tag (Some t) = bytes_eq t tag

module _ (tag : Text) (attrs : List Attr) where
  -- one part, where the test says what fits inside a `:not`
  abbrev pub layer_fits : (One → Bool) → SelPart-F SelPart One → Bool
  layer_fits inside (SelPart-F.Has n) = has attrs n
  layer_fits inside (SelPart-F.Is n v) = has_value attrs n v
  layer_fits inside (SelPart-F.Class c) = has_class attrs c
  layer_fits inside (SelPart-F.Not one) = not (inside one)

  -- an alternative, in which `:not` nests less deep than the number
  abbrev pub one_within : ℕ → One → Bool
  one_within zero one = false
  one_within (suc n) one = tag_fits tag one.tag && list_all (λ p. layer_fits (one_within n) (out-SelPart p)) one.parts

  -- an alternative fits where its tag and every part do
  unfoldable pub one_fits : One → Bool
  one_fits one = one_within (suc (size-One one)) one

  -- a part
  unfoldable pub part_fits : SelPart → Bool
  part_fits p = layer_fits one_fits (out-SelPart p)

-- a selector fits where one of its alternatives does
unfoldable pub fits : Selector → Text → List Attr → Bool
fits s tag attrs = list_any (one_fits tag attrs) s.list
