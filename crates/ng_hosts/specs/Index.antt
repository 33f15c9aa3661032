-- Where the alternatives of selectors stand, by a mark that every element that they mean bears.
use Rattle.std.specs.Prelude.{◌≡◌, ℕ, ◌+◌, ◌==◌, nat_lt, Bool, true, false, if◌then◌else◌, ◌&&◌, ◌||◌, bytes_eq, codes, List, [], ◌∷◌, ◌++◌, Option, Some, None, slice_get}
use Rattle.std.specs.List.{list_any, slice_split}
use Rattle.std.specs.HashMap.{get}
use Rattle.std.specs.Option.{option_map_or, option_to_list, unwrap_or}
use Rattle.ng_tokens.specs.Lexis.{is_blank}
use Rattle.ng_ast.specs.declared.Component.{Component}
use Rattle.ng_ast.specs.declared.One.{One}
use Rattle.ng_ast.specs.declared.SelPart.{SelPart, out-SelPart}
use Rattle.ng_ast.specs.declared.SelPart.TheOpen.{SelPart-F}
use Rattle.ng_selectors.specs.declared.Attr.{Attr}
use Rattle.ng_selectors.specs.Fits.{fits, one_fits}
use Rattle.ng_hosts.specs.declared.marks.Mark.{Mark}
use Rattle.ng_hosts.specs.declared.marks.Mark.TheVariants as mark
use Rattle.ng_hosts.specs.declared.marks.MarkCounts.{MarkCounts}
use Rattle.ng_hosts.specs.declared.index.Entry.{Entry}
use Rattle.ng_hosts.specs.declared.index.SelectorIndex.{SelectorIndex}
use Rattle.ng_hosts.specs.Hosts.{Name}

-- ---- marks

-- the mark of a part: the attribute that it wants, or the class; a `:not` wants nothing
abbrev pub layer_mark : SelPart-F SelPart One → Option Mark
layer_mark (SelPart-F.Has n) = Some (mark.Attribute n)
layer_mark (SelPart-F.Is n v) = Some (mark.Attribute n)
layer_mark (SelPart-F.Class c) = Some (mark.Class c)
layer_mark (SelPart-F.Not one) = None

abbrev pub part_mark : SelPart → Option Mark
part_mark p = layer_mark (out-SelPart p)

abbrev pub tag_mark : Option Name → Mark
tag_mark None = mark.Nothing
tag_mark (Some t) = mark.Tag t

module _ (counts : MarkCounts) where
  -- how often a mark was counted; nothing counts as the most
  abbrev pub count : Mark → ℕ
  count (mark.Attribute n) = unwrap_or (get bytes_eq counts.attributes n) 0
  count (mark.Class n) = unwrap_or (get bytes_eq counts.classes n) 0
  count (mark.Tag n) = unwrap_or (get bytes_eq counts.tags n) 0
  count mark.Nothing = 18446744073709551615

  abbrev pub rarer : Mark → Mark → Mark
  rarer best m = if nat_lt (count m) (count best) then m else best

  abbrev pub rarer_if : Mark → Option Mark → Mark
  rarer_if best None = best
  rarer_if best (Some m) = rarer best m

  -- the rarest of a mark and those of some parts, of equals the first
  abbrev pub rarest : Mark → List SelPart → Mark
  rarest best [] = best
  rarest best (p ∷ ps) = rarest (rarer_if best (part_mark p)) ps

  -- the mark of an alternative: the rarest of its tag and its parts, else nothing
  abbrev pub mark_of : One → Mark
  mark_of one = rarest (tag_mark one.tag) one.parts

abbrev pub is_attribute : Name → Mark → Bool
is_attribute n (mark.Attribute m) = bytes_eq m n
is_attribute n _ = false

abbrev pub is_class : Name → Mark → Bool
is_class n (mark.Class m) = bytes_eq m n
is_class n _ = false

abbrev pub is_tag : Name → Mark → Bool
is_tag n (mark.Tag m) = bytes_eq m n
is_tag n _ = false

abbrev pub is_nothing : Mark → Bool
is_nothing mark.Nothing = true
is_nothing _ = false

-- ---- where alternatives stand

abbrev pub entry : ℕ → ℕ → Entry
entry component alternative = record { component = component; alternative = alternative }

-- the entry, if it is wanted
abbrev pub entry_if : Bool → Entry → List Entry
entry_if true e = e ∷ []
entry_if false e = []

module _ (counts : MarkCounts) where
  -- the alternatives with a mark of a kind, of which the first is this one of the component at this position
  abbrev pub marked : (Mark → Bool) → ℕ → ℕ → List One → List Entry
  marked wanted at nth [] = []
  marked wanted at nth (one ∷ ones) = entry_if (wanted (mark_of counts one)) (entry at nth) ++ marked wanted at (nth + 1) ones

  -- those of components, of which the first stands at this position
  abbrev pub entries : (Mark → Bool) → ℕ → List Component → List Entry
  entries wanted at [] = []
  entries wanted at (c ∷ cs) = marked wanted at 0 c.selector.list ++ entries wanted (at + 1) cs

-- the entries that a map has for a name
abbrev pub row : Option (List Entry) → List Entry
row None = []
row (Some es) = es

-- each alternative of the components stands by its mark, as marks were counted
pub record IsIndex (index : SelectorIndex) (cs : List Component) : Type 0 where
  pub counts : MarkCounts
  pub attributes : (n : Name) → row (get bytes_eq index.attributes n) ≡ entries counts (is_attribute n) 0 cs
  pub classes : (n : Name) → row (get bytes_eq index.classes n) ≡ entries counts (is_class n) 0 cs
  pub tags : (n : Name) → row (get bytes_eq index.tags n) ≡ entries counts (is_tag n) 0 cs
  pub unmarked : index.unmarked.items ≡ entries counts is_nothing 0 cs

-- nothing stands in an index
pub record IsEmpty (index : SelectorIndex) : Type 0 where
  pub attributes : index.attributes.entries ≡ []
  pub classes : index.classes.entries ≡ []
  pub tags : index.tags.entries ≡ []
  pub unmarked : index.unmarked.items ≡ []

-- to an index this is added, by the kind of mark
pub record Adds (old new : SelectorIndex) (added : (Mark → Bool) → List Entry) : Type 0 where
  pub attributes : (n : Name) → row (get bytes_eq new.attributes n) ≡ row (get bytes_eq old.attributes n) ++ added (is_attribute n)
  pub classes : (n : Name) → row (get bytes_eq new.classes n) ≡ row (get bytes_eq old.classes n) ++ added (is_class n)
  pub tags : (n : Name) → row (get bytes_eq new.tags n) ≡ row (get bytes_eq old.tags n) ++ added (is_tag n)
  pub unmarked : new.unmarked.items ≡ old.unmarked.items ++ added is_nothing

-- ---- the search

module _ (cs : List Component) (tag : Name) (seen : List Attr) where
  -- the component at a position has a selector that the element matches
  abbrev pub fits_at : ℕ → Bool
  fits_at at = option_map_or (λ c. fits c.selector tag seen) (slice_get cs at) false

  -- the element matches the alternative
  abbrev pub entry_fits : Entry → Bool
  entry_fits e = option_map_or (λ c. option_map_or (one_fits tag seen) (slice_get c.selector.list e.alternative) false) (slice_get cs e.component) false

  -- the alternative shows that the element matches the component at a position
  abbrev pub hits : ℕ → Entry → Bool
  hits at e = (e.component == at) && entry_fits e

  module _ (index : SelectorIndex) where
    -- an alternative by a word of the class attribute does
    abbrev pub class_hits : ℕ → Name → Bool
    class_hits at word = list_any (hits at) (row (get bytes_eq index.classes word))

    -- an alternative by one of the words does, where the attribute is `class`
    abbrev pub value_hits : ℕ → Attr → Bool
    value_hits at a = bytes_eq (codes "class") a.name && list_any (class_hits at) (slice_split is_blank a.value)

    -- an alternative by the attribute does
    abbrev pub attr_hits : ℕ → Attr → Bool
    attr_hits at a = list_any (hits at) (row (get bytes_eq index.attributes a.name)) || value_hits at a

    -- an alternative by a mark of the element does
    abbrev pub element_hits : ℕ → Bool
    element_hits at = (list_any (hits at) index.unmarked.items || list_any (hits at) (row (get bytes_eq index.tags tag))) || list_any (attr_hits at) seen

-- the component at a position, if there is one
abbrev pub component_at : List Component → ℕ → List Component
component_at cs at = option_to_list (slice_get cs at)
