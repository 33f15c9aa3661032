-- How a page is printed.
use Rattle.std.specs.Prelude.{ℕ, Bool, ◌==◌, List, [], ◌∷◌, ◌++◌, codes, if◌then◌else◌}
use Rattle.std.specs.List.{flat_map, list_any}
use Rattle.std.specs.Str.{bytes_eq}
use Rattle.ng_tree.specs.declared.PNode.{PNode}
use Rattle.ng_tree.specs.declared.PNode.TheFolds.{fold-PNode}
use Rattle.ng_tree.specs.declared.PNode.TheOpen.{PNode-F}
use Rattle.ng_semantics.specs.Text.{Text}

-- A byte of a text.
abbrev pub escaped_byte : ℕ → Text
escaped_byte b = if b == 38 then codes "&amp;" else (if b == 60 then codes "&lt;" else (if b == 62 then codes "&gt;" else b ∷ []))

abbrev pub escaped : Text → Text
escaped = flat_map escaped_byte

-- A byte of an attribute's value.
abbrev pub escaped_value_byte : ℕ → Text
escaped_value_byte b = if b == 34 then codes "&quot;" else escaped_byte b

abbrev pub escaped_value : Text → Text
escaped_value = flat_map escaped_value_byte

-- The void elements of the HTML Living Standard, which print no children and no end.
abbrev pub void_tags : List Text
void_tags = codes "area" ∷ codes "base" ∷ codes "br" ∷ codes "col" ∷ codes "embed" ∷ codes "hr" ∷ codes "img" ∷ codes "input" ∷ codes "link" ∷ codes "meta" ∷ codes "source" ∷ codes "track" ∷ codes "wbr" ∷ []

abbrev pub is_void : Text → Bool
is_void tag = list_any (bytes_eq tag) void_tags

abbrev pub attribute_text : Text × Text → Text
attribute_text a = 32 ∷ (a.0 ++ codes "=\"" ++ escaped_value a.1 ++ 34 ∷ [])

abbrev pub start_tag : Text → List (Text × Text) → Text
start_tag tag attrs = 60 ∷ (tag ++ flat_map attribute_text attrs ++ 62 ∷ [])

abbrev pub end_tag : Text → Text
end_tag tag = codes "</" ++ tag ++ 62 ∷ []

abbrev pub element_text : Text → List (Text × Text) → List Text → Text
element_text tag attrs children = start_tag tag attrs ++ (if is_void tag then [] else flat_map (λ t. t) children ++ end_tag tag)

-- One level of a page, with the text of each child in its place.
abbrev pub html_step : PNode-F Text → Text
html_step (PNode-F.Element id tag attrs children) = element_text tag attrs children
html_step (PNode-F.Host id tag attrs children) = element_text tag attrs children
html_step (PNode-F.Text id t) = escaped t

-- The bytes of a page.
abbrev pub html : PNode → Text
html = fold-PNode Text html_step
