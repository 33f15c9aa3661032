-- How a page is printed.
use Rattle.std.specs.Prelude.{ℕ, ◌==◌, if◌then◌else◌, List, [], ◌∷◌, ◌++◌, codes}
use Rattle.std.specs.List.{flat_map}
use Rattle.ng_tree.specs.declared.PNode.{PNode, out-PNode, size-PNode}
use Rattle.ng_tree.specs.declared.PNode.TheOpen.{PNode-F}
use Rattle.ng_meaning.specs.Levels.{whole}
use Rattle.ng_meaning.specs.Lists.{Text, has_text}

-- a byte of a text
abbrev pub escaped_byte : ℕ → Text
escaped_byte b = if b == 38 then codes "&amp;" else (if b == 60 then codes "&lt;" else (if b == 62 then codes "&gt;" else b ∷ []))

-- a text
abbrev pub escaped : Text → Text
escaped = flat_map escaped_byte

-- a byte of an attribute's value
abbrev pub escaped_value_byte : ℕ → Text
escaped_value_byte b = if b == 34 then codes "&quot;" else escaped_byte b

-- an attribute's value
abbrev pub escaped_value : Text → Text
escaped_value = flat_map escaped_value_byte

-- the void elements of the HTML Living Standard
abbrev pub void_tags : List Text
void_tags =
    codes "area" ∷ codes "base" ∷ codes "br" ∷ codes "col" ∷ codes "embed" ∷ codes "hr" ∷ codes "img" ∷ codes "input" ∷ codes "link" ∷ codes "meta" ∷ codes "source" ∷ codes "track"
    ∷ codes "wbr" ∷ []

-- a space, the name, and the value in quotes
abbrev pub attribute_text : Text × Text → Text
attribute_text a = 32 ∷ (a.0 ++ codes "=\"" ++ escaped_value a.1 ++ 34 ∷ [])

-- `<tag`, the attributes, `>`
abbrev pub start_tag : Text → List (Text × Text) → Text
start_tag tag attrs = 60 ∷ (tag ++ flat_map attribute_text attrs ++ 62 ∷ [])

-- `</tag>`
abbrev pub end_tag : Text → Text
end_tag tag = codes "</" ++ tag ++ 62 ∷ []

-- an element with what stands in it; a void element prints no children and no end
abbrev pub element_text : Text → List (Text × Text) → Text → Text
element_text tag attrs inner = start_tag tag attrs ++ (if has_text tag void_tags then [] else inner ++ end_tag tag)

-- one level of a page, given how its children are printed
abbrev pub html_layer : (PNode → Text) → PNode-F PNode → Text
html_layer html (PNode-F.Element i tag attrs kids) = element_text tag attrs (flat_map html kids)
html_layer html (PNode-F.Host i tag attrs kids) = element_text tag attrs (flat_map html kids)
html_layer html (PNode-F.Text i t) = escaped t

-- the bytes of a page
unfoldable pub html : PNode → Text
html = whole out-PNode size-PNode [] html_layer
