-- The clicks of an event file.
use Rattle.std.specs.Prelude.{ℕ, ◌&&◌, ◌==◌, nat_le, Bool, false, if◌then◌else◌, List, [], ◌∷◌, Option, Some, None, option_map, option_and_then, codes}
use Rattle.std.specs.Str.{bytes_eq, is_utf8}
use Rattle.serde_json.specs.Data.{Data, Items, no_items, item}
use Rattle.serde_json.specs.Events.{items_len, members_len}
use Rattle.serde_json.specs.Find.{get, as_str, as_array, as_object}
use Rattle.serde_json.specs.Read.{read}
use Rattle.ng_semantics.specs.Text.{Text}

-- The JSON reading of bytes. Bytes that aren't UTF-8 have none.
unfoldable pub json_of : List ℕ → Option Data
json_of bytes = if is_utf8 bytes then read bytes else None

-- the text is `click`
abbrev pub is_click : Option Text → Bool
is_click None = false
is_click (Some event) = bytes_eq event (codes "click")

-- the text that an object has under a name
abbrev pub text_at : Text → Data → Option Text
text_at name d = option_and_then as_str (get name d)

-- the tag of a click: an object of two members, `"on": "click"` and a text `tag`
abbrev pub click_tag : Data → Option Text
click_tag d = option_and_then (λ members. if members_len members == 2 && is_click (text_at (codes "on") d) then text_at (codes "tag") d else None) (as_object d)

-- the tags of these clicks, if each is one
abbrev pub click_tags : Items → Option (List Text)
click_tags no_items = Some []
click_tags (item d ds) = option_and_then (λ tag. option_map (λ tags. tag ∷ tags) (click_tags ds)) (click_tag d)

-- the tags of an array of at most 10,000 clicks, in their order
unfoldable pub clicks_of : Data → Option (List Text)
clicks_of d = option_and_then (λ events. if nat_le (items_len events) 10000 then click_tags events else None) (as_array d)
