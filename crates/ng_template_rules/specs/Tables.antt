-- The properties and events that elements have.
use Rattle.std.specs.Prelude.{Bool, ◌||◌, bytes_eq, codes, List, [], ◌∷◌}
use Rattle.std.specs.List.{list_any}
use Rattle.ng_parts.specs.Sites.{Name}

-- properties whose value is a text
abbrev pub first_properties : List Name
first_properties =
    codes "id" ∷ codes "title" ∷ codes "lang" ∷ codes "dir" ∷ codes "name" ∷ codes "value" ∷ codes "type" ∷ codes "placeholder" ∷ codes "href" ∷ codes "src" ∷ []

abbrev pub second_properties : List Name
second_properties =
    codes "alt" ∷ codes "min" ∷ codes "max" ∷ codes "step" ∷ codes "width" ∷ codes "height" ∷ codes "htmlFor" ∷ codes "tabIndex" ∷ codes "colSpan" ∷ codes "rowSpan" ∷ []

-- properties that are true or false
abbrev pub truth_properties : List Name
truth_properties =
    codes "hidden" ∷ codes "disabled" ∷ codes "checked" ∷ codes "selected" ∷ codes "readOnly" ∷ codes "required" ∷ codes "multiple" ∷ codes "open" ∷ []

abbrev pub is_property : Name → Bool
is_property n = list_any (bytes_eq n) first_properties || list_any (bytes_eq n) second_properties || list_any (bytes_eq n) truth_properties

-- events of the pointer
abbrev pub pointer_events : List Name
pointer_events =
    codes "click" ∷ codes "dblclick" ∷ codes "mousedown" ∷ codes "mouseup" ∷ codes "mouseenter" ∷ codes "mouseleave" ∷ codes "scroll" ∷ []

-- events of keys and form controls
abbrev pub input_events : List Name
input_events =
    codes "keydown" ∷ codes "keyup" ∷ codes "keypress" ∷ codes "input" ∷ codes "change" ∷ codes "focus" ∷ codes "blur" ∷ codes "submit" ∷ codes "reset" ∷ []

abbrev pub is_event : Name → Bool
is_event n = list_any (bytes_eq n) pointer_events || list_any (bytes_eq n) input_events
