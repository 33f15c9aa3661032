-- The attributes that an element prints.
use Rattle.std.specs.Prelude.{ℕ, Bool, true, false, not, ◌||◌, ◌==◌, nat_le, if◌then◌else◌, List, [], ◌∷◌, ◌++◌, map, reverse, Option, Some, None, codes, bytes_eq, filter, unwrap_or}
use Rattle.std.specs.Char.{to_ascii_lowercase}
use Rattle.std.specs.List.{filter_map, flat_map, join_with_byte, list_any, starts_with}
use Rattle.ng_values.specs.declared.value.Value.{Value}
use Rattle.ng_values.specs.declared.value.Value.TheVariants as val
use Rattle.ng_values.specs.Kinds.{truth}
use Rattle.ng_values.specs.Text.{text}
use Rattle.ng_values.specs.View.{plain}
use Rattle.ng_ast.specs.declared.AttrForm.{AttrForm}
use Rattle.ng_ast.specs.declared.AttrForm.TheVariants as form
use Rattle.ng_ast.specs.declared.TAttr.{TAttr}
use Rattle.ng_meaning.specs.Lists.{Text, look, change_at, has_any, distinct, distinct_onto}
use Rattle.ng_tokens.specs.Lexis.{is_blank}
use Rattle.ng_selectors.specs.Fits.{words}

-- an attribute list in the making: names with values, of which one may be absent at its place
abbrev pub Attributes : Type 0
Attributes = List (Text × Option Text)

-- a value at the place of its name, or at the end
abbrev pub put : Text → Option Text → Attributes → Attributes
put name w [] = (name, w) ∷ []
put name w (a ∷ rest) = elim (bytes_eq name a.0) [ true ↦ (name, w) ∷ rest | false ↦ a ∷ put name w rest ]

-- a place at the end for a name that has none yet, where its value is absent
abbrev pub hold : Text → Attributes → Attributes
hold name sofar = elim (look name sofar) [ None ↦ sofar ++ (name, None) ∷ [] | Some w ↦ sofar ]

-- ---- properties

-- how a text property is printed, where that is another name
abbrev pub printed_name : Text → Text
printed_name = λ name. unwrap_or (look name ((codes "htmlFor", codes "for") ∷ (codes "tabIndex", codes "tabindex") ∷ (codes "colSpan", codes "colspan") ∷ (codes "rowSpan", codes "rowspan") ∷ [])) name

-- the properties that are true or false, with the names under which they are printed
abbrev pub truth_properties : List (Text × Text)
truth_properties =
    (codes "hidden", codes "hidden") ∷ (codes "disabled", codes "disabled") ∷ (codes "checked", codes "checked") ∷ (codes "selected", codes "selected")
    ∷ (codes "readOnly", codes "readonly") ∷ (codes "required", codes "required") ∷ (codes "multiple", codes "multiple") ∷ (codes "open", codes "open") ∷ []

-- tab, line feed and carriage return
abbrev pub is_break : ℕ → Bool
is_break b = b == 9 || b == 10 || b == 13

-- the text after the characters up to U+0020 at its front
abbrev pub after_controls : Text → Text
after_controls [] = []
after_controls (b ∷ t) = if nat_le b 32 then after_controls t else b ∷ t

-- whether a browser would take an address for a script: what it leaves out is left out for this test
abbrev pub is_script : Text → Bool
is_script t = starts_with (λ a b. a == b) (map to_ascii_lowercase (filter (λ b. not (is_break b)) (after_controls t))) (codes "javascript:")

-- an address that can't run as a script
abbrev pub safe_url : Text → Text
safe_url t = if is_script t then codes "unsafe:" ++ t else t

-- the attributes that are addresses
abbrev pub is_url : Text → Bool
is_url name = bytes_eq name (codes "href") || bytes_eq name (codes "src")

-- the value of a text property or of `[attr.a]`, by its printed name; null makes it absent
abbrev pub text_value : Text → Value → Option Text
text_value name val.Null = None
text_value name w = Some (if is_url name then safe_url (text (plain w)) else text (plain w))

-- the value of a truth property: empty, or absent
abbrev pub truth_value : Value → Option Text
truth_value w = if truth w then Some [] else None

-- a bound property, as it is printed
abbrev pub property : Text → Value → Text × Option Text
property name w = elim (look name truth_properties) [ Some printed ↦ (printed, truth_value w) | None ↦ (printed_name name, text_value (printed_name name) w) ]

-- ---- static attributes, `class` and `style`

-- a static attribute
abbrev pub static_entry : TAttr → AttrForm → Option (Text × Option Text)
static_entry a (form.Static w) = Some (a.name, Some w)
static_entry a _ = None

-- the static attributes in order
abbrev pub statics : List TAttr → Attributes
statics = filter_map (λ a. static_entry a a.form)

-- the static text of a name, empty where there is none
abbrev pub static_text : Text → Attributes → Text
static_text name sofar = unwrap_or (unwrap_or (look name sofar) None) []

-- `[class.c]` adds the class or takes it away
abbrev pub with_class : AttrForm → Text → Value → List Text → List Text
with_class (form.Class e) c w found = if truth w then distinct_onto found (c ∷ []) else filter (λ d. not (bytes_eq c d)) found
with_class _ c w found = found

-- the classes, with each `[class.c]` in order
abbrev pub classes : List (TAttr × Value) → List Text → List Text
classes [] found = found
classes (b ∷ bs) found = classes bs (with_class b.0.form b.0.name b.1 found)

-- texts with a byte between, and absent where there is none
abbrev pub joined : ℕ → List Text → Option Text
joined byte [] = None
joined byte (t ∷ ts) = Some (join_with_byte byte (t ∷ ts))

-- the value of `class`: the static words without repeats, and then what `[class.c]` changes
abbrev pub class_value : Attributes → List (TAttr × Value) → Option Text
class_value sofar bs = joined 32 (classes bs (distinct (words (static_text (codes "class") sofar))))

-- white space and `;` at the front left out
abbrev pub front_trimmed : Text → Text
front_trimmed [] = []
front_trimmed (b ∷ t) = if is_blank b || b == 59 then front_trimmed t else b ∷ t

-- white space and `;` at the end left out
abbrev pub end_trimmed : Text → Text
end_trimmed t = reverse (front_trimmed (reverse t))

-- a text, unless it is empty
abbrev pub some_text : Text → List Text
some_text t = if has_any t then t ∷ [] else []

-- `s:text`, with the unit, of `[style.s]`; null adds nothing
abbrev pub style_part : AttrForm → Text → Value → List Text
style_part (form.Style unit e) name val.Null = []
style_part (form.Style unit e) name w = (name ++ 58 ∷ text (plain w) ++ unwrap_or unit []) ∷ []
style_part _ name w = []

-- the value of `style`: the static text, and then each `[style.s]`
abbrev pub style_value : Attributes → List (TAttr × Value) → Option Text
style_value sofar bs = joined 59 (some_text (end_trimmed (static_text (codes "style") sofar)) ++ flat_map (λ b. style_part b.0.form b.0.name b.1) bs)

-- ---- the list

-- whether an attribute is `[attr.a]` of this name
abbrev pub is_attr : Text → AttrForm → Text → Bool
is_attr name (form.Attribute e) other = bytes_eq name other
is_attr name _ other = false

-- whether there is `[attr.a]` of this name, which gives the whole value of `class` or `style`
abbrev pub has_attr : Text → List (TAttr × Value) → Bool
has_attr name = list_any (λ b. is_attr name b.0.form b.0.name)

-- what a bound attribute adds, where `class` and `style` have these values
abbrev pub with_bound : List (TAttr × Value) → Option Text → Option Text → AttrForm → Text → Value → Attributes → Attributes
with_bound bs class style (form.Class e) name w sofar = if has_attr (codes "class") bs then hold (codes "class") sofar else put (codes "class") class sofar
with_bound bs class style (form.Style unit e) name w sofar = if has_attr (codes "style") bs then hold (codes "style") sofar else put (codes "style") style sofar
with_bound bs class style (form.Attribute e) name w sofar = put name (text_value name w) sofar
with_bound bs class style f name w sofar = let p = property name w in put p.0 p.1 sofar

-- what bound attributes add, in order
abbrev pub with_all : List (TAttr × Value) → Option Text → Option Text → List (TAttr × Value) → Attributes → Attributes
with_all every class style [] sofar = sofar
with_all every class style (b ∷ bs) sofar = with_all every class style bs (with_bound every class style b.0.form b.0.name b.1 sofar)

-- The attribute list of an element, of its static attributes and bound values: the static ones in order, and then the bound ones. A bound one whose
-- printed name stands in the list, even as absent, has its place. `class` and `style` stand at the static attribute, else at the first binding.
unfoldable pub attribute_list : List TAttr → List (TAttr × Value) → Attributes
attribute_list attrs bs =
    let sofar = statics attrs in
    let class = class_value sofar bs in
    let style = style_value sofar bs in
    with_all bs class style bs (change_at (bytes_eq (codes "style")) (λ _. style) (change_at (bytes_eq (codes "class")) (λ _. class) sofar))

-- an attribute with a value
abbrev pub present : Text × Option Text → Option (Text × Text)
present a = elim a.1 [ None ↦ None | Some w ↦ Some (a.0, w) ]

-- the attributes that are printed
abbrev pub printed : Attributes → List (Text × Text)
printed = filter_map present
