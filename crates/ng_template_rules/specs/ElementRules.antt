-- The rules on the elements of a template.
use Rattle.std.specs.Prelude.{Bool, true, false, not, ◌||◌, ◌&&◌, ◌==◌, if◌then◌else◌, bytes_eq, codes, List, [], ◌∷◌, ◌++◌, Option, Some, None}
use Rattle.std.specs.List.{flat_map, list_any}
use Rattle.ng_ast.specs.declared.Place.{Place}
use Rattle.ng_ast.specs.declared.AttrForm.{AttrForm}
use Rattle.ng_ast.specs.declared.AttrForm.TheVariants as form
use Rattle.ng_ast.specs.declared.TAttr.{TAttr}
use Rattle.ng_ast.specs.declared.MemberKind.{MemberKind}
use Rattle.ng_ast.specs.declared.MemberKind.TheVariants as kind
use Rattle.ng_ast.specs.declared.Member.{Member}
use Rattle.ng_ast.specs.declared.Component.{Component}
use Rattle.ng_ast.specs.declared.refusals.Refusal.{Refusal}
use Rattle.ng_ast.specs.declared.refusals.Rule.TheVariants as rule
use Rattle.ng_scopes.specs.declared.names.Sort.{Sort}
use Rattle.ng_scopes.specs.Names.{first_some}
use Rattle.ng_scopes.specs.Declarations.{sort_of}
use Rattle.ng_scopes.specs.Templates.{is_template, is_content}
use Rattle.ng_hosts.specs.Hosts.{is_reserved, change_of}
use Rattle.ng_parts.specs.declared.site.Site.{Site}
use Rattle.ng_parts.specs.Sites.{Name, site, when, repeats}
use Rattle.ng_template_rules.specs.declared.elements.Group.{Group}
use Rattle.ng_template_rules.specs.declared.elements.Group.TheVariants as group
use Rattle.ng_breaks.specs.Least.{broken, of_rule}
use Rattle.ng_breaks.specs.NameRules.{is_input, is_output}
use Rattle.ng_template_rules.specs.Tables.{is_property, is_event}

abbrev pub is_container : Name → Bool
is_container tag = bytes_eq tag (codes "ng-container")

-- N03: a dashed tag matches no component · N04: two components match

abbrev pub is_dashed : Name → Bool
is_dashed = list_any (λ b. b == 45)

abbrev pub host_breaks : Place → Name → List Component → List Refusal
host_breaks p tag [] = broken (is_dashed tag && not (is_reserved tag)) rule.N03 p tag
host_breaks p tag (c ∷ []) = []
host_breaks p tag (c ∷ d ∷ cs) = broken true rule.N04 p tag

-- the component that an element hosts: the first of the file that matches it
abbrev pub host_of : List Component → Option Component
host_of [] = None
host_of (c ∷ cs) = Some c

-- The inputs and outputs of a host.

abbrev pub members_of : Option Component → List Member
members_of None = []
members_of (Some c) = c.members

abbrev pub this_part : Option Sort → Name → Name → Option Sort
this_part None m n = None
this_part (Some s) m n = if bytes_eq n m then Some s else None

-- the sort of the first member of the name
abbrev pub part_in : List Member → Name → Option Sort
part_in [] n = None
part_in (m ∷ ms) n = first_some (this_part (sort_of m.kind) m.name n) (part_in ms n)

abbrev pub part_sort : Option Component → Name → Option Sort
part_sort c n = part_in (members_of c) n

abbrev pub has_input : Option Component → Name → Bool
has_input c n = is_input (part_sort c n)

abbrev pub has_output : Option Component → Name → Bool
has_output c n = is_output (part_sort c n)

-- N02: plain attributes, bindings, listeners and inputs that an element gives twice

-- a plain attribute is neither a binding to a target nor a listener nor a reference
abbrev pub is_plain : AttrForm → Bool
is_plain (form.Static t) = true
is_plain (form.Variable k) = true
is_plain (form.Outlet o) = true
is_plain (form.Context e) = true
is_plain _ = false

-- a binding to an input or a property
abbrev pub is_bound : AttrForm → Bool
is_bound (form.Joined pieces) = true
is_bound (form.Property e) = true
is_bound (form.Both y) = true
is_bound _ = false

abbrev pub is_attribute : AttrForm → Bool
is_attribute (form.Attribute e) = true
is_attribute _ = false

abbrev pub is_class : AttrForm → Bool
is_class (form.Class e) = true
is_class _ = false

abbrev pub is_style : AttrForm → Bool
is_style (form.Style unit e) = true
is_style _ = false

-- an attribute that gives an input, if the element's component has one of the name
abbrev pub is_giving : AttrForm → Bool
is_giving (form.Static t) = true
is_giving (form.Joined pieces) = true
is_giving (form.Property e) = true
is_giving (form.Both y) = true
is_giving _ = false

-- whether an attribute is of a kind
abbrev pub is_of : Group → AttrForm → Bool
is_of group.Plain = is_plain
is_of group.Bound = is_bound
is_of group.Attribute = is_attribute
is_of group.Class = is_class
is_of group.Style = is_style
is_of group.Giving = is_giving

-- the attributes of a kind, by their names
abbrev pub sites_of : Group → List TAttr → List Site
sites_of g = flat_map (λ a. when (is_of g a.form) (site a.place a.name))

-- the events that an attribute listens to
abbrev pub heard : Place → Name → AttrForm → List Site
heard p n (form.Listener stmts) = site p n ∷ []
heard p n (form.Both y) = site p (change_of n) ∷ []
heard p n _ = []

abbrev pub heard_sites : List TAttr → List Site
heard_sites = flat_map (λ a. heard a.place a.name a.form)

-- the inputs that an element gives
abbrev pub given : Option Component → List Site → List Site
given c = flat_map (λ s. when (has_input c s.name) s)

abbrev pub attr_repeats : Option Component → List TAttr → List Refusal
attr_repeats c attrs =
    (((((of_rule rule.N02 (repeats (sites_of group.Plain attrs)) ++ of_rule rule.N02 (repeats (sites_of group.Bound attrs)))
    ++ of_rule rule.N02 (repeats (sites_of group.Attribute attrs))) ++ of_rule rule.N02 (repeats (sites_of group.Class attrs)))
    ++ of_rule rule.N02 (repeats (sites_of group.Style attrs))) ++ of_rule rule.N02 (repeats (heard_sites attrs)))
    ++ of_rule rule.N02 (repeats (given c (sites_of group.Giving attrs)))

-- N05: a binding is neither an input nor a property

abbrev pub input_breaks : Option Component → List TAttr → List Refusal
input_breaks c attrs = flat_map (λ s. broken (not (has_input c s.name || is_property s.name)) rule.N05 s.place s.name) (sites_of group.Bound attrs)

-- N06: a required input isn't given

abbrev pub is_required : MemberKind → Bool
is_required (kind.Input required v) = required
is_required _ = false

abbrev pub wanted_breaks : Place → List Site → Member → List Refusal
wanted_breaks p giving m = broken (is_required m.kind && not (list_any (λ s. bytes_eq m.name s.name) giving)) rule.N06 p m.name

-- Its members are asked in their order.
abbrev pub required_breaks : Place → Option Component → List TAttr → List Refusal
required_breaks p None attrs = []
required_breaks p (Some c) attrs = flat_map (wanted_breaks p (sites_of group.Giving attrs)) c.members

-- N07: a listener is neither an output nor an event, or `[(x)]` has no output xChange

abbrev pub output_break : Option Component → Place → Name → AttrForm → List Refusal
output_break c p n (form.Listener stmts) = broken (not (has_output c n || is_event n)) rule.N07 p n
output_break c p n (form.Both y) = broken (not (has_output c (change_of n))) rule.N07 p (change_of n)
output_break c p n _ = []

abbrev pub output_breaks : Option Component → List TAttr → List Refusal
output_breaks c attrs = flat_map (λ a. output_break c a.place a.name a.form) attrs

-- N25: an attribute that isn't allowed on its element

abbrev pub is_select : Name → AttrForm → Bool
is_select n (form.Static t) = bytes_eq n (codes "select")
is_select n _ = false

-- what `ng-container` may have: static attributes and the outlet forms
abbrev pub fits_container : AttrForm → Bool
fits_container (form.Static t) = true
fits_container (form.Outlet o) = true
fits_container (form.Context e) = true
fits_container _ = false

-- what other elements may have: all but outlet and `let-` forms
abbrev pub fits_element : AttrForm → Bool
fits_element (form.Outlet o) = false
fits_element (form.Context e) = false
fits_element (form.Variable k) = false
fits_element _ = true

abbrev pub is_reference_form : AttrForm → Bool
is_reference_form form.Reference = true
is_reference_form _ = false

abbrev pub is_let_form : AttrForm → Bool
is_let_form (form.Variable k) = true
is_let_form _ = false

-- `ng-template` may have `let-` attributes and one reference.
abbrev pub template_breaks : Name → Bool → List TAttr → List Refusal
template_breaks tag referred [] = []
template_breaks tag referred (a ∷ attrs) =
    broken (not (is_let_form a.form || (is_reference_form a.form && not referred))) rule.N25 a.place tag
    ++ template_breaks tag (referred || is_reference_form a.form) attrs

abbrev pub is_allowed : Name → TAttr → Bool
is_allowed tag a = if is_content tag then is_select a.name a.form else (if is_container tag then fits_container a.form else fits_element a.form)

abbrev pub allowed_breaks : Name → List TAttr → List Refusal
allowed_breaks tag attrs =
    if is_template tag then template_breaks tag false attrs
    else flat_map (λ a. broken (not (is_allowed tag a)) rule.N25 a.place tag) attrs

-- An element that these components match.

abbrev pub element_breaks : List Component → Place → Name → List TAttr → List Refusal
element_breaks hosts p tag attrs =
    ((((attr_repeats (host_of hosts) attrs ++ host_breaks p tag hosts) ++ input_breaks (host_of hosts) attrs)
    ++ required_breaks p (host_of hosts) attrs) ++ output_breaks (host_of hosts) attrs) ++ allowed_breaks tag attrs
