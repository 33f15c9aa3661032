-- The rules on the nodes of a template.
use Rattle.std.specs.Prelude.{Bool, true, false, not, ◌||◌, ◌&&◌, if◌then◌else◌, bytes_eq, codes, List, [], ◌∷◌, ◌++◌, Option, Some, None, is_none}
use Rattle.std.specs.List.{flat_map}
use Rattle.ng_ast.specs.declared.Place.{Place}
use Rattle.ng_ast.specs.declared.AttrForm.{AttrForm}
use Rattle.ng_ast.specs.declared.AttrForm.TheVariants as form
use Rattle.ng_ast.specs.declared.TAttr.{TAttr}
use Rattle.ng_ast.specs.declared.ForHead.{ForHead}
use Rattle.ng_ast.specs.declared.Component.{Component}
use Rattle.ng_ast.specs.declared.Decl.{Decl}
use Rattle.ng_ast.specs.declared.Branch.{Branch, fold-Branch}
use Rattle.ng_ast.specs.declared.TNode.{TNode, out-TNode, fold-TNode}
use Rattle.ng_ast.specs.declared.TNode.TheOpen.{TNode-F, Branch-F}
use Rattle.ng_ast.specs.declared.refusals.Refusal.{Refusal}
use Rattle.ng_ast.specs.declared.refusals.Rule.TheVariants as rule
use Rattle.ng_ast.specs.Inner.{optional_nodes}
use Rattle.ng_ast.specs.Nodes.{all_nodes}
use Rattle.ng_hosts.specs.Hosts.{components, hosts}
use Rattle.ng_scopes.specs.declared.names.Known.{Known}
use Rattle.ng_scopes.specs.declared.names.Meaning.{Meaning}
use Rattle.ng_scopes.specs.declared.names.Meaning.TheVariants as means
use Rattle.ng_scopes.specs.Names.{variable}
use Rattle.ng_scopes.specs.Templates.{is_template, is_content, opens_view, element_names, for_names, view_names}
use Rattle.ng_parts.specs.declared.site.Site.{Site}
use Rattle.ng_parts.specs.Sites.{Name, site, when, repeats, is_among}
use Rattle.ng_breaks.specs.Least.{broken, of_rule}
use Rattle.ng_template_rules.specs.ElementRules.{element_breaks}

-- N02: a reference, or a variable or `@let`, repeats a name of its view

abbrev pub is_reference : Meaning → Bool
is_reference means.Reference = true
is_reference means.Template = true
is_reference _ = false

abbrev pub references : List Known → List Site
references = flat_map (λ k. when (is_reference k.meaning) (site k.place k.name))

abbrev pub variables : List Known → List Site
variables = flat_map (λ k. when (not (is_reference k.meaning)) (site k.place k.name))

abbrev pub view_breaks : List Known → List Refusal
view_breaks names = of_rule rule.N02 (repeats (references names)) ++ of_rule rule.N02 (repeats (variables names))

abbrev pub branch_breaks : Branch → List Refusal
branch_breaks b = view_breaks (view_names (variable b.place b.name) b.nodes)

abbrev pub optional_breaks : Option Branch → List Refusal
optional_breaks None = []
optional_breaks (Some b) = branch_breaks b

-- N18: `ng-content` in a `@for` or an `ng-template`

abbrev pub content_layer : TNode-F TNode Branch → List Refusal
content_layer (TNode-F.Element p tag attrs ts) = broken (is_content tag) rule.N18 p tag
content_layer (TNode-F.Text p pieces) = []
content_layer (TNode-F.If p bs) = []
content_layer (TNode-F.For p head ts empty) = []
content_layer (TNode-F.Switch p e bs) = []
content_layer (TNode-F.Let p n e) = []

-- the contents among some nodes
unfoldable pub content_breaks : TNode → List Refusal
content_breaks t = content_layer (out-TNode t)

-- N27: a second `@default`

abbrev pub default_breaks : Name → Bool → List Branch → List Refusal
default_breaks owner met [] = []
default_breaks owner met (b ∷ bs) = broken (is_none b.test && met) rule.N27 b.place owner ++ default_breaks owner (met || is_none b.test) bs

-- A node of a component with this name, among these components; N28 is a `@for` without `track`.

-- the view inside an element
abbrev pub inner_view_breaks : Name → List TAttr → List TNode → List Refusal
inner_view_breaks tag attrs ts = if opens_view tag then view_breaks (view_names (element_names tag attrs) ts) else []

-- the contents inside an element
abbrev pub inner_content_breaks : Name → List TNode → List Refusal
inner_content_breaks tag ts = if is_template tag then flat_map content_breaks (all_nodes ts) else []

abbrev pub for_breaks : Name → Place → ForHead → List TNode → Option Branch → List Refusal
for_breaks owner p head ts empty =
    ((broken (is_none head.track) rule.N28 p owner ++ view_breaks (view_names (for_names p head) ts)) ++ optional_breaks empty)
    ++ flat_map content_breaks (all_nodes ts ++ all_nodes (optional_nodes empty))

abbrev pub node_layer : List Component → Name → TNode-F TNode Branch → List Refusal
node_layer cs owner (TNode-F.Element p tag attrs ts) = (element_breaks (hosts cs tag attrs) p tag attrs ++ inner_view_breaks tag attrs ts) ++ inner_content_breaks tag ts
node_layer cs owner (TNode-F.Text p pieces) = []
node_layer cs owner (TNode-F.If p bs) = flat_map branch_breaks bs
node_layer cs owner (TNode-F.For p head ts empty) = for_breaks owner p head ts empty
node_layer cs owner (TNode-F.Switch p e bs) = flat_map branch_breaks bs ++ default_breaks owner false bs
node_layer cs owner (TNode-F.Let p n e) = []

unfoldable pub node_breaks : List Component → Name → TNode → List Refusal
node_breaks cs owner t = node_layer cs owner (out-TNode t)

-- N17: two `ng-content`s of one slot that don't stand in different branches of one `@if` or `@switch`

abbrev pub selects : Name → AttrForm → List Name
selects n (form.Static v) = if bytes_eq n (codes "select") then v ∷ [] else []
selects n _ = []

-- the slot of these `select` texts: an absent or empty one is `*`
abbrev pub slot_name : List Name → Name
slot_name [] = codes "*"
slot_name ([] ∷ vs) = codes "*"
slot_name ((b ∷ v) ∷ vs) = b ∷ v

-- the slots of an element: one for an `ng-content`
abbrev pub own_slots : Name → List TAttr → List Name
own_slots tag attrs = if is_content tag then slot_name (flat_map (λ a. selects a.name a.form) attrs) ∷ [] else []

-- What a node gives: its slots, and the breaks where these slots were seen before it.
pub record Slotted : Type 0 where
  pub slots : List Name
  pub twice : List Name → List Refusal

abbrev pub all_slots : List Slotted → List Name
all_slots = flat_map (λ s. s.slots)

-- nodes side by side: each sees the slots of those before it
abbrev pub all_twice : List Name → List Slotted → List Refusal
all_twice seen [] = []
all_twice seen (s ∷ ss) = s.twice seen ++ all_twice (seen ++ s.slots) ss

-- the branches of one `@if` or `@switch`: none sees the slots of another
abbrev pub apart : List Slotted → Slotted
apart bs = record { slots = all_slots bs; twice = λ seen. flat_map (λ b. b.twice seen) bs }

abbrev pub optional_slotted : Option Slotted → List Slotted
optional_slotted None = []
optional_slotted (Some s) = s ∷ []

abbrev pub together : List Slotted → Slotted
together ss = record { slots = all_slots ss; twice = λ seen. all_twice seen ss }

abbrev pub slot_breaks : Place → List Name → List Name → List Refusal
slot_breaks p seen = flat_map (λ n. broken (is_among seen n) rule.N17 p n)

abbrev pub slotted_step : TNode-F Slotted Slotted → Slotted
slotted_step (TNode-F.Element p tag attrs ss) = record {
  slots = own_slots tag attrs ++ all_slots ss;
  twice = λ seen. slot_breaks p seen (own_slots tag attrs) ++ all_twice (seen ++ own_slots tag attrs) ss;
}
slotted_step (TNode-F.Text p pieces) = together []
slotted_step (TNode-F.If p bs) = apart bs
slotted_step (TNode-F.For p head ss empty) = together (ss ++ optional_slotted empty)
slotted_step (TNode-F.Switch p e bs) = apart bs
slotted_step (TNode-F.Let p n e) = together []

abbrev pub slotted_branch : Branch-F Slotted Slotted → Slotted
slotted_branch b = together b.nodes

abbrev pub slotted : TNode → Slotted
slotted = fold-TNode Slotted Slotted slotted_step slotted_branch

abbrev pub branch_slotted : Branch → Slotted
branch_slotted = fold-Branch Slotted Slotted slotted_step slotted_branch

-- the slots of a node
unfoldable pub slots : TNode → List Name
slots t = (slotted t).slots

-- the breaks of a node, where these slots were seen
unfoldable pub twice : List Name → TNode → List Refusal
twice seen t = (slotted t).twice seen

abbrev pub twice_in : List Name → List TNode → List Refusal
twice_in seen [] = []
twice_in seen (t ∷ ts) = twice seen t ++ twice_in (seen ++ slots t) ts

-- A whole template of a component with this name.

abbrev pub template_breaks : List Component → Name → List TNode → List Refusal
template_breaks cs owner ts =
    (view_breaks (view_names [] ts) ++ flat_map (node_breaks cs owner) (all_nodes ts)) ++ twice_in [] ts

-- The templates of an application.

-- the breaks of a component's template, among these components
abbrev pub component_breaks : List Component → Component → List Refusal
component_breaks cs c = template_breaks cs c.name c.template.nodes

-- the breaks of all templates
abbrev pub templates_breaks : List Decl → List Refusal
templates_breaks ds = flat_map (component_breaks (components ds)) (components ds)
