-- The forms of an application that can't be run yet, each with its place: that of the smallest declaration, member, node of a template,
-- attribute or interpolation that holds it. What can be run is an application of the first form (`ng_semantics`, `First`).
use Rattle.std.specs.Prelude.{Bool, true, false, not, ◌&&◌, ◌||◌, nat_le, List, [], ◌∷◌, ◌++◌, map, Option, Some, None}
use Rattle.std.specs.List.{flat_map}
use Rattle.ng_ast.specs.declared.App.{App}
use Rattle.ng_ast.specs.declared.Place.{Place}
use Rattle.ng_ast.specs.declared.Decl.{Decl}
use Rattle.ng_ast.specs.declared.Decl.TheVariants as decl
use Rattle.ng_ast.specs.declared.Component.{Component}
use Rattle.ng_ast.specs.declared.One.{One}
use Rattle.ng_ast.specs.declared.Member.{Member}
use Rattle.ng_ast.specs.declared.Expr.{out-Expr}
use Rattle.ng_ast.specs.declared.Piece.{Piece}
use Rattle.ng_ast.specs.declared.Piece.TheVariants as piece
use Rattle.ng_ast.specs.declared.TAttr.{TAttr}
use Rattle.ng_ast.specs.declared.TNode.{TNode, out-TNode}
use Rattle.ng_ast.specs.declared.TNode.TheOpen.{TNode-F}
use Rattle.ng_ast.specs.declared.Branch.{Branch}
use Rattle.ng_ast.specs.Nodes.{all_nodes}
use Rattle.ng_semantics.specs.Text.{Text}
use Rattle.ng_semantics.specs.First.{is_root_tag, is_element_tag, is_whole, names_of, is_field, is_click, bytes_in, is_literal}
use Rattle.ng_unbuilt.specs.Least.{when}

-- a member that is no field with a whole number
abbrev pub member_forms : Member → List Place
member_forms m = when (not (is_whole m.kind)) m.place

-- Of the attributes of an element the first may be a click on fields of these names.
abbrev pub attribute_forms : List Text → List TAttr → List Place
attribute_forms names [] = []
attribute_forms names (a ∷ more) = when (not (is_click names a a.form)) a.place ++ map (λ b. b.place) more

-- an interpolation that isn't a field
abbrev pub piece_forms : List Text → Piece → List Place
piece_forms names (piece.Text t) = []
piece_forms names (piece.Value place e) = when (not (is_field names (out-Expr e))) place

-- a text that may become too long
abbrev pub is_long : List Piece → Bool
is_long pieces = not (is_literal pieces || nat_le (bytes_in pieces) 65535)

-- A node, without those inside it. Blocks and `@let`s aren't built.
abbrev pub node_forms : List Text → TNode-F TNode Branch → List Place
node_forms names (TNode-F.Element place tag attrs nodes) = when (not (is_element_tag tag)) place ++ attribute_forms names attrs
node_forms names (TNode-F.Text place pieces) = when (is_long pieces) place ++ flat_map (piece_forms names) pieces
node_forms names (TNode-F.If place branches) = place ∷ []
node_forms names (TNode-F.For place head nodes empty) = place ∷ []
node_forms names (TNode-F.Switch place value branches) = place ∷ []
node_forms names (TNode-F.Let place name value) = place ∷ []

abbrev pub template_forms : List Text → List TNode → List Place
template_forms names nodes = flat_map (λ t. node_forms names (out-TNode t)) (all_nodes nodes)

abbrev pub is_root_name : Option Text → Bool
is_root_name None = false
is_root_name (Some tag) = is_root_tag tag

-- one tag alone, which is one of a root
abbrev pub is_root : List One → Bool
is_root [] = false
is_root (o ∷ []) = is_root_name o.tag && no_parts o.parts
  where
    no_parts : {A : Type 0} → List A → Bool
    no_parts [] = true
    no_parts (p ∷ ps) = false
is_root (o ∷ p ∷ os) = false

abbrev pub component_forms : Component → List Place
component_forms c =
    when (c.onpush || not (is_root c.selector.list)) c.place ++ (flat_map member_forms c.members ++ template_forms (names_of c.members) c.template.nodes)

abbrev pub is_component : Decl → Bool
is_component (decl.Component c) = true
is_component (decl.Service s) = false
is_component (decl.Pipe p) = false
is_component (decl.Environment e) = false
is_component (decl.Token place name) = false
is_component (decl.Bootstrap place name environment) = false

-- a `bootstrap` in an environment
abbrev pub bootstrap_forms : Place → Option Text → List Place
bootstrap_forms place None = []
bootstrap_forms place (Some environment) = place ∷ []

-- Each declaration but the first component and a `bootstrap` without environment is such a form as a whole.
abbrev pub decl_forms : Bool → Decl → List Place
decl_forms false (decl.Component c) = component_forms c
decl_forms true (decl.Component c) = c.place ∷ []
decl_forms seen (decl.Service s) = s.place ∷ []
decl_forms seen (decl.Pipe p) = p.place ∷ []
decl_forms seen (decl.Environment e) = e.place ∷ []
decl_forms seen (decl.Token place name) = place ∷ []
decl_forms seen (decl.Bootstrap place name environment) = bootstrap_forms place environment

-- the forms of declarations, where a component stands before them or not
abbrev pub forms_after : Bool → List Decl → List Place
forms_after seen [] = []
forms_after seen (d ∷ ds) = decl_forms seen d ++ forms_after (seen || is_component d) ds

abbrev pub forms : App → List Place
forms app = forms_after false app.decls
