-- A template as the application sees it: each node with its number, and each element that is a component's host known as one.
use Rattle.std.specs.Prelude.{ℕ, zero, suc, ◌+◌, true, false, nat_eq, List, [], ◌∷◌, ◌++◌, Option, Some, None, codes, bytes_eq, find}
use Rattle.std.specs.List.{flat_map}
use Rattle.ng_ast.specs.declared.App.{App}
use Rattle.ng_ast.specs.declared.Place.{Place}
use Rattle.ng_ast.specs.declared.Expr.{Expr}
use Rattle.ng_ast.specs.declared.Piece.{Piece}
use Rattle.ng_ast.specs.declared.TAttr.{TAttr}
use Rattle.ng_ast.specs.declared.AttrForm.{AttrForm}
use Rattle.ng_ast.specs.declared.AttrForm.TheVariants as form
use Rattle.ng_ast.specs.declared.ForHead.{ForHead}
use Rattle.ng_ast.specs.declared.Component.{Component}
use Rattle.ng_ast.specs.declared.TNode.{TNode, out-TNode, size-TNode}
use Rattle.ng_ast.specs.declared.TNode.TheOpen.{TNode-F}
use Rattle.ng_ast.specs.declared.Branch.{Branch}
use Rattle.ng_ast.specs.Nodes.{count, node_count}
use Rattle.ng_meaning.specs.Levels.{whole}
use Rattle.ng_meaning.specs.Lists.{Text}
use Rattle.ng_meaning.specs.Declared.{components}
use Rattle.ng_selectors.specs.declared.Attr.{Attr}
use Rattle.ng_selectors.specs.Fits.{fits}

mutual
  -- What a node is. A host is an element that a component's selector matches. `ng-content` has its fallback inside. The last part of a `For` is its
  -- `@empty`, where it has one.
  pub data Form : Type 0 where
    Element : Text → List TAttr → Nodes → Form
    Host : Component → Text → List TAttr → Nodes → Form
    NgContent : List TAttr → Nodes → Form
    NgContainer : List TAttr → Nodes → Form
    NgTemplate : List TAttr → Nodes → Form
    TextNode : List Piece → Form
    If : Branches → Form
    For : ForHead → Nodes → Branches → Form
    Switch : Expr → Branches → Form
    Let : Text → Expr → Form

  -- nodes that stand side by side, each with its number and place
  pub data Nodes : Type 0 where
    no_nodes : Nodes
    node : ℕ → Place → Form → Nodes → Nodes

  -- branches of a block, each with its condition or case, the name after `as`, and its nodes
  pub data Branches : Type 0 where
    no_branches : Branches
    branch : Option Expr → Option Text → Nodes → Branches → Branches

-- ---- which elements are hosts

-- An attribute as selectors see it: a static one with its value; an interpolated one, a binding and a listener with the empty value.
abbrev pub seen : Text → AttrForm → List Attr
seen name (form.Static w) = record { name = name; value = w } ∷ []
seen name (form.Joined ps) = record { name = name; value = [] } ∷ []
seen name (form.Property e) = record { name = name; value = [] } ∷ []
seen name (form.Listener ss) = record { name = name; value = [] } ∷ []
seen name (form.Both y) = record { name = name; value = [] } ∷ record { name = name ++ codes "Change"; value = [] } ∷ []
seen name _ = []

-- all attributes as selectors see them
abbrev pub seen_all : List TAttr → List Attr
seen_all = flat_map (λ a. seen a.name a.form)

-- the component whose selector matches an element
abbrev pub component_on : App → Text → List TAttr → Option Component
component_on app tag attrs = find (λ c. fits c.selector tag (seen_all attrs)) (components app)

-- an element, which is a host where a component matches it
abbrev pub element_or_host : Option Component → Text → List TAttr → Nodes → Form
element_or_host None = Element
element_or_host (Some c) = Host c

-- the form of an element by its tag; the three `ng-` tags are never hosts
abbrev pub element_form : App → Text → List TAttr → Nodes → Form
element_form app tag attrs nodes = elim (bytes_eq tag (codes "ng-content")) [
  | true ↦ NgContent attrs nodes
  | false ↦ elim (bytes_eq tag (codes "ng-container")) [
    | true ↦ NgContainer attrs nodes
    | false ↦ elim (bytes_eq tag (codes "ng-template")) [ true ↦ NgTemplate attrs nodes | false ↦ element_or_host (component_on app tag attrs) tag attrs nodes ]
  ]
]

-- ---- numbers: nodes are numbered from 0 in the order of their first byte; a branch has none

-- the place of a node's first byte
abbrev pub place_of : TNode-F TNode Branch → Place
place_of (TNode-F.Element p tag attrs ts) = p
place_of (TNode-F.Text p ps) = p
place_of (TNode-F.If p bs) = p
place_of (TNode-F.For p head ts empty) = p
place_of (TNode-F.Switch p e bs) = p
place_of (TNode-F.Let p name e) = p

-- Given the form of a node inside, where it has a number.
module _ (app : App) (form_of : TNode → ℕ → Form) where
  -- nodes side by side, of which the first has this number
  abbrev pub side_by_side : ℕ → List TNode → Nodes
  side_by_side n [] = no_nodes
  side_by_side n (t ∷ ts) = node n (place_of (out-TNode t)) (form_of t n) (side_by_side (n + node_count t) ts)

  -- branches, where the first node inside has this number
  abbrev pub branches_from : ℕ → List Branch → Branches
  branches_from n [] = no_branches
  branches_from n (b ∷ bs) = branch b.test b.name (side_by_side n b.nodes) (branches_from (n + count b.nodes) bs)

  -- the `@empty` of a `@for`
  abbrev pub empty_from : ℕ → Option Branch → Branches
  empty_from n None = no_branches
  empty_from n (Some b) = branch b.test b.name (side_by_side n b.nodes) no_branches

  -- one level of a node with this number
  abbrev pub form_layer : TNode-F TNode Branch → ℕ → Form
  form_layer (TNode-F.Element p tag attrs ts) n = element_form app tag attrs (side_by_side (n + 1) ts)
  form_layer (TNode-F.Text p ps) n = TextNode ps
  form_layer (TNode-F.If p bs) n = If (branches_from (n + 1) bs)
  form_layer (TNode-F.For p head ts empty) n = For head (side_by_side (n + 1) ts) (empty_from (n + 1 + count ts) empty)
  form_layer (TNode-F.Switch p e bs) n = Switch e (branches_from (n + 1) bs)
  form_layer (TNode-F.Let p name e) n = Let name e

-- the form of a node with a number
abbrev pub form_from : App → TNode → ℕ → Form
form_from app = whole out-TNode size-TNode (λ n. TextNode []) (form_layer app)

-- nodes side by side, of which the first has this number
unfoldable pub nodes_from : App → ℕ → List TNode → Nodes
nodes_from app = side_by_side app (form_from app)

-- the nodes of a component's template
abbrev pub template_nodes : App → Component → Nodes
template_nodes app c = nodes_from app 0 c.template.nodes

-- ---- parts of templates

-- the nodes of the branch with this number, counted from 0
abbrev pub branch_nodes : Branches → ℕ → Nodes
branch_nodes no_branches k = no_nodes
branch_nodes (branch test name nodes bs) zero = nodes
branch_nodes (branch test name nodes bs) (suc k) = branch_nodes bs k

-- the name after `as` of the branch with this number
abbrev pub branch_name : Branches → ℕ → Option Text
branch_name no_branches k = None
branch_name (branch test name nodes bs) zero = name
branch_name (branch test name nodes bs) (suc k) = branch_name bs k

-- the attributes of an element
abbrev pub attributes : Form → List TAttr
attributes (Element tag attrs nodes) = attrs
attributes (Host c tag attrs nodes) = attrs
attributes (NgContent attrs nodes) = attrs
attributes (NgContainer attrs nodes) = attrs
attributes (NgTemplate attrs nodes) = attrs
attributes _ = []

-- ---- the nodes of a view

-- a node of a view, with the hosts of the view that enclose it, the innermost first
pub record Node : Type 0 where
  pub number : ℕ
  pub place : Place
  pub form : Form
  pub hosts : List (ℕ × Component)

-- All nodes of a view in template order. Content of a host is among them; what stands in a block, an `ng-template` or a fallback is in a view of its own.
abbrev mutual
  pub view_nodes : List (ℕ × Component) → Nodes → List Node
  view_nodes hosts no_nodes = []
  view_nodes hosts (node n p f rest) = record { number = n; place = p; form = f; hosts = hosts } ∷ inner_nodes hosts n f ++ view_nodes hosts rest

  -- those that stand inside a node in the same view
  pub inner_nodes : List (ℕ × Component) → ℕ → Form → List Node
  inner_nodes hosts n (Element tag attrs nodes) = view_nodes hosts nodes
  inner_nodes hosts n (Host c tag attrs nodes) = view_nodes ((n, c) ∷ hosts) nodes
  inner_nodes hosts n (NgContainer attrs nodes) = view_nodes hosts nodes
  inner_nodes hosts n _ = []

-- the nodes of a view, from its outermost ones
unfoldable pub nodes_of : Nodes → List Node
nodes_of = view_nodes []

-- the node of a view with this number
abbrev pub node_at : ℕ → Nodes → Option Node
node_at n nodes = find (λ q. nat_eq n q.number) (nodes_of nodes)
