-- Which element an event names, the way that the event goes from there, and the listeners on it.
use Rattle.std.specs.Prelude.{ℕ, zero, suc, Bool, false, not, if◌then◌else◌, List, [], ◌∷◌, ◌++◌, map, reverse, take, Option, Some, None, codes, bytes_eq, find, slice_get, option_and_then}
use Rattle.std.specs.List.{filter_map, flat_map}
use Rattle.ng_ast.specs.declared.App.{App}
use Rattle.ng_ast.specs.declared.AttrForm.{AttrForm}
use Rattle.ng_ast.specs.declared.AttrForm.TheVariants as form
use Rattle.ng_ast.specs.declared.TAttr.{TAttr}
use Rattle.ng_tree.specs.declared.NodeId.{NodeId}
use Rattle.ng_tree.specs.declared.NodeId.TheVariants as id
use Rattle.ng_tree.specs.declared.PNode.{PNode, out-PNode, size-PNode}
use Rattle.ng_tree.specs.declared.PNode.TheOpen.{PNode-F}
use Rattle.ng_meaning.specs.Levels.{whole}
use Rattle.ng_meaning.specs.Lists.{Text, has_text, first}
use Rattle.ng_meaning.specs.Declared.{is_output}
use Rattle.ng_meaning.specs.Template.{Form, Element, Host, node_at}
use Rattle.ng_meaning.specs.Places.{Trail, Outlines, outlines}

-- ---- the target, and the way

-- an element with its way, which goes one node further up
abbrev pub further : NodeId → Text × List NodeId → Text × List NodeId
further i e = (e.0, e.1 ++ i ∷ [])

-- one level of a page, given the elements inside a node, each with its way up to there
abbrev pub ways_layer : (PNode → List (Text × List NodeId)) → PNode-F PNode → List (Text × List NodeId)
ways_layer inner (PNode-F.Element i tag attrs kids) = (tag, i ∷ []) ∷ map (further i) (flat_map inner kids)
ways_layer inner (PNode-F.Host i tag attrs kids) = (tag, i ∷ []) ∷ map (further i) (flat_map inner kids)
ways_layer inner (PNode-F.Text i t) = []

-- the elements and hosts of a page in document order, each with its tag and its way: itself, and then its ancestors on the page up to the root's host
abbrev pub ways : PNode → List (Text × List NodeId)
ways = whole out-PNode size-PNode [] ways_layer

-- the way of an element of this tag
abbrev pub of_tag : Text → Text × List NodeId → Option (List NodeId)
of_tag tag e = if bytes_eq tag e.0 then Some e.1 else None

-- the nth item, from 1
abbrev pub nth : {A : Type 0} → ℕ → List A → Option A
nth zero found = None
nth (suc n) found = slice_get found n

-- the way of an event: it begins at the nth element of the tag on the page, if there is one
unfoldable pub event_way : PNode → Text → ℕ → Option (List NodeId)
event_way shown tag n = nth n (filter_map (of_tag tag) (ways shown))

-- the element that an event names
unfoldable pub target : PNode → Text → ℕ → Option NodeId
target shown tag n = option_and_then first (event_way shown tag n)

-- whether an event bubbles, that is goes on from its target to the ancestors
abbrev pub bubbles : Text → Bool
bubbles name = not (has_text name (codes "mouseenter" ∷ codes "mouseleave" ∷ codes "focus" ∷ codes "blur" ∷ codes "scroll" ∷ []))

-- the nodes of a way that an event of this name comes to: all of them, or the target alone
abbrev pub come_to : Text → List NodeId → List NodeId
come_to name way = if bubbles name then way else take 1 way

-- ---- listeners

-- whether an attribute listens for a name; `[(x)]` listens for `xChange`
abbrev pub listens : Text → TAttr → AttrForm → Bool
listens name a (form.Listener ss) = bytes_eq name a.name
listens name a (form.Both y) = bytes_eq name (a.name ++ codes "Change")
listens name a _ = false

-- the attribute that listens for a name
abbrev pub listener : Text → List TAttr → Option TAttr
listener name = find (λ a. listens name a a.form)

-- The attribute with which a node listens for an event. On a host a name that is an output there is no event.
abbrev pub event_listener : Text → Form → Option TAttr
event_listener name (Host c tag attrs nodes) = if is_output c.members name then None else listener name attrs
event_listener name (Element tag attrs nodes) = listener name attrs
event_listener name f = None

-- a listener of a node: the path of the view that has the node, the node's number and form, and the attribute that listens
pub record Listener : Type 0 where
  pub path : Trail
  pub number : ℕ
  pub form : Form
  pub attribute : TAttr

-- the listener that an attribute of a node is, if there is one
abbrev pub with_attribute : Trail → ℕ → Form → Option TAttr → List Listener
with_attribute p n f None = []
with_attribute p n f (Some a) = record { path = p; number = n; form = f; attribute = a } ∷ []

-- the listeners of the node with a number of a view
abbrev pub view_listeners : Text → ℕ → Outlines → List Listener
view_listeners name n [] = []
view_listeners name n (o ∷ outer) = elim (node_at n o.nodes) [ None ↦ [] | Some q ↦ with_attribute o.path n q.form (event_listener name q.form) ]

-- the listeners of a node for an event; the root's host has none
abbrev pub node_listeners : App → Text → NodeId → List Listener
node_listeners app name id.Root = []
node_listeners app name (id.At p n) = view_listeners name n (outlines app (reverse p))

-- the listeners of a way for an event, the innermost first
unfoldable pub way_listeners : App → Text → List NodeId → List Listener
way_listeners app name way = flat_map (node_listeners app name) (come_to name way)
