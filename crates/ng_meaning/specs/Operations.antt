-- The live nodes of a tree, operations on live nodes, and which lists of operations are frugal.
use Rattle.std.specs.Prelude.{◌≡◌, ◌⊎◌, ℕ, suc, ◌≤◌, Bool, true, false, not, nat_eq, if◌then◌else◌, List, [], ◌∷◌, ◌++◌, map, length, reverse, Option, Some, None, bytes_eq, is_some, filter, option_map, unwrap_or}
use Rattle.std.specs.List.{list_any}
use Rattle.ng_ast.specs.declared.App.{App}
use Rattle.ng_tree.specs.declared.NodeId.{NodeId}
use Rattle.ng_tree.specs.declared.NodeId.TheVariants as id
use Rattle.ng_tree.specs.declared.Step.TheVariants as step
use Rattle.ng_turns.specs.declared.Op.{Op}
use Rattle.ng_turns.specs.declared.Op.TheVariants as op
use Rattle.ng_meaning.specs.Lists.{Text, look, change_at}
use Rattle.ng_meaning.specs.Declared.{root_component}
use Rattle.ng_meaning.specs.Template.{Form, Element, Host, TextNode, node_at}
use Rattle.ng_meaning.specs.Places.{Trail, Outline, Outlines, entered, outlines}
use Rattle.ng_meaning.specs.Tree.{NodeValue, Tree, view_at, value_of}
use Rattle.ng_meaning.specs.Attributes.{Attributes}
use Rattle.ng_meaning.specs.Page.{text_in, element_list, host_list, Drawing, Handed, handed_to, together, draw_nodes, draw, draw_root, root_tag}

-- What a node is: an element or a host, with its tag and its attributes, in the order that they have from its making, and absent where they aren't set; or
-- a text.
pub data Made : Type 0 where
  MadeElement : Text → Attributes → Made
  MadeText : Text → Made

-- a node, with what stands in it, in order
pub record PageNode (K : Type 0) : Type 0 where
  pub what : Made
  pub children : List K

-- ---- the live nodes of a tree

-- the nodes that stand side by side on a page, by their identities
abbrev pub identities : Drawing NodeId
identities = record { element = λ i tag attrs inner. i ∷ []; host = λ i tag attrs inner. i ∷ []; text = λ i t. i ∷ []; outlet = λ p. [] }

module _ (app : App) (tree : Tree) where
  -- the nodes that a view shows, where its instance's slots show these
  abbrev pub in_view : Outlines → Handed NodeId → List NodeId
  in_view = draw app tree identities 64

  -- the nodes that the slots of the instance on a host show
  abbrev pub content_of : Outline → Outlines → Handed NodeId → Form → Handed NodeId
  content_of o outer handed (Host c tag attrs nodes) = handed_to app c (draw_nodes app tree identities in_view o outer handed nodes)
  content_of o outer handed _ = λ k. []

  -- the same for the host with a number of a view
  abbrev pub content_at : ℕ → Outlines → Handed NodeId → Handed NodeId
  content_at n [] handed = λ k. []
  content_at n (o ∷ outer) handed = elim (node_at n o.nodes) [ None ↦ λ k. [] | Some q ↦ content_of o outer handed q.form ]

  -- the nodes that the slots of the instance show whose template has a view
  abbrev pub handed_at : Trail → Handed NodeId
  handed_at [] = λ k. []
  handed_at (step.Child n ∷ p) = content_at n (outlines app p) (handed_at p)
  handed_at (s ∷ p) = handed_at p

  -- what stands in an element or a host, be it on the page or not
  abbrev pub children_of : Outline → Outlines → ℕ → Form → List NodeId
  children_of o outer n (Element tag attrs nodes) = together (draw_nodes app tree identities in_view o outer (handed_at o.path) nodes)
  children_of o outer n (Host c tag attrs nodes) = in_view (entered app (step.Child n) (o ∷ outer)) (content_of o outer (handed_at o.path) (Host c tag attrs nodes))
  children_of o outer n _ = []

  -- what a node is by what its view evaluated for it; other nodes than elements, hosts and texts aren't live nodes
  abbrev pub made_of : NodeValue → Form → Option Made
  made_of value (Element tag attrs nodes) = Some (MadeElement tag (element_list attrs value))
  made_of value (Host c tag attrs nodes) = Some (MadeElement tag (host_list c attrs value))
  made_of value (TextNode ps) = Some (MadeText (text_in value))
  made_of value _ = None

  -- a node with a number of a live view
  abbrev pub view_node : Outline → Outlines → ℕ → Form → Option (PageNode NodeId)
  view_node o outer n f = option_map (λ m. record { what = m; children = children_of o outer n f }) (made_of (value_of (view_at o.path tree.views) n) f)

  -- the node with a number of a view, where the view is live and has it
  abbrev pub node_in : ℕ → Outlines → Option (PageNode NodeId)
  node_in n [] = None
  node_in n (o ∷ outer) =
      if is_some (view_at o.path tree.views) then elim (node_at n o.nodes) [ None ↦ None | Some q ↦ view_node o outer n q.form ] else None

  -- The live node of an identity: an element, a host or a text of a live view, or the root's host, where there was a pass.
  unfoldable pub live_node : NodeId → Option (PageNode NodeId)
  live_node id.Root =
      if is_some (view_at [] tree.views) then Some (record { what = MadeElement (root_tag (root_component app)) []; children = draw_root app tree identities }) else None
  live_node (id.At p n) = node_in n (outlines app (reverse p))

-- ---- operations

-- live nodes, by what stands under each serial number
abbrev pub Nodes : Type 0
Nodes = ℕ → Option (PageNode ℕ)

-- a node without one of its children
abbrev pub without : ℕ → PageNode ℕ → PageNode ℕ
without s n = record n { children = filter (λ c. not (nat_eq s c)) n.children }

-- a node taken off its element
abbrev pub taken_off : ℕ → Nodes → Nodes
taken_off s nodes t = option_map (without s) (nodes t)

-- a number put before another one, or at the end
abbrev pub put_before : ℕ → Option ℕ → List ℕ → List ℕ
put_before s None cs = cs ++ s ∷ []
put_before s (Some b) [] = s ∷ []
put_before s (Some b) (c ∷ cs) = if nat_eq b c then s ∷ c ∷ cs else c ∷ put_before s (Some b) cs

-- the node under a serial number changed, if there is one
abbrev pub changed_at : ℕ → (PageNode ℕ → PageNode ℕ) → Nodes → Nodes
changed_at s f nodes t = if nat_eq s t then option_map f (nodes t) else nodes t

-- what stands under a serial number from now on
abbrev pub put_at : ℕ → Option (PageNode ℕ) → Nodes → Nodes
put_at s d nodes t = if nat_eq s t then d else nodes t

-- an attribute set, or taken away, in its place
abbrev pub with_value : Text → Option Text → Made → Made
with_value name w (MadeElement tag attrs) = MadeElement tag (change_at (bytes_eq name) (λ _. w) attrs)
with_value name w m = m

-- another text
abbrev pub with_text : Text → Made → Made
with_text t (MadeText u) = MadeText t
with_text t m = m

-- the names of an element's attributes, in their order
abbrev pub attribute_names : Option (PageNode ℕ) → List Text
attribute_names None = []
attribute_names (Some d) = elim d.what [ MadeElement tag attrs ↦ map (λ a. a.0) attrs | MadeText t ↦ [] ]

-- What an operation does to live nodes. The names of an element's attributes, and their order, are fixed at its making.
abbrev pub apply : (ℕ → List Text) → Op → Nodes → Nodes
apply names (op.MakeElement s tag) nodes = put_at s (Some (record { what = MadeElement tag (map (λ a. (a, None)) (names s)); children = [] })) nodes
apply names (op.MakeText s) nodes = put_at s (Some (record { what = MadeText []; children = [] })) nodes
apply names (op.SetAttribute s name w) nodes = changed_at s (λ d. record d { what = with_value name (Some w) d.what }) nodes
apply names (op.ClearAttribute s name) nodes = changed_at s (λ d. record d { what = with_value name None d.what }) nodes
apply names (op.SetText s t) nodes = changed_at s (λ d. record d { what = with_text t d.what }) nodes
apply names (op.Place s p b) nodes = changed_at p (λ d. record d { children = put_before s b d.children }) (taken_off s nodes)
apply names (op.Unplace s) nodes = taken_off s nodes
apply names (op.End s) nodes = put_at s None (taken_off s nodes)

-- operations one after another
abbrev pub apply_all : (ℕ → List Text) → List Op → Nodes → Nodes
apply_all names [] nodes = nodes
apply_all names (o ∷ ops) nodes = apply_all names ops (apply names o nodes)

-- ---- frugal lists

-- the kinds of operation on the node with a serial number
abbrev pub makes : ℕ → Op → Bool
makes s (op.MakeElement t tag) = nat_eq s t
makes s (op.MakeText t) = nat_eq s t
makes s _ = false

abbrev pub ends : ℕ → Op → Bool
ends s (op.End t) = nat_eq s t
ends s _ = false

abbrev pub sets_attribute : ℕ → Text → Op → Bool
sets_attribute s name (op.SetAttribute t other w) = if nat_eq s t then bytes_eq name other else false
sets_attribute s name (op.ClearAttribute t other) = if nat_eq s t then bytes_eq name other else false
sets_attribute s name _ = false

abbrev pub sets_text : ℕ → Op → Bool
sets_text s (op.SetText t text) = nat_eq s t
sets_text s _ = false

abbrev pub moves : ℕ → Op → Bool
moves s (op.Place t p b) = nat_eq s t
moves s (op.Unplace t) = nat_eq s t
moves s _ = false

-- how many operations of a list are of a kind
abbrev pub times : (Op → Bool) → List Op → ℕ
times is ops = length (filter is ops)

-- just once where something is so, and else never
abbrev pub once_if : Bool → ℕ
once_if b = if b then 1 else 0

-- the value of an attribute, where it is set
abbrev pub attribute_of : Text → Option (PageNode ℕ) → Option Text
attribute_of name None = None
attribute_of name (Some d) = elim d.what [ MadeElement tag attrs ↦ unwrap_or (look name attrs) None | MadeText t ↦ None ]

-- the text of a text
abbrev pub text_of : Option (PageNode ℕ) → Text
text_of None = []
text_of (Some d) = elim d.what [ MadeElement tag attrs ↦ [] | MadeText t ↦ t ]

-- whether two values of an attribute are one
abbrev pub same_attribute : Option Text → Option Text → Bool
same_attribute None None = true
same_attribute (Some t) (Some u) = bytes_eq t u
same_attribute _ _ = false

-- whether a node is live before a pass, and after it
abbrev pub is_new : Option (PageNode ℕ) → Option (PageNode ℕ) → Bool
is_new None (Some d) = true
is_new _ _ = false

abbrev pub has_ended : Option (PageNode ℕ) → Option (PageNode ℕ) → Bool
has_ended (Some d) None = true
has_ended _ _ = false

abbrev pub survives : Option (PageNode ℕ) → Option (PageNode ℕ) → Bool
survives (Some d) (Some e) = true
survives _ _ = false

-- the children of a node that are its children in other nodes too
abbrev pub children_in : Option (PageNode ℕ) → List ℕ
children_in None = []
children_in (Some d) = d.children

-- whether a node is a child of another one
abbrev pub is_child : Nodes → ℕ → ℕ → Bool
is_child nodes p s = list_any (nat_eq s) (children_in (nodes p))

-- the children of a node that it has in other nodes too
abbrev pub surviving : Nodes → Nodes → ℕ → List ℕ
surviving nodes others p = filter (is_child others p) (children_in (nodes p))

-- A node has another parent than before, or none: some node was its parent and isn't, or is and wasn't.
abbrev pub HasOtherParent : Nodes → Nodes → ℕ → Type 0
HasOtherParent old new s = (p : ℕ) × (is_child old p s ≡ not (is_child new p s))

-- a node has the same parent, whose children that it had before and has now stand in another order
abbrev pub HasOtherOrder : Nodes → Nodes → ℕ → Type 0
HasOtherOrder old new s = (p : ℕ) × (is_child old p s ≡ true) × (is_child new p s ≡ true) × (surviving old new p ≡ surviving new old p → ⊥)

-- Operations lead from old live nodes to new ones, and are frugal. Just the new nodes are made, and just those that aren't there any more end, once each. An
-- attribute or a text is set just where it differs, once; a new node differs from an empty one. A node is placed or taken off at most once, and one
-- that was there and stays only where its parent changed, or the order of those children of its parent that stay.
pub record IsFrugal (old : Nodes) (ops : List Op) (new : Nodes) : Type 0 where
  pub leads : (s : ℕ) → apply_all (λ t. attribute_names (new t)) ops old s ≡ new s
  pub made : (s : ℕ) → times (makes s) ops ≡ once_if (is_new (old s) (new s))
  pub ended : (s : ℕ) → times (ends s) ops ≡ once_if (has_ended (old s) (new s))
  pub attributes : (s : ℕ) (name : Text)
      → times (sets_attribute s name) ops ≡ once_if (if is_some (new s) then not (same_attribute (attribute_of name (old s)) (attribute_of name (new s))) else false)
  pub texts : (s : ℕ) → times (sets_text s) ops ≡ once_if (if is_some (new s) then not (bytes_eq (text_of (old s)) (text_of (new s))) else false)
  pub moved : (s : ℕ) → times (moves s) ops ≤ 1
  pub needed : (s : ℕ) → survives (old s) (new s) ≡ true → 1 ≤ times (moves s) ops → HasOtherParent old new s ⊎ HasOtherOrder old new s

-- ---- serial numbers

-- the serial number of the node that an operation makes
abbrev pub made_serial : Op → Option ℕ
made_serial (op.MakeElement s tag) = Some s
made_serial (op.MakeText s) = Some s
made_serial _ = None

-- the nodes that operations make have rising serial numbers, of which none was used before a first one
abbrev pub RiseFrom : ℕ → List Op → Type 0
RiseFrom first [] = Unit {0}
RiseFrom first (o ∷ ops) = elim (made_serial o) [ None ↦ RiseFrom first ops | Some s ↦ (first ≤ s) × RiseFrom (suc s) ops ]

-- the first serial number that isn't used after operations
abbrev pub after_serials : ℕ → List Op → ℕ
after_serials first [] = first
after_serials first (o ∷ ops) = elim (made_serial o) [ None ↦ after_serials first ops | Some s ↦ after_serials (suc s) ops ]

-- Live nodes as an engine keeps them: what stands under each serial number, the identity that it has, and the first serial number that was never used.
pub record Numbered : Type 0 where
  pub nodes : Nodes
  pub identity : ℕ → Option NodeId
  pub unused : ℕ

-- before the first pass
abbrev pub nothing_numbered : Numbered
nothing_numbered = record { nodes = λ s. None; identity = λ s. None; unused = 0 }

-- Numbered nodes stand for the live nodes of a tree: each node under a serial number is the live node of its identity, with its children; each live node
-- has one serial number, and the root's host has 0.
pub record StandFor (app : App) (tree : Tree) (d : Numbered) : Type 0 where
  pub each : (s : ℕ) (i : NodeId) → d.identity s ≡ Some i
      → (n : PageNode ℕ) × (m : PageNode NodeId) × (d.nodes s ≡ Some n) × (live_node app tree i ≡ Some m) × (n.what ≡ m.what) × (map d.identity n.children ≡ map Some m.children)
  pub others : (s : ℕ) → d.identity s ≡ None → d.nodes s ≡ None
  pub all : (i : NodeId) (m : PageNode NodeId) → live_node app tree i ≡ Some m → (s : ℕ) × (d.identity s ≡ Some i)
  pub once : (s t : ℕ) (i : NodeId) → d.identity s ≡ Some i → d.identity t ≡ Some i → s ≡ t
  pub root : (m : PageNode NodeId) → live_node app tree id.Root ≡ Some m → d.identity 0 ≡ Some id.Root

-- The operations of a pass: they are frugal, a node whose identity stays keeps its serial number, and serial numbers rise and are never used again.
pub record AreOps (app : App) (tree : Tree) (old : Numbered) (ops : List Op) (new : Numbered) : Type 0 where
  pub stands : StandFor app tree new
  pub frugal : IsFrugal old.nodes ops new.nodes
  pub kept : (s : ℕ) (i : NodeId) (m : PageNode NodeId) → old.identity s ≡ Some i → live_node app tree i ≡ Some m → new.identity s ≡ Some i
  pub rise : RiseFrom old.unused ops
  pub unused : new.unused ≡ after_serials old.unused ops
