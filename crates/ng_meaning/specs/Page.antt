-- The page that a tree shows.
use Rattle.std.specs.Prelude.{ℕ, zero, suc, not, if◌then◌else◌, List, [], ◌∷◌, ◌++◌, Option, Some, None, filter, unwrap_or}
use Rattle.std.specs.List.{flat_map}
use Rattle.ng_values.specs.declared.value.Value.{Value}
use Rattle.ng_ast.specs.declared.App.{App}
use Rattle.ng_ast.specs.declared.Component.{Component}
use Rattle.ng_ast.specs.declared.One.{One}
use Rattle.ng_ast.specs.declared.TAttr.{TAttr}
use Rattle.ng_tree.specs.declared.NodeId.{NodeId}
use Rattle.ng_tree.specs.declared.NodeId.TheVariants as id
use Rattle.ng_tree.specs.declared.PNode.{PNode}
use Rattle.ng_tree.specs.declared.PNode.TheVariants as page_node
use Rattle.ng_tree.specs.declared.Step.TheVariants as step
use Rattle.ng_meaning.specs.Lists.{Text, first}
use Rattle.ng_meaning.specs.Declared.{root_component}
use Rattle.ng_meaning.specs.Template.{Form, Element, Host, NgContent, NgContainer, TextNode, Nodes, no_nodes, node}
use Rattle.ng_meaning.specs.Places.{Trail, Outline, Outlines, node_id, entered, outlines}
use Rattle.ng_meaning.specs.Projection.{slot_of, shown_slot, is_number}
use Rattle.ng_meaning.specs.Tree.{NodeValue, BoundValues, TextValue, Tree, view_at, value_of}
use Rattle.ng_meaning.specs.Bindings.{views_shown}
use Rattle.ng_meaning.specs.Passes.{is_bound_input}
use Rattle.ng_meaning.specs.Attributes.{Attributes, attribute_list, printed}

-- the bound values of an element
abbrev pub bound_in : NodeValue → List (TAttr × Value)
bound_in (BoundValues bs) = bs
bound_in _ = []

-- the text of a text node
abbrev pub text_in : NodeValue → Text
text_in (TextValue t) = t
text_in _ = []

-- the attribute list of an element
abbrev pub element_list : List TAttr → NodeValue → Attributes
element_list attrs value = attribute_list attrs (bound_in value)

-- the attribute list of a host, which no binding of an input has part in
abbrev pub host_list : Component → List TAttr → NodeValue → Attributes
host_list c attrs value = attribute_list attrs (filter (λ b. not (is_bound_input c.members b.0)) (bound_in value))

-- the attributes that an element shows
abbrev pub element_attributes : List TAttr → NodeValue → List (Text × Text)
element_attributes attrs value = printed (element_list attrs value)

-- the attributes that a host shows
abbrev pub host_attributes : Component → List TAttr → NodeValue → List (Text × Text)
host_attributes c attrs value = printed (host_list c attrs value)

-- What is made of the nodes that a page has, in the order of the page: of an element or a host, by its identity, its tag, its attributes and what is
-- made of what stands in it; of a text; and of a view that an outlet shows, by its path.
pub record Drawing (A : Type 0) : Type 0 where
  pub element : NodeId → Text → List (Text × Text) → List A → List A
  pub host : NodeId → Text → List (Text × Text) → List A → List A
  pub text : NodeId → Text → List A
  pub outlet : Trail → List A

-- what an instance's slots show, by their numbers
abbrev pub Handed : Type 0 → Type 0
Handed A = ℕ → List A

-- what is made of what stands in a slot of a component, of content nodes and what is made of each
abbrev pub handed_to : {A : Type 0} → App → Component → List (Form × List A) → Handed A
handed_to app c shown k = flat_map (λ q. if is_number k (slot_of app c q.0) then q.1 else []) shown

-- what is made of nodes side by side
abbrev pub together : {A : Type 0} → List (Form × List A) → List A
together = flat_map (λ q. q.1)

module _ {A : Type 0} (app : App) (tree : Tree) (d : Drawing A) where
  -- Given what is made of a view, where its instance's slots show something.
  module _ (inside : Outlines → Handed A → List A) where
    -- the views that a node shows
    abbrev pub draw_views : Outline → Outlines → Handed A → ℕ → Form → List A
    draw_views o outer handed n f =
        flat_map (λ b. inside (entered app b.0 (o ∷ outer)) handed) (views_shown app o outer n f (value_of (view_at o.path tree.views) n))

    -- the view of an outlet, which comes after the inner nodes of its `ng-container`
    abbrev pub draw_outlets : Outline → Outlines → ℕ → Form → List A
    draw_outlets o outer n f = flat_map (λ b. d.outlet (b.0 ∷ o.path)) (views_shown app o outer n f (value_of (view_at o.path tree.views) n))

    -- Nodes of a view, each with what is made of it. `ng-content` stands for what its slot is given, or for its fallback; blocks and containers for
    -- what is in them. Content of a host is made where it is declared, and handed to the host's slots.
    abbrev mutual
      pub draw_nodes : Outline → Outlines → Handed A → Nodes → List (Form × List A)
      draw_nodes o outer handed no_nodes = []
      draw_nodes o outer handed (node n p f rest) = (f, draw_form o outer handed n f) ∷ draw_nodes o outer handed rest

      -- one node
      pub draw_form : Outline → Outlines → Handed A → ℕ → Form → List A
      draw_form o outer handed n (Element tag attrs nodes) =
          d.element (node_id o.path n) tag (element_attributes attrs (value_of (view_at o.path tree.views) n)) (together (draw_nodes o outer handed nodes))
      draw_form o outer handed n (Host c tag attrs nodes) =
          d.host (node_id o.path n) tag (host_attributes c attrs (value_of (view_at o.path tree.views) n))
          (inside (entered app (step.Child n) (o ∷ outer)) (handed_to app c (draw_nodes o outer handed nodes)))
      draw_form o outer handed n (TextNode ps) = d.text (node_id o.path n) (text_in (value_of (view_at o.path tree.views) n))
      draw_form o outer handed n (NgContent attrs nodes) = handed (shown_slot app o.component attrs) ++ draw_views o outer handed n (NgContent attrs nodes)
      draw_form o outer handed n (NgContainer attrs nodes) =
          draw_outlets o outer n (NgContainer attrs nodes) ++ together (draw_nodes o outer handed nodes) ++ draw_views o outer handed n (NgContainer attrs nodes)
      draw_form o outer handed n f = draw_views o outer handed n f

  -- what is made of a view, of which the paths of those inside have less than n steps more
  abbrev pub draw : ℕ → Outlines → Handed A → List A
  draw zero os handed = []
  draw (suc n) [] handed = []
  draw (suc n) (o ∷ outer) handed = together (draw_nodes (draw n) o outer handed o.nodes)

  -- what is made of all that stands in the root's host; a path has at most 63 steps
  abbrev pub draw_root : List A
  draw_root = draw 64 (outlines app []) (λ k. [])

-- the page nodes themselves
abbrev pub page_nodes : Drawing PNode
page_nodes = record {
  element = λ i tag attrs kids. page_node.Element i tag attrs kids ∷ [];
  host = λ i tag attrs kids. page_node.Host i tag attrs kids ∷ [];
  text = λ i t. page_node.Text i t ∷ [];
  outlet = λ p. [];
}

-- the views that outlets show, by their paths
abbrev pub outlet_views : Drawing Trail
outlet_views = record { element = λ i tag attrs inner. inner; host = λ i tag attrs inner. inner; text = λ i t. []; outlet = λ p. p ∷ [] }

-- the tag of the first alternative of a selector
abbrev pub first_tag : Option One → Text
first_tag None = []
first_tag (Some one) = unwrap_or one.tag []

-- the tag of the root's host
abbrev pub root_tag : Option Component → Text
root_tag None = []
root_tag (Some c) = first_tag (first c.selector.list)

-- The page: the root's host, without attributes, and in it what the root instance's view shows.
unfoldable pub page : App → Tree → PNode
page app tree = page_node.Host id.Root (root_tag (root_component app)) [] (draw_root app tree page_nodes)

-- the views in outlets that the page has, in the order in which their outlets are met in it
unfoldable pub outlets_met : App → Tree → List Trail
outlets_met app tree = draw_root app tree outlet_views
