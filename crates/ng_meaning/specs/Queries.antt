-- The live nodes of a tree in the order of the templates, what queries find among them, and the order of the report.
use Rattle.std.specs.Prelude.{ℕ, zero, suc, Bool, true, false, not, nat_eq, if◌then◌else◌, List, [], ◌∷◌, ◌++◌, map, reverse, Option, Some, None, bytes_eq, filter}
use Rattle.std.specs.List.{filter_map, flat_map, list_any}
use Rattle.ng_ast.specs.declared.App.{App}
use Rattle.ng_ast.specs.declared.Aim.{Aim}
use Rattle.ng_ast.specs.declared.Aim.TheVariants as aim
use Rattle.ng_ast.specs.declared.Component.{Component}
use Rattle.ng_ast.specs.declared.QueryKind.{QueryKind}
use Rattle.ng_ast.specs.declared.QueryKind.TheVariants as query
use Rattle.ng_ast.specs.declared.Member.{Member}
use Rattle.ng_ast.specs.declared.MemberKind.{MemberKind}
use Rattle.ng_ast.specs.declared.MemberKind.TheVariants as kind
use Rattle.ng_tree.specs.declared.NodeId.{NodeId}
use Rattle.ng_tree.specs.declared.Step.TheVariants as step
use Rattle.ng_tree.specs.declared.Site.{Site}
use Rattle.ng_tree.specs.declared.Site.TheVariants as site
use Rattle.ng_meaning.specs.Same.{same_path, same_node}
use Rattle.ng_meaning.specs.Template.{Form, Element, Host, NgContainer, NgTemplate, Nodes, no_nodes, node, attributes}
use Rattle.ng_meaning.specs.Places.{Trail, Outline, Outlines, node_id, node_site, entered, outlines}
use Rattle.ng_meaning.specs.Tree.{Tree, view_at, value_of}
use Rattle.ng_meaning.specs.Bindings.{views_shown, has_reference}
use Rattle.ng_meaning.specs.Page.{outlets_met}

-- A live element or host: the path of its view, the instance whose template has it, its number and form, and the elements and hosts of that template
-- that enclose it, the innermost first. Blocks, `ng-container`s, `ng-template`s and fallbacks enclose nothing.
pub record Live : Type 0 where
  pub view : Trail
  pub unit : Trail
  pub number : ℕ
  pub form : Form
  pub enclosing : List NodeId

-- ---- the views in outlets

-- the views in outlets that are live
abbrev pub is_outlet_view : Trail → Bool
is_outlet_view (step.Outlet n t ∷ p) = true
is_outlet_view p = false

-- the live views in outlets: those that the page has, in the order in which their outlets are met in it, and then the others, as a pass visits them
unfoldable pub outlet_order : App → Tree → List Trail
outlet_order app tree =
    let met = outlets_met app tree in met ++ filter (λ p. if is_outlet_view p then not (list_any (same_path p) met) else false) (map (λ v. v.0) tree.views)

-- the path of the second view, which for an outlet's view is the one that declares its `ng-template`
abbrev pub declared_in : Outlines → Trail → Bool
declared_in (o ∷ declaring ∷ outer) p = same_path p declaring.path
declared_in _ p = false

-- whether a view shows the `ng-template` with this number of the view at a path
abbrev pub shows_template : App → Trail → ℕ → Trail → Bool
shows_template app p t (step.Outlet n u ∷ q) = if nat_eq t u then declared_in (outlines app (step.Outlet n u ∷ q)) p else false
shows_template app p t q = false

-- ---- what a query sees

-- whether a node is what a query looks for: a host of the component, or an element or a host with the reference
abbrev pub is_aimed_at : Aim → Form → Bool
is_aimed_at (aim.Component name) (Host c tag attrs nodes) = bytes_eq name c.name
is_aimed_at (aim.Component name) f = false
is_aimed_at (aim.Reference name) f = has_reference name (attributes f)

-- whether the innermost element round a node is this one
abbrev pub is_directly_in : Option NodeId → List NodeId → Bool
is_directly_in None enclosing = false
is_directly_in (Some i) [] = false
is_directly_in (Some i) (j ∷ js) = same_node i j

-- whether a node stands anywhere inside this element
abbrev pub is_in : Option NodeId → List NodeId → Bool
is_in None enclosing = false
is_in (Some i) enclosing = list_any (same_node i) enclosing

-- the host of an instance; the root instance's is in no template
abbrev pub host_of : Trail → Option NodeId
host_of (step.Child n ∷ p) = Some (node_id p n)
host_of p = None

-- Whether a query of an instance sees a node. View queries see the nodes of the component's own template; content queries see those inside the
-- host, `contentchildren` without `descendants` the ones alone that no element stands round in between.
abbrev pub sees : QueryKind → Bool → Trail → Live → Bool
sees query.ViewChild descendants p q = same_path p q.unit
sees query.ViewChildren descendants p q = same_path p q.unit
sees query.ContentChild descendants p q = is_in (host_of p) q.enclosing
sees query.ContentChildren true p q = is_in (host_of p) q.enclosing
sees query.ContentChildren false p q = is_directly_in (host_of p) q.enclosing

-- the site of a node
abbrev pub site_of : Live → Site
site_of q = node_site q.view q.number q.form

-- ---- instances

-- an instance, by the path of its view, and its component
abbrev pub Instance : Type 0
Instance = Trail × Component

-- the instance on a host
abbrev pub instance_on : Live → Form → Option Instance
instance_on q (Host c tag attrs nodes) = Some (step.Child q.number ∷ q.view, c)
instance_on q _ = None

-- the root instance
abbrev pub root_instance : Outlines → List Instance
root_instance [] = []
root_instance (o ∷ outer) = (o.path, o.component) ∷ []

-- ---- the live nodes

module _ (app : App) (tree : Tree) where
  -- Given the live nodes of a view, inside of some elements.
  module _ (inside : Outlines → List NodeId → List Live) where
    -- those of the views that a node shows
    abbrev pub live_views : Outline → Outlines → List NodeId → ℕ → Form → List Live
    live_views o outer enclosing n f = flat_map (λ b. inside (entered app b.0 (o ∷ outer)) enclosing) (views_shown app o outer n f (value_of (view_at o.path tree.views) n))

    -- those of the views that show an `ng-template`, which stand where it is declared
    abbrev pub live_template : Outline → List NodeId → ℕ → List Live
    live_template o enclosing n = flat_map (λ p. inside (outlines app p) enclosing) (filter (shows_template app o.path n) (outlet_order app tree))

    -- a node itself
    abbrev pub live_itself : Outline → List NodeId → ℕ → Form → Live
    live_itself o enclosing n f = record { view = o.path; unit = o.unit; number = n; form = f; enclosing = enclosing }

    -- Nodes of a view, depth first in template order: at a host the host, then the nodes of its instance's own view, then the content inside it.
    abbrev mutual
      pub live_nodes : Outline → Outlines → List NodeId → Nodes → List Live
      live_nodes o outer enclosing no_nodes = []
      live_nodes o outer enclosing (node n p f rest) = live_form o outer enclosing n f ++ live_nodes o outer enclosing rest

      -- one node and those inside it
      pub live_form : Outline → Outlines → List NodeId → ℕ → Form → List Live
      live_form o outer enclosing n (Element tag attrs nodes) =
          live_itself o enclosing n (Element tag attrs nodes) ∷ live_nodes o outer (node_id o.path n ∷ enclosing) nodes
      live_form o outer enclosing n (Host c tag attrs nodes) =
          live_itself o enclosing n (Host c tag attrs nodes) ∷ inside (entered app (step.Child n) (o ∷ outer)) [] ++ live_nodes o outer (node_id o.path n ∷ enclosing) nodes
      live_form o outer enclosing n (NgContainer attrs nodes) = live_nodes o outer enclosing nodes
      live_form o outer enclosing n (NgTemplate attrs nodes) = live_template o enclosing n
      live_form o outer enclosing n f = live_views o outer enclosing n f

  -- the live nodes of a view, of which the paths of those inside have less than n steps more
  abbrev pub live_within : ℕ → Outlines → List NodeId → List Live
  live_within zero os enclosing = []
  live_within (suc n) [] enclosing = []
  live_within (suc n) (o ∷ outer) enclosing = live_nodes (live_within n) o outer enclosing o.nodes

  -- all live elements and hosts but the root's host; a path has at most 63 steps
  unfoldable pub all_live : List Live
  all_live = live_within 64 (outlines app []) []

  -- ---- queries and the report

  -- all results of a member that is a query, in order
  abbrev pub results : Trail → MemberKind → List Site
  results p (kind.Query k a descendants) = map site_of (filter (λ q. if sees k descendants p q then is_aimed_at a q.form else false) all_live)
  results p _ = []

  -- what a query of an instance finds, of which `viewchild` and `contentchild` give the first alone
  unfoldable pub found : Site → Member → List Site
  found (site.Component p) m = results (reverse p) m.kind
  found _ m = []

  -- The live instances in the order of the report: depth first, at a host the instance, then those of its own view, then those of the content.
  unfoldable pub instances : List Instance
  instances = root_instance (outlines app []) ++ filter_map (λ q. instance_on q q.form) all_live
