-- Content projection: the slots of a component, and the slot to which a content node goes.
use Rattle.std.specs.Prelude.{ℕ, Bool, true, false, nat_eq, if◌then◌else◌, List, [], ◌∷◌, ◌++◌, map, Option, Some, None, codes, bytes_eq, find, unwrap_or}
use Rattle.std.specs.List.{position_or_len}
use Rattle.ng_ast.specs.declared.App.{App}
use Rattle.ng_ast.specs.declared.Component.{Component}
use Rattle.ng_ast.specs.declared.Selector.{Selector}
use Rattle.ng_ast.specs.declared.TAttr.{TAttr}
use Rattle.ng_ast.specs.declared.AttrForm.{AttrForm}
use Rattle.ng_ast.specs.declared.AttrForm.TheVariants as form
use Rattle.ng_meaning.specs.Lists.{Text, distinct, has_any}
use Rattle.ng_selectors.specs.Parse.{selector_of}
use Rattle.ng_selectors.specs.Slots.{slot, default_slot}
use Rattle.ng_meaning.specs.Template.{Form, Element, Host, NgContent, NgContainer, NgTemplate, TextNode, If, For, Switch, Let, Nodes, no_nodes, node, Branches, no_branches, branch, seen_all, template_nodes}
use Rattle.ng_meaning.specs.Places.{Outline}

-- ---- the slots of a component

-- the value of a static attribute
abbrev pub static_value : AttrForm → Option Text
static_value (form.Static w) = Some w
static_value _ = None

-- `*` in place of no text and of the empty one
abbrev pub or_star : Option Text → Text
or_star None = codes "*"
or_star (Some t) = if has_any t then t else codes "*"

-- the attribute of a name
abbrev pub attribute : Text → List TAttr → Option TAttr
attribute name = find (λ a. bytes_eq name a.name)

-- the static value of an attribute that may be there
abbrev pub static_of : Option TAttr → Option Text
static_of None = None
static_of (Some a) = static_value a.form

-- the text that names the slot of an `ng-content`
abbrev pub select : List TAttr → Text
select attrs = or_star (static_of (attribute (codes "select") attrs))

-- The `select` texts of all `ng-content`s in template order, those in blocks, in `ng-template`s and in fallbacks among them.
abbrev mutual
  pub selects : Nodes → List Text
  selects no_nodes = []
  selects (node n p f rest) = selects_in f ++ selects rest

  -- those of one node
  pub selects_in : Form → List Text
  selects_in (Element tag attrs nodes) = selects nodes
  selects_in (Host c tag attrs nodes) = selects nodes
  selects_in (NgContent attrs nodes) = select attrs ∷ selects nodes
  selects_in (NgContainer attrs nodes) = selects nodes
  selects_in (NgTemplate attrs nodes) = selects nodes
  selects_in (TextNode ps) = []
  selects_in (If bs) = selects_of bs
  selects_in (For head nodes empty) = selects nodes ++ selects_of empty
  selects_in (Switch e bs) = selects_of bs
  selects_in (Let name e) = []

  -- those of the branches of a block
  pub selects_of : Branches → List Text
  selects_of no_branches = []
  selects_of (branch test name nodes bs) = selects nodes ++ selects_of bs

-- The slots of a component: the distinct `select` texts of its template. `ng-content`s of equal text share one slot.
unfoldable pub slots : App → Component → List Text
slots app c = distinct (selects (template_nodes app c))

-- The selector that a `select` text is; a text that is none matches nothing.
abbrev pub slot_selector : Text → Selector
slot_selector t = unwrap_or (selector_of t) (record { list = [] })

-- ---- the slot of a content node

-- the tag and the attributes by which a content node is matched
abbrev pub Matched : Type 0
Matched = Text × List TAttr

-- an element, the three `ng-` tags among them
abbrev pub element_of : Form → List Matched
element_of (Element tag attrs nodes) = (tag, attrs) ∷ []
element_of (Host c tag attrs nodes) = (tag, attrs) ∷ []
element_of (NgContent attrs nodes) = (codes "ng-content", attrs) ∷ []
element_of (NgContainer attrs nodes) = (codes "ng-container", attrs) ∷ []
element_of (NgTemplate attrs nodes) = (codes "ng-template", attrs) ∷ []
element_of _ = []

-- the elements among nodes that stand side by side
abbrev pub root_elements : Nodes → List Matched
root_elements no_nodes = []
root_elements (node n p f rest) = element_of f ++ root_elements rest

-- the root elements of all branches of a block
abbrev pub branch_elements : Branches → List Matched
branch_elements no_branches = []
branch_elements (branch test name nodes bs) = root_elements nodes ++ branch_elements bs

-- the item, where there is just one
abbrev pub only_one : {A : Type 0} → List A → Option A
only_one (a ∷ []) = Some a
only_one _ = None

-- A block is matched by its only root element, all its branches, rows and `@empty` taken together; texts and all other blocks by none.
abbrev pub matched_by : Form → Option Matched
matched_by (If bs) = only_one (branch_elements bs)
matched_by (Switch e bs) = only_one (branch_elements bs)
matched_by (For head nodes empty) = only_one (root_elements nodes ++ branch_elements empty)
matched_by f = only_one (element_of f)

-- The first slot other than the default whose selector matches, else the default slot, else none. Where nothing is matched it is the default slot.
abbrev pub slot_for : List Selector → Option Matched → Option ℕ
slot_for selectors None = default_slot selectors
slot_for selectors (Some m) = slot selectors m.0 (seen_all m.1)

-- the number of the slot to which a content node of a component goes; an `@let` is no content node
unfoldable pub slot_of : App → Component → Form → Option ℕ
slot_of app c (Let name e) = None
slot_of app c f = slot_for (map slot_selector (slots app c)) (matched_by f)

-- the number of the slot that an `ng-content` shows
abbrev pub shown_slot : App → Component → List TAttr → ℕ
shown_slot app c attrs = position_or_len (bytes_eq (select attrs)) (slots app c)

-- whether a number is this one
abbrev pub is_number : ℕ → Option ℕ → Bool
is_number n None = false
is_number n (Some m) = nat_eq n m

-- whether content nodes give a slot of a component a node, by the template alone
abbrev pub fills : App → Component → ℕ → Nodes → Bool
fills app c k no_nodes = false
fills app c k (node n p f rest) = elim (is_number k (slot_of app c f)) [ true ↦ true | false ↦ fills app c k rest ]

-- whether the slot that an `ng-content` of a view shows is given a node; the root instance is given none
abbrev pub is_filled : App → Outline → List TAttr → Bool
is_filled app o attrs = fills app o.component (shown_slot app o.component attrs) o.content
