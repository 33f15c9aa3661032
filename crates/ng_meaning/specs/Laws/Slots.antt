-- Templates of which each slot is shown by one `ng-content` at most, told by the templates alone.
use Rattle.std.specs.Prelude.{◌≡◌, [], ◌++◌}
use Rattle.ng_ast.specs.declared.App.{App}
use Rattle.ng_ast.specs.declared.Component.{Component}
use Rattle.ng_meaning.specs.Lists.{Text}
use Rattle.ng_meaning.specs.Declared.{components}
use Rattle.ng_meaning.specs.Template.{Form, Element, Host, NgContent, NgContainer, NgTemplate, TextNode, If, For, Switch, Let, Nodes, no_nodes, node, Branches, no_branches, branch, template_nodes}
use Rattle.ng_meaning.specs.Projection.{select, selects, selects_in, selects_of}
use Rattle.ng_meaning.specs.Laws.Apart.{In}

-- No `ng-content` stands in a `@for` or an `ng-template`, and two of one slot stand in different branches of one `@if` or `@switch`.
abbrev mutual
  pub HaveSlotsOnce : Nodes → Type 0
  HaveSlotsOnce no_nodes = Unit {0}
  HaveSlotsOnce (node n p f rest) = HasSlotsOnce f × HaveSlotsOnce rest × ((t : Text) → In t (selects_in f) → In t (selects rest) → ⊥)

  -- the same of what stands in one node
  pub HasSlotsOnce : Form → Type 0
  HasSlotsOnce (Element tag attrs nodes) = HaveSlotsOnce nodes
  HasSlotsOnce (Host c tag attrs nodes) = HaveSlotsOnce nodes
  HasSlotsOnce (NgContent attrs nodes) = HaveSlotsOnce nodes × (In (select attrs) (selects nodes) → ⊥)
  HasSlotsOnce (NgContainer attrs nodes) = HaveSlotsOnce nodes
  HasSlotsOnce (NgTemplate attrs nodes) = selects nodes ≡ []
  HasSlotsOnce (TextNode ps) = Unit {0}
  HasSlotsOnce (If bs) = BranchesHaveSlotsOnce bs
  HasSlotsOnce (For head nodes empty) = selects nodes ++ selects_of empty ≡ []
  HasSlotsOnce (Switch e bs) = BranchesHaveSlotsOnce bs
  HasSlotsOnce (Let name e) = Unit {0}

  -- the same of what stands in each branch
  pub BranchesHaveSlotsOnce : Branches → Type 0
  BranchesHaveSlotsOnce no_branches = Unit {0}
  BranchesHaveSlotsOnce (branch test name nodes bs) = HaveSlotsOnce nodes × BranchesHaveSlotsOnce bs

-- the templates of all components are such
abbrev pub TemplatesHaveSlotsOnce : App → Type 0
TemplatesHaveSlotsOnce app = (c : Component) → In c (components app) → HaveSlotsOnce (template_nodes app c)
