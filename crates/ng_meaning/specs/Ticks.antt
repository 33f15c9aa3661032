-- How much a pass has to evaluate, at least and at most, by the instances that it checks: one tick is one evaluation of an expression.
use Rattle.std.specs.Prelude.{ℕ, ◌+◌, Bool, true, false, ◌&&◌, if◌then◌else◌, List, [], ◌∷◌, map, length, Some, None}
use Rattle.std.specs.List.{list_any, sum}
use Rattle.ng_ast.specs.declared.App.{App}
use Rattle.ng_ast.specs.declared.Piece.{Piece}
use Rattle.ng_ast.specs.declared.Piece.TheVariants as piece
use Rattle.ng_ast.specs.declared.AttrForm.{AttrForm}
use Rattle.ng_ast.specs.declared.AttrForm.TheVariants as form
use Rattle.ng_ast.specs.declared.TAttr.{TAttr}
use Rattle.ng_ast.specs.declared.Stmt.{Stmt, out-Stmt, size-Stmt}
use Rattle.ng_ast.specs.declared.Stmt.TheOpen.{Stmt-F}
use Rattle.ng_ast.specs.declared.Owner.{Owner}
use Rattle.ng_ast.specs.declared.Owner.TheVariants as owner
use Rattle.ng_ast.specs.declared.MemberKind.{MemberKind}
use Rattle.ng_ast.specs.declared.MemberKind.TheVariants as kind
use Rattle.ng_meaning.specs.Levels.{whole}
use Rattle.ng_meaning.specs.Same.{same_path}
use Rattle.ng_meaning.specs.World.{World, is_live}
use Rattle.ng_meaning.specs.Template.{Form, Element, Host, NgContainer, TextNode, If, For, Switch, Let, Branches, no_branches, branch, nodes_of}
use Rattle.ng_meaning.specs.Places.{Trail, Outlines, outlines}
use Rattle.ng_meaning.specs.Tree.{NodeValue, RowList, View, Tree, State}
use Rattle.ng_meaning.specs.Runs.{Turn}

-- ---- the expressions of a view

-- whether a text has an interpolation
abbrev pub is_value : Piece → Bool
is_value (piece.Value p e) = true
is_value (piece.Text t) = false

-- one where something is so
abbrev pub one_if : Bool → ℕ
one_if b = if b then 1 else 0

-- Given whether contexts count: the value of a condition after `as`, and what an outlet hands to its template.
module _ (contexts : Bool) where
  -- a bound attribute is evaluated once; `[(x)]="y"` too
  abbrev pub attribute_ticks : AttrForm → ℕ
  attribute_ticks (form.Joined ps) = 1
  attribute_ticks (form.Property e) = 1
  attribute_ticks (form.Attribute e) = 1
  attribute_ticks (form.Class e) = 1
  attribute_ticks (form.Style unit e) = 1
  attribute_ticks (form.Both y) = 1
  attribute_ticks (form.Outlet o) = 1
  attribute_ticks (form.Context e) = one_if contexts
  attribute_ticks _ = 0

  -- those of an element, a host or an outlet
  abbrev pub attributes_ticks : List TAttr → ℕ
  attributes_ticks attrs = sum (map (λ a. attribute_ticks a.form) attrs)

  -- whether a branch has a name after `as`
  abbrev pub has_name : Branches → Bool
  has_name no_branches = false
  has_name (branch test (Some name) nodes bs) = true
  has_name (branch test None nodes bs) = has_name bs

  -- a node is evaluated: each attribute, a text with interpolations, the head of a block as a whole, an `@let`
  abbrev pub form_ticks : Form → ℕ
  form_ticks (Element tag attrs nodes) = attributes_ticks attrs
  form_ticks (Host c tag attrs nodes) = attributes_ticks attrs
  form_ticks (NgContainer attrs nodes) = attributes_ticks attrs
  form_ticks (TextNode ps) = one_if (list_any is_value ps)
  form_ticks (If bs) = 1 + one_if (contexts && has_name bs)
  form_ticks (For head nodes rest) = 1
  form_ticks (Switch e bs) = 1
  form_ticks (Let name e) = 1
  form_ticks _ = 0

  -- the nodes of a view
  abbrev pub nodes_ticks : Outlines → ℕ
  nodes_ticks [] = 0
  nodes_ticks (o ∷ outer) = sum (map (λ q. form_ticks q.form) (nodes_of o.nodes))

-- whether a view is of the template of one of these instances
abbrev pub is_of : List Trail → Outlines → Bool
is_of ps [] = false
is_of ps (o ∷ outer) = list_any (same_path o.unit) ps

-- What a pass evaluates at least: the expressions of the views, live after it, of the instances that it checked, contexts left out.
abbrev pub least_ticks : App → Tree → List Trail → ℕ
least_ticks app tree ps = sum (map (λ v. let os = outlines app v.0 in if is_of ps os then nodes_ticks false os else 0) tree.views)

-- what the passes of a run evaluate at least
abbrev pub run_ticks : App → List Turn → ℕ
run_ticks app ts = sum (map (λ t. elim t.checked [ None ↦ 0 | Some ps ↦ least_ticks app t.state.tree ps ]) ts)

-- ---- rows, and the expressions of an `init`

-- the rows of a node
abbrev pub rows_in : NodeValue → ℕ
rows_in (RowList rows) = length rows
rows_in _ = 0

-- the rows of all nodes of a view
abbrev pub view_rows : View → ℕ
view_rows w = sum (map (λ v. rows_in v.1) w.values)

-- the position of an owner `x[e]`
abbrev pub owner_ticks : Owner → ℕ
owner_ticks (owner.Item p name e) = 1
owner_ticks _ = 0

-- one level of the expressions of a statement, given how many those inside have
abbrev pub statement_layer : (Stmt → ℕ) → Stmt-F Stmt → ℕ
statement_layer inner (Stmt-F.Set p name e) = 1
statement_layer inner (Stmt-F.Do p name args) = length args
statement_layer inner (Stmt-F.Send p o name args) = owner_ticks o + length args
statement_layer inner (Stmt-F.If p c ss others) = 1 + sum (map inner ss) + sum (map inner others)

-- the expressions of a statement
abbrev pub statement_ticks : Stmt → ℕ
statement_ticks = whole out-Stmt size-Stmt 0 statement_layer

-- the expressions of an `init`
abbrev pub init_ticks : MemberKind → ℕ
init_ticks (kind.Init body) = sum (map statement_ticks body)
init_ticks _ = 0

-- those of the `init`s that ran in a pass: of all that wasn't live before it and is after it
abbrev pub begun_ticks : World → World → ℕ
begun_ticks before after = sum (map (λ h. if is_live before h.0 then 0 else sum (map (λ m. init_ticks m.kind) h.1.members)) after)

-- What a pass evaluates at most: the expressions of the live views of the instances that it checked, contexts too; a track value for each row of their
-- `@for`s; and the expressions of the `init`s that ran in it.
abbrev pub most_ticks : App → State → State → List Trail → ℕ
most_ticks app before after ps =
    sum (map (λ v. let os = outlines app v.0 in if is_of ps os then nodes_ticks true os + view_rows v.1 else 0) after.tree.views) + begun_ticks before.world after.world
