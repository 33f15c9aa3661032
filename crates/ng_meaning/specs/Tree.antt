-- The state of an application: what it holds, and the tree that it showed last.
use Rattle.std.specs.Prelude.{ℕ, Bool, false, ◌||◌, nat_eq, List, [], Option, Some, None}
use Rattle.std.specs.List.{flat_map}
use Rattle.std.specs.Map.{lookup}
use Rattle.ng_values.specs.declared.value.Value.{Value}
use Rattle.ng_ast.specs.declared.TAttr.{TAttr}
use Rattle.ng_tree.specs.declared.Item.{Item}
use Rattle.ng_meaning.specs.Lists.{Text}
use Rattle.ng_meaning.specs.Same.{same_path}
use Rattle.ng_meaning.specs.World.{World, Read}
use Rattle.ng_meaning.specs.Places.{Trail, Outlines}

-- a row of a `@for`: its track value, how many rows before it have the same one, and its item
pub record Row : Type 0 where
  pub key : Value
  pub nth : ℕ
  pub item : Value

-- What a view evaluated for a node: the bound values of an element or a host, a text, the chosen branch of an `@if` or `@switch` with the value of its
-- condition, the rows of a `@for`, the value of an `@let`, and the `ng-template` that an outlet shows, by its number, with the context.
pub data NodeValue : Type 0 where
  BoundValues : List (TAttr × Value) → NodeValue
  TextValue : Text → NodeValue
  Choice : Option (ℕ × Value) → NodeValue
  RowList : List Row → NodeValue
  LetValue : Value → NodeValue
  OutletValue : Option ℕ → Value → NodeValue
  NoValue : NodeValue

-- a view: the names that it adds to those that are seen round it, and what it evaluated for each of its nodes
pub record View : Type 0 where
  pub names : List (Text × Item)
  pub values : List (ℕ × NodeValue)

-- a view of which nothing is known yet but the names of its head
abbrev pub empty_view : List (Text × Item) → View
empty_view names = record { names = names; values = [] }

-- The live views, by their paths, in the order in which a pass visits them, and the live instances in that order, each with the signals that its last
-- check read.
pub record Tree : Type 0 where
  pub views : List (Trail × View)
  pub instances : List (Trail × List Read)

-- Instances that are marked, as a test of their paths.
abbrev pub Marks : Type 0
Marks = Trail → Bool

-- no instance
abbrev pub none_marked : Marks
none_marked p = false

-- the instances of both
abbrev pub either : Marks → Marks → Marks
either a b p = a p || b p

-- what an application holds, and the tree that it showed last
pub record State : Type 0 where
  pub world : World
  pub tree : Tree

-- before the first pass
abbrev pub empty : State
empty = record { world = []; tree = record { views = []; instances = [] } }

-- the view at a path, where it is live
abbrev pub view_at : Trail → List (Trail × View) → Option View
view_at p = lookup (same_path p)

-- what a node's value is, where there is one
abbrev pub or_no_value : Option NodeValue → NodeValue
or_no_value None = NoValue
or_no_value (Some v) = v

-- what a view evaluated for the node with a number
abbrev pub value_of : Option View → ℕ → NodeValue
value_of None n = NoValue
value_of (Some w) n = or_no_value (lookup (nat_eq n) w.values)

-- the names that a view adds
abbrev pub names_in : Option View → List (Text × Item)
names_in None = []
names_in (Some w) = w.names

-- the names that are seen in a view, from the nearest
abbrev pub names_seen : List (Trail × View) → Outlines → List (Text × Item)
names_seen views = flat_map (λ o. names_in (view_at o.path views))
