-- The names that stand in a template, and those that its nodes make known.
use Rattle.std.specs.Prelude.{ℕ, ◌+◌, Bool, ◌||◌, if◌then◌else◌, bytes_eq, codes, List, [], ◌∷◌, ◌++◌, map, Option, Some, None}
use Rattle.std.specs.List.{flat_map}
use Rattle.ng_ast.specs.declared.Place.{Place}
use Rattle.ng_ast.specs.declared.Expr.{Expr}
use Rattle.ng_ast.specs.declared.Piece.{Piece}
use Rattle.ng_ast.specs.declared.Piece.TheVariants as piece
use Rattle.ng_ast.specs.declared.AttrForm.{AttrForm}
use Rattle.ng_ast.specs.declared.AttrForm.TheVariants as form
use Rattle.ng_ast.specs.declared.TAttr.{TAttr}
use Rattle.ng_ast.specs.declared.ForHead.{ForHead}
use Rattle.ng_ast.specs.declared.TNode.{TNode, fold-TNode}
use Rattle.ng_ast.specs.declared.TNode.TheOpen.{TNode-F, Branch-F}
use Rattle.ng_ast.specs.declared.Branch.{Branch, fold-Branch}
use Rattle.ng_scopes.specs.declared.names.Known.{Known}
use Rattle.ng_scopes.specs.declared.names.Meaning.{Meaning}
use Rattle.ng_scopes.specs.declared.names.Meaning.TheVariants as means
use Rattle.ng_scopes.specs.declared.usage.Spot.{Spot}
use Rattle.ng_scopes.specs.declared.usage.Part.TheVariants as part
use Rattle.ng_scopes.specs.declared.usage.Act.TheVariants as act
use Rattle.ng_scopes.specs.declared.usage.Usage.{Usage}
use Rattle.ng_scopes.specs.Names.{Name, Scope, nothing, inside, variable}
use Rattle.ng_scopes.specs.Usages.{use_of, usages, stmt_usages, outlet_usages}

abbrev pub binding : Place → Spot
binding p = record { place = p; part = part.Binding }

abbrev pub listener : Place → Spot
listener p = record { place = p; part = part.Listener }

-- an interpolation is a part of its own
abbrev pub piece_usages : Scope → Piece → List Usage
piece_usages scope (piece.Text t) = []
piece_usages scope (piece.Value p e) = usages (binding p) scope e

-- the field of `[( )]` is read by the binding and set by the listener
abbrev pub both_usages : Place → Scope → Name → List Usage
both_usages p scope y = use_of (binding p) scope (record { name = y; act = act.Read }) ∷ use_of (listener p) scope (record { name = y; act = act.Set }) ∷ []

abbrev pub form_usages : Place → Scope → AttrForm → List Usage
form_usages p scope (form.Static t) = []
form_usages p scope (form.Joined pieces) = flat_map (piece_usages scope) pieces
form_usages p scope (form.Property e) = usages (binding p) scope e
form_usages p scope (form.Attribute e) = usages (binding p) scope e
form_usages p scope (form.Class e) = usages (binding p) scope e
form_usages p scope (form.Style unit e) = usages (binding p) scope e
form_usages p scope (form.Listener stmts) = flat_map (stmt_usages (listener p) scope) stmts
form_usages p scope (form.Both y) = both_usages p scope y
form_usages p scope form.Reference = []
form_usages p scope (form.Variable k) = []
form_usages p scope (form.Outlet o) = outlet_usages (binding p) scope o
form_usages p scope (form.Context e) = usages (binding p) scope e

abbrev pub attr_usages : Scope → TAttr → List Usage
attr_usages scope a = form_usages a.place scope a.form

-- a name with its place and meaning
abbrev pub known : Place → Name → Meaning → Known
known p n m = record { place = p; name = n; meaning = m }

abbrev pub reference : Meaning → Place → Name → AttrForm → List Known
reference m p n form.Reference = known p n m ∷ []
reference m p n (form.Static t) = []
reference m p n (form.Joined pieces) = []
reference m p n (form.Property e) = []
reference m p n (form.Attribute e) = []
reference m p n (form.Class e) = []
reference m p n (form.Style unit e) = []
reference m p n (form.Listener stmts) = []
reference m p n (form.Both y) = []
reference m p n (form.Variable k) = []
reference m p n (form.Outlet o) = []
reference m p n (form.Context e) = []

-- the reference that an attribute makes known
abbrev pub attr_known : Meaning → TAttr → List Known
attr_known m a = reference m a.place a.name a.form

abbrev pub let_variable : Place → Name → AttrForm → List Known
let_variable p n (form.Variable k) = known p n means.Variable ∷ []
let_variable p n (form.Static t) = []
let_variable p n (form.Joined pieces) = []
let_variable p n (form.Property e) = []
let_variable p n (form.Attribute e) = []
let_variable p n (form.Class e) = []
let_variable p n (form.Style unit e) = []
let_variable p n (form.Listener stmts) = []
let_variable p n (form.Both y) = []
let_variable p n form.Reference = []
let_variable p n (form.Outlet o) = []
let_variable p n (form.Context e) = []

-- the variable that a `let-` attribute makes known
abbrev pub let_known : TAttr → List Known
let_known a = let_variable a.place a.name a.form

abbrev pub is_template : Name → Bool
is_template tag = bytes_eq tag (codes "ng-template")

abbrev pub is_content : Name → Bool
is_content tag = bytes_eq tag (codes "ng-content")

-- whether what stands inside an element is a view of its own
abbrev pub opens_view : Name → Bool
opens_view tag = is_template tag || is_content tag

-- what a reference on an element of this tag means
abbrev pub reference_meaning : Name → Meaning
reference_meaning tag = if is_template tag then means.Template else means.Reference

-- the variables of the view inside an element
abbrev pub element_names : Name → List TAttr → List Known
element_names tag attrs = if is_template tag then flat_map let_known attrs else []

-- a variable of the head of a block
abbrev pub head_variable : Place → Name → Known
head_variable p n = known p n means.Variable

-- the variables that each row has
abbrev pub row_variables : Place → List Known
row_variables p =
    head_variable p (codes "$index") ∷ head_variable p (codes "$count") ∷ head_variable p (codes "$first")
    ∷ head_variable p (codes "$last") ∷ head_variable p (codes "$even") ∷ head_variable p (codes "$odd") ∷ []

-- the variables that the head of a `@for` names
abbrev pub for_named : Place → ForHead → List Known
for_named p head = head_variable p head.row ∷ map (λ v. head_variable p v.0) head.vars

abbrev pub for_names : Place → ForHead → List Known
for_names p head = for_named p head ++ row_variables p

-- A track expression knows the row's variable and `$index` alone.
abbrev pub track_names : Place → Name → List Known
track_names p row = head_variable p row ∷ head_variable p (codes "$index") ∷ []

abbrev pub test_usages : Place → Scope → Option Expr → List Usage
test_usages p scope None = []
test_usages p scope (Some e) = usages (binding p) scope e

-- the head of a `@for`
abbrev pub for_usages : Place → Scope → ForHead → List Usage
for_usages p scope head = usages (binding p) scope head.list ++ test_usages p (inside (track_names p head.row) 0 nothing) head.track

-- What a node gives: the names that it adds to its view, how many of them are `@let`s, and the names that stand in it. The scope
-- is that of its view where so many of the view's `@let`s have passed.
pub record Walked : Type 0 where
  pub adds : List Known
  pub lets : ℕ
  pub reads : (ℕ → Scope) → ℕ → List Usage

-- the `@let`s of nodes side by side
abbrev pub walked_lets : List Walked → ℕ
walked_lets [] = 0
walked_lets (w ∷ ws) = w.lets + walked_lets ws

-- the names that stand in nodes side by side
abbrev pub walked_reads : (ℕ → Scope) → ℕ → List Walked → List Usage
walked_reads scope passed [] = []
walked_reads scope passed (w ∷ ws) = w.reads scope passed ++ walked_reads scope (passed + w.lets) ws

-- a view whose head has these variables
abbrev pub walked_view : List Known → Scope → List Walked → List Usage
walked_view head outer ws = walked_reads (λ passed. inside (head ++ flat_map (λ w. w.adds) ws) passed outer) 0 ws

abbrev pub walked_optional : Scope → Option (Scope → List Usage) → List Usage
walked_optional scope None = []
walked_optional scope (Some b) = b scope

abbrev pub walked_step : TNode-F Walked (Scope → List Usage) → Walked
walked_step (TNode-F.Element p tag attrs ws) = record {
  adds = flat_map (attr_known (reference_meaning tag)) attrs ++ (if opens_view tag then [] else flat_map (λ w. w.adds) ws);
  lets = if opens_view tag then 0 else walked_lets ws;
  reads = λ scope passed. flat_map (attr_usages (scope passed)) attrs
      ++ (if opens_view tag then walked_view (element_names tag attrs) (scope passed) ws else walked_reads scope passed ws);
}
walked_step (TNode-F.Text p pieces) = record { adds = []; lets = 0; reads = λ scope passed. flat_map (piece_usages (scope passed)) pieces }
walked_step (TNode-F.If p bs) = record { adds = []; lets = 0; reads = λ scope passed. flat_map (λ b. b (scope passed)) bs }
walked_step (TNode-F.For p head ws empty) = record {
  adds = [];
  lets = 0;
  reads = λ scope passed. for_usages p (scope passed) head ++ (walked_view (for_names p head) (scope passed) ws ++ walked_optional (scope passed) empty);
}
walked_step (TNode-F.Switch p e bs) = record {
  adds = [];
  lets = 0;
  reads = λ scope passed. usages (binding p) (scope passed) e ++ flat_map (λ b. b (scope passed)) bs;
}
walked_step (TNode-F.Let p n e) = record { adds = known p n means.Let ∷ []; lets = 1; reads = λ scope passed. usages (binding p) (scope passed) e }

-- A branch is a view of its own. Its test stands outside of it.
abbrev pub walked_branch : Branch-F Walked (Scope → List Usage) → Scope → List Usage
walked_branch b scope = test_usages b.place scope b.test ++ walked_view (variable b.place b.name) scope b.nodes

abbrev pub walked : TNode → Walked
walked = fold-TNode Walked (Scope → List Usage) walked_step walked_branch

-- the names that a node adds to its view
unfoldable pub adds : TNode → List Known
adds t = (walked t).adds

-- how many `@let`s a node adds to its view
unfoldable pub lets : TNode → ℕ
lets t = (walked t).lets

-- the names that stand in a node, where so many `@let`s of its view have passed
unfoldable pub reads : (ℕ → Scope) → ℕ → TNode → List Usage
reads scope passed t = (walked t).reads scope passed

-- the names that stand in a branch
unfoldable pub branch_reads : Scope → Branch → List Usage
branch_reads scope b = fold-Branch Walked (Scope → List Usage) walked_step walked_branch b scope

abbrev pub lets_in : List TNode → ℕ
lets_in [] = 0
lets_in (t ∷ ts) = lets t + lets_in ts

abbrev pub reads_in : (ℕ → Scope) → ℕ → List TNode → List Usage
reads_in scope passed [] = []
reads_in scope passed (t ∷ ts) = reads scope passed t ++ reads_in scope (passed + lets t) ts

-- the names of a view: the variables of its head, and those that its nodes add
abbrev pub view_names : List Known → List TNode → List Known
view_names head ts = head ++ flat_map adds ts

-- the names that stand in a view
abbrev pub view_reads : List Known → Scope → List TNode → List Usage
view_reads head outer ts = reads_in (λ passed. inside (view_names head ts) passed outer) 0 ts

abbrev pub optional_reads : Scope → Option Branch → List Usage
optional_reads scope None = []
optional_reads scope (Some b) = branch_reads scope b

-- the names that what stands inside an element adds to the view of the element
abbrev pub children_adds : Name → List TNode → List Known
children_adds tag ts = if opens_view tag then [] else flat_map adds ts

abbrev pub children_lets : Name → List TNode → ℕ
children_lets tag ts = if opens_view tag then 0 else lets_in ts

-- the names that stand inside an element
abbrev pub children_reads : Name → List TAttr → (ℕ → Scope) → ℕ → List TNode → List Usage
children_reads tag attrs scope passed ts = if opens_view tag then view_reads (element_names tag attrs) (scope passed) ts else reads_in scope passed ts
