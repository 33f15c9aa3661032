-- The views that steps enter: they have the path that they are asked for, and nodes whose numbers are right.
use Rattle.std.specs.Prelude.{◌≡◌, ℕ, zero, suc, ◌+◌, nat_eq, Bool, true, false, cond, List, [], ◌∷◌, Option, Some, None, find, refl}
use Rattle.std.proofs.Common.{inl, inr, ap, sym, arith, subst}
use Rattle.std.proofs.lemmas.Bool.{eqb-true}
use Rattle.ng_ast.specs.declared.App.{App}
use Rattle.ng_ast.specs.declared.Component.{Component}
use Rattle.ng_tree.specs.declared.Step.{Step}
use Rattle.ng_tree.specs.declared.Step.TheVariants as step
use Rattle.ng_meaning.specs.Declared.{root_component}
use Rattle.ng_meaning.specs.Template.{Form, Host, NgContent, NgTemplate, If, For, Switch, Nodes, no_nodes, Branches, no_branches, branch, branch_nodes, Node, node_at, nodes_of}
use Rattle.ng_meaning.specs.Places.{Trail, Outline, Outlines, inner_view, nodes_in_branch, nodes_in_row, nodes_in_template, host_view, outlet_view, entered, root_view, outlines}
use Rattle.ng_meaning.specs.Laws.Apart.{In}
use Rattle.ng_meaning.specs.Laws.Numbers.{NumberedForm, NumberedBranches, AreNumbered, IsNumbered, nodes_from-Numbered, nodes_of-IsNumbered}

found_first : {A : Type 0} (b : Bool) (y x : A) (xs : List A) (further : Option A) → (further ≡ Some x → In x xs) → cond b (Some y) further ≡ Some x → In x (y ∷ xs)
found_first true y x xs further there e = inl (cc)
found_first false y x xs further there e = inr (there e)

-- what is found is in the list
pub In-find : {A : Type 0} (test : A → Bool) (xs : List A) (x : A) → find test xs ≡ Some x → In x xs
In-find test [] x e = cc
In-find test (y ∷ xs) x e = found_first (test y) y x xs (find test xs) (In-find test xs x) e

found_passes : {A : Type 0} (b : Bool) (test : A → Bool) (y x : A) (further : Option A) → test y ≡ b → (further ≡ Some x → test x ≡ true) → cond b (Some y) further ≡ Some x → test x ≡ true
found_passes true test y x further t there e = let same : y ≡ x = cc in subst (λ z. test z ≡ true) same t
found_passes false test y x further t there e = there e

-- what is found passes the test
pub find-passes : {A : Type 0} (test : A → Bool) (xs : List A) (x : A) → find test xs ≡ Some x → test x ≡ true
find-passes test [] x e = cc
find-passes test (y ∷ xs) x e = found_passes (test y) test y x (find test xs) refl (find-passes test xs x) e

-- ---- the parts of a node

branch_numbered : (bs : Branches) (lo hi k : ℕ) → NumberedBranches lo hi bs → AreNumbered (branch_nodes bs k)
branch_numbered no_branches lo hi k h = (0, 0, omega arith)
branch_numbered (branch test name nodes bs) lo hi zero h = (lo, h.0, h.1)
branch_numbered (branch test name nodes bs) lo hi (suc k) h = branch_numbered bs h.0 hi k h.2

nothing_numbered : AreNumbered no_nodes
nothing_numbered = (0, 0, omega arith)

in_branch_numbered : (f : Form) (lo hi k : ℕ) → NumberedForm lo hi f → AreNumbered (nodes_in_branch f k)
in_branch_numbered (If bs) lo hi k h = branch_numbered bs lo hi k h
in_branch_numbered (Switch e bs) lo hi k h = branch_numbered bs lo hi k h
in_branch_numbered (For head nodes empty) lo hi k h = branch_numbered empty h.0 hi k h.2
in_branch_numbered (NgContent attrs nodes) lo hi k h = (lo, hi, h)
in_branch_numbered _ lo hi k h = nothing_numbered

in_row_numbered : (f : Form) (lo hi : ℕ) → NumberedForm lo hi f → AreNumbered (nodes_in_row f)
in_row_numbered (For head nodes empty) lo hi h = (lo, h.0, h.1)
in_row_numbered _ lo hi h = nothing_numbered

in_template_numbered : (f : Form) (lo hi : ℕ) → NumberedForm lo hi f → AreNumbered (nodes_in_template f)
in_template_numbered (NgTemplate attrs nodes) lo hi h = (lo, hi, h)
in_template_numbered _ lo hi h = nothing_numbered

-- ---- views

-- the nodes of each view have right numbers
abbrev pub HaveNumbers : Outlines → Type 0
HaveNumbers [] = Unit {0}
HaveNumbers (o ∷ outer) = AreNumbered o.nodes × HaveNumbers outer

-- the first view has a path, if there is one
abbrev pub BeginsAt : Trail → Outlines → Type 0
BeginsAt p [] = Unit {0}
BeginsAt p (o ∷ outer) = o.path ≡ p

-- what a node of a view leads to has a property, where the node is there
pub at_found : (P : Outlines → Type 0) (found : Option Node) (f : Node → Outlines) → P [] → ((q : Node) → found ≡ Some q → P (f q)) → P (elim found [ None ↦ [] | Some q ↦ f q ])
at_found P None f none some = none
at_found P (Some q) f none some = some q refl

inner_numbers : (p : Trail) (o : Outline) (q : Node) (nodes : Nodes) (outer : Outlines) → AreNumbered nodes → HaveNumbers (o ∷ outer) → HaveNumbers (inner_view p o q nodes ∷ o ∷ outer)
inner_numbers p o q nodes outer h rest = (h, rest)

-- a node that is found in a view has right numbers inside
node_numbered : (o : Outline) (n : ℕ) (q : Node) → AreNumbered o.nodes → node_at n o.nodes ≡ Some q → IsNumbered q
node_numbered o n q h e = nodes_of-IsNumbered o.nodes h q (In-find (λ r. nat_eq n r.number) (nodes_of o.nodes) q e)

host_numbers : (app : App) (o : Outline) (q : Node) (f : Form) → HaveNumbers (host_view app o q f)
host_numbers app o q (Host c tag attrs content) = ((0, _, nodes_from-Numbered app 0 c.template.nodes), tt)
host_numbers app o q _ = tt

outlet_numbers : (p : Trail) (t : ℕ) (os : Outlines) → HaveNumbers os → HaveNumbers (outlet_view p t os)
outlet_numbers p t [] h = tt
outlet_numbers p t (o ∷ outer) h = declared (node_at t o.nodes) refl (outlet_numbers p t outer h.1)
  where
    declared : (found : Option Node) → node_at t o.nodes ≡ found → HaveNumbers (outlet_view p t outer)
        → HaveNumbers (elim found [ Some q ↦ inner_view p o q (nodes_in_template q.form) ∷ o ∷ outer | None ↦ outlet_view p t outer ])
    declared None e rest = rest
    declared (Some q) e rest = let r = node_numbered o t q h.0 e in (in_template_numbered q.form (q.number + 1) r.0 r.1, h)

-- The view that a step enters has right numbers, and so have those whose names it sees.
pub entered-HaveNumbers : (app : App) (s : Step) (os : Outlines) → HaveNumbers os → HaveNumbers (entered app s os)
entered-HaveNumbers app s [] h = tt
entered-HaveNumbers app (step.Child n) (o ∷ outer) h = at_found HaveNumbers (node_at n o.nodes) (λ q. host_view app o q q.form) tt (λ q e. host_numbers app o q q.form)
entered-HaveNumbers app (step.Branch n k) (o ∷ outer) h =
    at_found HaveNumbers (node_at n o.nodes) (λ q. inner_view (step.Branch n k ∷ o.path) o q (nodes_in_branch q.form k) ∷ o ∷ outer) tt
    (λ q e. let r = node_numbered o n q h.0 e in (in_branch_numbered q.form (q.number + 1) r.0 k r.1, h))
entered-HaveNumbers app (step.Row n w k) (o ∷ outer) h =
    at_found HaveNumbers (node_at n o.nodes) (λ q. inner_view (step.Row n w k ∷ o.path) o q (nodes_in_row q.form) ∷ o ∷ outer) tt
    (λ q e. let r = node_numbered o n q h.0 e in (in_row_numbered q.form (q.number + 1) r.0 r.1, h))
entered-HaveNumbers app (step.Outlet n t) (o ∷ outer) h = outlet_numbers (step.Outlet n t ∷ o.path) t (o ∷ outer) h

-- The root instance's view has right numbers.
pub root_view-HaveNumbers : (app : App) (c : Option Component) → HaveNumbers (root_view app c)
root_view-HaveNumbers app None = tt
root_view-HaveNumbers app (Some c) = ((0, _, nodes_from-Numbered app 0 c.template.nodes), tt)

-- The view at a path has right numbers.
pub outlines-HaveNumbers : (app : App) (p : Trail) → HaveNumbers (outlines app p)
unfolding outlines
outlines-HaveNumbers app [] = root_view-HaveNumbers app (root_component app)
outlines-HaveNumbers app (s ∷ p) = entered-HaveNumbers app s (outlines app p) (outlines-HaveNumbers app p)

-- ---- paths

host_begins : (app : App) (o : Outline) (q : Node) (f : Form) (n : ℕ) → q.number ≡ n → BeginsAt (step.Child n ∷ o.path) (host_view app o q f)
host_begins app o q (Host c tag attrs content) n e = ap (λ m. step.Child m ∷ o.path) e
host_begins app o q _ n e = tt

outlet_begins : (p : Trail) (t : ℕ) (os : Outlines) → BeginsAt p (outlet_view p t os)
outlet_begins p t [] = tt
outlet_begins p t (o ∷ outer) = declared (node_at t o.nodes) (outlet_begins p t outer)
  where
    declared : (found : Option Node) → BeginsAt p (outlet_view p t outer) → BeginsAt p (elim found [ Some q ↦ inner_view p o q (nodes_in_template q.form) ∷ o ∷ outer | None ↦ outlet_view p t outer ])
    declared None rest = rest
    declared (Some q) rest = refl

-- the node that is found by a number has it
pub number-node_at : (n : ℕ) (nodes : Nodes) (q : Node) → node_at n nodes ≡ Some q → q.number ≡ n
number-node_at n nodes q e = sym (eqb-true n q.number (find-passes (λ r. nat_eq n r.number) (nodes_of nodes) q e))

-- The view that a step enters has the path of the first view with that step in front.
pub entered-BeginsAt : (app : App) (s : Step) (o : Outline) (outer : Outlines) → BeginsAt (s ∷ o.path) (entered app s (o ∷ outer))
entered-BeginsAt app (step.Child n) o outer =
    at_found (BeginsAt (step.Child n ∷ o.path)) (node_at n o.nodes) (λ q. host_view app o q q.form) tt (λ q e. host_begins app o q q.form n (number-node_at n o.nodes q e))
entered-BeginsAt app (step.Branch n k) o outer = at_found (BeginsAt (step.Branch n k ∷ o.path)) (node_at n o.nodes) (λ q. inner_view (step.Branch n k ∷ o.path) o q (nodes_in_branch q.form k) ∷ o ∷ outer) tt (λ q e. refl)
entered-BeginsAt app (step.Row n w k) o outer = at_found (BeginsAt (step.Row n w k ∷ o.path)) (node_at n o.nodes) (λ q. inner_view (step.Row n w k ∷ o.path) o q (nodes_in_row q.form) ∷ o ∷ outer) tt (λ q e. refl)
entered-BeginsAt app (step.Outlet n t) o outer = outlet_begins (step.Outlet n t ∷ o.path) t (o ∷ outer)
