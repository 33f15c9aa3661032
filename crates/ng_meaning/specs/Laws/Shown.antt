-- The views that the nodes of one view show are entered by different steps.
use Rattle.std.specs.Prelude.{◌≡◌, ℕ, suc, Bool, true, false, List, [], ◌∷◌, map, Some, refl}
use Rattle.std.proofs.Common.{inl, inr, sym, subst}
use Rattle.ng_values.specs.declared.value.Value.{Value}
use Rattle.ng_ast.specs.declared.App.{App}
use Rattle.ng_ast.specs.declared.ForHead.{ForHead}
use Rattle.ng_tree.specs.declared.Step.{Step}
use Rattle.ng_tree.specs.declared.Step.TheVariants as step
use Rattle.ng_meaning.specs.Template.{Form, NgContent, NgContainer, If, For, Switch, Nodes, no_nodes, node, Branches, no_branches, branch}
use Rattle.ng_meaning.specs.Places.{Outline, Outlines}
use Rattle.ng_meaning.specs.Projection.{is_filled}
use Rattle.ng_meaning.specs.Tree.{Row, NodeValue, RowList, Choice, OutletValue}
use Rattle.ng_meaning.specs.Bindings.{Shown, rows_shown, for_shown, fallback_shown, views_shown}
use Rattle.ng_meaning.specs.Laws.Apart.{In, Apart}
use Rattle.ng_meaning.specs.Laws.Rows.{identity, IsCounted}

-- a step enters a view that the node with a number shows
abbrev pub GoesInto : ℕ → Step → Type 0
GoesInto n (step.Child m) = ⊥
GoesInto n (step.Branch m k) = m ≡ n
GoesInto n (step.Row m w k) = m ≡ n
GoesInto n (step.Outlet m t) = m ≡ n

-- the steps into the views that are shown
abbrev pub steps : List Shown → List Step
steps = map (λ b. b.0)

-- the steps enter views of one node, and no two are the same
abbrev pub AreSteps : ℕ → List Step → Type 0
AreSteps n ss = ((x : Step) → In x ss → GoesInto n x) × Apart ss

no_steps : (n : ℕ) → AreSteps n []
no_steps n = (λ x i. absurd i, tt)

one_step : (n : ℕ) (s : Step) → GoesInto n s → AreSteps n (s ∷ [])
one_step n s g = (λ x i. elim i [ inl e ↦ subst (GoesInto n) (sym e) g | inr none ↦ absurd none ], (λ i. i, tt))

-- a row's step is made of its identity
rows_from_in : (n : ℕ) (head : ForHead) (total i : ℕ) (rows : List Row) (x : Step) → In x (steps (rows_shown n head total i rows)) → (q : Value × ℕ) × In q (map identity rows) × (x ≡ step.Row n q.0 q.1)
rows_from_in n head total i [] x h = absurd h
rows_from_in n head total i (r ∷ rows) x (inl e) = (identity r, inl refl, e)
rows_from_in n head total i (r ∷ rows) x (inr h) = let q = rows_from_in n head total (suc i) rows x h in (q.0, inr q.1, q.2)

rows_apart : (n : ℕ) (head : ForHead) (total i : ℕ) (rows : List Row) → Apart (map identity rows) → Apart (steps (rows_shown n head total i rows))
rows_apart n head total i [] h = tt
rows_apart n head total i (r ∷ rows) h =
    (λ j. let q = rows_from_in n head total (suc i) rows (step.Row n r.key r.nth) j in h.0 (subst (λ (x : Value × ℕ). In x (map identity rows)) (same_identity n q.0 (identity r) (sym q.2)) q.1), rows_apart n head total (suc i) rows h.1)
  where
    same_identity : (n : ℕ) (p q : Value × ℕ) → step.Row n p.0 p.1 ≡ step.Row n q.0 q.1 → p ≡ q
    same_identity n p q e = let keys : p.0 ≡ q.0 = cc in let counts : p.1 ≡ q.1 = cc in λ i. (keys i, counts i)

rows_are_steps : (n : ℕ) (head : ForHead) (total i : ℕ) (rows : List Row) → Apart (map identity rows) → AreSteps n (steps (rows_shown n head total i rows))
rows_are_steps n head total i rows h = (λ x j. let q = rows_from_in n head total i rows x j in subst (GoesInto n) (sym q.2) refl, rows_apart n head total i rows h)

for_steps : (n : ℕ) (head : ForHead) (empty : Branches) (rows : List Row) → Apart (map identity rows) → AreSteps n (steps (for_shown n head empty rows))
for_steps n head no_branches [] h = no_steps n
for_steps n head (branch test name nodes bs) [] h = one_step n (step.Branch n 0) refl
for_steps n head no_branches (r ∷ rows) h = rows_are_steps n head _ 0 (r ∷ rows) h
for_steps n head (branch test name nodes bs) (r ∷ rows) h = rows_are_steps n head _ 0 (r ∷ rows) h

fallback_steps : (n : ℕ) (nodes : Nodes) (filled : Bool) → AreSteps n (steps (fallback_shown n nodes filled))
fallback_steps n no_nodes true = no_steps n
fallback_steps n no_nodes false = no_steps n
fallback_steps n (node m p f rest) true = no_steps n
fallback_steps n (node m p f rest) false = one_step n (step.Branch n 0) refl

-- The views that a node shows are entered by different steps, all into that node.
pub views_shown-AreSteps : (app : App) (o : Outline) (outer : Outlines) (n : ℕ) (f : Form) (value : NodeValue) → IsCounted value → AreSteps n (steps (views_shown app o outer n f value))
unfolding views_shown
views_shown-AreSteps app o outer n (If bs) (Choice (Some c)) h = one_step n (step.Branch n c.0) refl
views_shown-AreSteps app o outer n (Switch e bs) (Choice (Some c)) h = one_step n (step.Branch n c.0) refl
views_shown-AreSteps app o outer n (For head nodes empty) (RowList rows) h = for_steps n head empty rows h.apart
views_shown-AreSteps app o outer n (NgContainer attrs nodes) (OutletValue (Some t) w) h = one_step n (step.Outlet n t) refl
views_shown-AreSteps app o outer n (NgContent attrs nodes) value h = fallback_steps n nodes (is_filled app o attrs)
views_shown-AreSteps app o outer n f value h = no_steps n

-- ---- the same of the steps alone, where the rows may be any

rows_go : (n : ℕ) (head : ForHead) (total i : ℕ) (rows : List Row) (x : Step) → In x (steps (rows_shown n head total i rows)) → GoesInto n x
rows_go n head total i rows x j = let q = rows_from_in n head total i rows x j in subst (GoesInto n) (sym q.2) refl

for_go : (n : ℕ) (head : ForHead) (empty : Branches) (rows : List Row) (x : Step) → In x (steps (for_shown n head empty rows)) → GoesInto n x
for_go n head no_branches [] x j = absurd j
for_go n head (branch test name nodes bs) [] x j = (one_step n (step.Branch n 0) refl).0 x j
for_go n head no_branches (r ∷ rows) x j = rows_go n head _ 0 (r ∷ rows) x j
for_go n head (branch test name nodes bs) (r ∷ rows) x j = rows_go n head _ 0 (r ∷ rows) x j

-- The views that a node shows are entered at that node.
pub views_shown-GoInto : (app : App) (o : Outline) (outer : Outlines) (n : ℕ) (f : Form) (value : NodeValue) (x : Step) → In x (steps (views_shown app o outer n f value)) → GoesInto n x
unfolding views_shown
views_shown-GoInto app o outer n (If bs) (Choice (Some c)) x j = (one_step n (step.Branch n c.0) refl).0 x j
views_shown-GoInto app o outer n (Switch e bs) (Choice (Some c)) x j = (one_step n (step.Branch n c.0) refl).0 x j
views_shown-GoInto app o outer n (For head nodes empty) (RowList rows) x j = for_go n head empty rows x j
views_shown-GoInto app o outer n (NgContainer attrs nodes) (OutletValue (Some t) w) x j = (one_step n (step.Outlet n t) refl).0 x j
views_shown-GoInto app o outer n (NgContent attrs nodes) value x j = (fallback_steps n nodes (is_filled app o attrs)).0 x j
views_shown-GoInto app o outer n f value x j = absurd j
