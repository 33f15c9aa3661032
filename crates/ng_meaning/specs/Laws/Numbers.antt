-- The numbers of the nodes of a template: each node has its own, in the order of the template.
use Rattle.std.specs.Prelude.{◌≡◌, ℕ, zero, suc, ◌+◌, ◌<◌, ◌≤◌, Bool, true, false, bytes_eq, codes, List, [], ◌∷◌, ◌++◌, Option, Some, None}
use Rattle.std.specs.List.{flat_map}
use Rattle.std.proofs.Common.{inl, inr, sym, ap, subst, arith}
use denote.Param.Weighed.{most}
use Rattle.ng_ast.specs.declared.App.{App}
use Rattle.ng_ast.specs.declared.TAttr.{TAttr}
use Rattle.ng_ast.specs.declared.Component.{Component}
use Rattle.ng_ast.specs.declared.Branch.{Branch}
use Rattle.ng_ast.specs.declared.TNode.{TNode, out-TNode, roll-TNode, size-TNode}
use Rattle.ng_ast.specs.declared.TNode.TheOpen.{TNode-F}
use Rattle.ng_ast.specs.declared.TNode.TheVariants as tnode
use Rattle.ng_ast.specs.declared.TNode.TheViews.{roll-out-TNode, sized-Element, sized-If, sized-For, sized-Switch, size-Branch, size_is-Branch}
use Rattle.ng_ast.specs.Inner.{inner, inner_layer}
use Rattle.ng_ast.specs.Nodes.{count, node_count}
use Rattle.ng_ast.specs.NodesLaws.{node_count_is}
use Rattle.ng_meaning.specs.Lists.{Text}
use Rattle.ng_meaning.specs.Template.{Form, Element, Host, NgContent, NgContainer, NgTemplate, TextNode, If, For, Switch, Let, Nodes, no_nodes, node, Branches, no_branches, branch, Node, element_form, element_or_host, component_on, side_by_side, branches_from, form_layer, form_from, nodes_from, view_nodes, inner_nodes, nodes_of}
use Rattle.ng_meaning.specs.Laws.Apart.{In, In-append}
use Rattle.ng_meaning.specs.Laws.Templates.{form_is}

-- The numbers of nodes rise from one number up to before another, those inside a node behind its own.
abbrev mutual
  pub Numbered : ℕ → ℕ → Nodes → Type 0
  Numbered lo hi no_nodes = lo ≤ hi
  Numbered lo hi (node n p f rest) = (m : ℕ) × (lo ≤ n) × NumberedForm (n + 1) m f × Numbered m hi rest

  pub NumberedForm : ℕ → ℕ → Form → Type 0
  NumberedForm lo hi (Element tag attrs nodes) = Numbered lo hi nodes
  NumberedForm lo hi (Host c tag attrs nodes) = Numbered lo hi nodes
  NumberedForm lo hi (NgContent attrs nodes) = Numbered lo hi nodes
  NumberedForm lo hi (NgContainer attrs nodes) = Numbered lo hi nodes
  NumberedForm lo hi (NgTemplate attrs nodes) = Numbered lo hi nodes
  NumberedForm lo hi (TextNode ps) = lo ≤ hi
  NumberedForm lo hi (If bs) = NumberedBranches lo hi bs
  NumberedForm lo hi (For head nodes empty) = (m : ℕ) × Numbered lo m nodes × NumberedBranches m hi empty
  NumberedForm lo hi (Switch e bs) = NumberedBranches lo hi bs
  NumberedForm lo hi (Let name e) = lo ≤ hi

  pub NumberedBranches : ℕ → ℕ → Branches → Type 0
  NumberedBranches lo hi no_branches = lo ≤ hi
  NumberedBranches lo hi (branch test name nodes bs) = (m : ℕ) × Numbered lo m nodes × NumberedBranches m hi bs

-- ---- the numbers of a template are such

count-append : (ts us : List TNode) → count (ts ++ us) ≡ count ts + count us
unfolding count
count-append [] us = omega arith
count-append (t ∷ ts) us = omega (arith, count-append ts us)

-- whichever of the forms of an element it is
forms_numbered : (lo hi : ℕ) (tag : Text) (attrs : List TAttr) (nodes : Nodes) (content container template : Bool) (o : Option Component) → Numbered lo hi nodes
    → NumberedForm lo hi (elim content [
      | true ↦ NgContent attrs nodes
      | false ↦ elim container [
        | true ↦ NgContainer attrs nodes
        | false ↦ elim template [ true ↦ NgTemplate attrs nodes | false ↦ element_or_host o tag attrs nodes ]
      ]
    ])
forms_numbered lo hi tag attrs nodes true container template o h = h
forms_numbered lo hi tag attrs nodes false true template o h = h
forms_numbered lo hi tag attrs nodes false false true o h = h
forms_numbered lo hi tag attrs nodes false false false None h = h
forms_numbered lo hi tag attrs nodes false false false (Some c) h = h

module _ (app : App) where
  element_numbered : (lo hi : ℕ) (tag : Text) (attrs : List TAttr) (nodes : Nodes) → Numbered lo hi nodes → NumberedForm lo hi (element_form app tag attrs nodes)
  element_numbered lo hi tag attrs nodes h =
      forms_numbered lo hi tag attrs nodes (bytes_eq tag (codes "ng-content")) (bytes_eq tag (codes "ng-container")) (bytes_eq tag (codes "ng-template")) (component_on app tag attrs) h

  -- the numbers inside nodes that are smaller are right
  abbrev Right : ℕ → Type 0
  Right m = (u : TNode) → size-TNode u < m → (n : ℕ) → NumberedForm (n + 1) (n + node_count u) (form_from app u n)

  nodes_numbered : (m : ℕ) → Right m → (ts : List TNode) → most size-TNode ts < m → (n : ℕ) → Numbered n (n + count ts) (side_by_side app (form_from app) n ts)
  unfolding count
  nodes_numbered m right [] less n = omega arith
  nodes_numbered m right (t ∷ ts) less n = (
    n + node_count t,
    omega arith,
    right t (omega arith) n,
    subst (λ (hi : ℕ). Numbered (n + node_count t) hi (side_by_side app (form_from app) (n + node_count t) ts)) (omega arith) (nodes_numbered m right ts (omega arith) (n + node_count t)),
  )

  branches_numbered : (m : ℕ) → Right m → (bs : List Branch) → most size-Branch bs < m → (n : ℕ)
      → NumberedBranches n (n + count (flat_map (λ b. b.nodes) bs)) (branches_from app (form_from app) n bs)
  branches_numbered m right [] less n = omega arith
  branches_numbered m right (b ∷ bs) less n = (
    n + count b.nodes,
    nodes_numbered m right b.nodes (omega (arith, size_is-Branch b)) n,
    subst (λ (hi : ℕ). NumberedBranches (n + count b.nodes) hi (branches_from app (form_from app) (n + count b.nodes) bs))
        (omega (arith, count-append b.nodes (flat_map (λ c. c.nodes) bs))) (branches_numbered m right bs (omega arith) (n + count b.nodes)),
  )

  layer_numbered : (l : TNode-F TNode Branch) → Right (size-TNode (roll-TNode l)) → (n : ℕ) → NumberedForm (n + 1) (n + 1 + count (inner_layer l)) (form_layer app (form_from app) l n)
  layer_numbered (TNode-F.Element p tag attrs ts) right n =
      element_numbered (n + 1) (n + 1 + count ts) tag attrs _ (nodes_numbered _ right ts (omega (arith, ap size-TNode (tnode.rolls-Element p tag attrs ts), sized-Element p tag attrs ts)) (n + 1))
  layer_numbered (TNode-F.Text p ps) right n = omega arith
  layer_numbered (TNode-F.If p bs) right n = branches_numbered _ right bs (omega (arith, ap size-TNode (tnode.rolls-If p bs), sized-If p bs)) (n + 1)
  layer_numbered (TNode-F.For p head ts None) right n =
      let inside = nodes_numbered _ right ts (omega (arith, ap size-TNode (tnode.rolls-For p head ts None), sized-For p head ts None)) (n + 1) in
      (n + 1 + count ts, inside, omega (arith, count-append ts []))
  layer_numbered (TNode-F.For p head ts (Some b)) right n =
      let size = size-TNode (roll-TNode (TNode-F.For p head ts (Some b))) in
      let less : most size-TNode ts < size = omega (arith, ap size-TNode (tnode.rolls-For p head ts (Some b)), sized-For p head ts (Some b)) in
      let smaller : most size-TNode b.nodes < size = omega (arith, ap size-TNode (tnode.rolls-For p head ts (Some b)), sized-For p head ts (Some b), size_is-Branch b) in
      let last : n + 1 + count ts + count b.nodes ≤ n + 1 + count (ts ++ b.nodes) = omega (arith, count-append ts b.nodes) in
      (n + 1 + count ts, nodes_numbered size right ts less (n + 1), (n + 1 + count ts + count b.nodes, nodes_numbered size right b.nodes smaller (n + 1 + count ts), last))
  layer_numbered (TNode-F.Switch p e bs) right n = branches_numbered _ right bs (omega (arith, ap size-TNode (tnode.rolls-Switch p e bs), sized-Switch p e bs)) (n + 1)
  layer_numbered (TNode-F.Let p name e) right n = omega arith

  form_right : (m : ℕ) → Right m
  form_right zero t less n = absurd (omega arith)
  form_right (suc m) t less n =
      let smaller : size-TNode (roll-TNode (out-TNode t)) ≤ m = omega (arith, ap size-TNode (roll-out-TNode t)) in
      let right : Right (size-TNode (roll-TNode (out-TNode t))) = λ u small. form_right m u (omega (arith, small, smaller)) in
      let h : NumberedForm (n + 1) (n + 1 + count (inner t)) (form_from app t n) =
      subst (λ (f : ℕ → Form). NumberedForm (n + 1) (n + 1 + count (inner t)) (f n)) (sym (form_is app t)) (layer_numbered (out-TNode t) right n) in
      subst (λ (hi : ℕ). NumberedForm (n + 1) hi (form_from app t n)) (omega (arith, node_count_is t)) h

  -- The numbers of nodes side by side rise from the first one's, as many as there are.
  pub nodes_from-Numbered : (n : ℕ) (ts : List TNode) → Numbered n (n + count ts) (nodes_from app n ts)
  unfolding nodes_from
  nodes_from-Numbered n ts = nodes_numbered (suc (most size-TNode ts)) (form_right (suc (most size-TNode ts))) ts (omega arith) n

-- ---- the nodes of a view

mutual
  pub Numbered-le : (nodes : Nodes) (lo hi : ℕ) → Numbered lo hi nodes → lo ≤ hi
  Numbered-le no_nodes lo hi h = h
  Numbered-le (node n p f rest) lo hi h = let below : lo ≤ n = h.1 in omega (arith, NumberedForm-le f (n + 1) h.0 h.2, Numbered-le rest h.0 hi h.3)

  pub NumberedForm-le : (f : Form) (lo hi : ℕ) → NumberedForm lo hi f → lo ≤ hi
  NumberedForm-le (Element tag attrs nodes) lo hi h = Numbered-le nodes lo hi h
  NumberedForm-le (Host c tag attrs nodes) lo hi h = Numbered-le nodes lo hi h
  NumberedForm-le (NgContent attrs nodes) lo hi h = Numbered-le nodes lo hi h
  NumberedForm-le (NgContainer attrs nodes) lo hi h = Numbered-le nodes lo hi h
  NumberedForm-le (NgTemplate attrs nodes) lo hi h = Numbered-le nodes lo hi h
  NumberedForm-le (TextNode ps) lo hi h = h
  NumberedForm-le (If bs) lo hi h = NumberedBranches-le bs lo hi h
  NumberedForm-le (For head nodes empty) lo hi h = omega (arith, Numbered-le nodes lo h.0 h.1, NumberedBranches-le empty h.0 hi h.2)
  NumberedForm-le (Switch e bs) lo hi h = NumberedBranches-le bs lo hi h
  NumberedForm-le (Let name e) lo hi h = h

  NumberedBranches-le : (bs : Branches) (lo hi : ℕ) → NumberedBranches lo hi bs → lo ≤ hi
  NumberedBranches-le no_branches lo hi h = h
  NumberedBranches-le (branch test name nodes bs) lo hi h = omega (arith, Numbered-le nodes lo h.0 h.1, NumberedBranches-le bs h.0 hi h.2)

-- the numbers of nodes in a list rise from one number up to before another
abbrev pub Rising : ℕ → ℕ → List Node → Type 0
Rising lo hi [] = lo ≤ hi
Rising lo hi (q ∷ qs) = (lo ≤ q.number) × Rising (q.number + 1) hi qs

Rising-from : (qs : List Node) (lo low hi : ℕ) → low ≤ lo → Rising lo hi qs → Rising low hi qs
Rising-from [] lo low hi le h = omega arith
Rising-from (q ∷ qs) lo low hi le h = (omega (arith, h.0), h.1)

Rising-append : (xs ys : List Node) (lo m hi : ℕ) → Rising lo m xs → Rising m hi ys → Rising lo hi (xs ++ ys)
Rising-append [] ys lo m hi h k = Rising-from ys m lo hi h k
Rising-append (x ∷ xs) ys lo m hi h k = (h.0, Rising-append xs ys (x.number + 1) m hi h.1 k)

mutual
  view_rising : (nodes : Nodes) (hosts : List (ℕ × Component)) (lo hi : ℕ) → Numbered lo hi nodes → Rising lo hi (view_nodes hosts nodes)
  view_rising no_nodes hosts lo hi h = h
  view_rising (node n p f rest) hosts lo hi h =
      (h.1, Rising-append (inner_nodes hosts n f) (view_nodes hosts rest) (n + 1) h.0 hi (inner_rising f n hosts (n + 1) h.0 h.2) (view_rising rest hosts h.0 hi h.3))

  inner_rising : (f : Form) (n : ℕ) (hosts : List (ℕ × Component)) (lo hi : ℕ) → NumberedForm lo hi f → Rising lo hi (inner_nodes hosts n f)
  inner_rising (Element tag attrs nodes) n hosts lo hi h = view_rising nodes hosts lo hi h
  inner_rising (Host c tag attrs nodes) n hosts lo hi h = view_rising nodes ((n, c) ∷ hosts) lo hi h
  inner_rising (NgContainer attrs nodes) n hosts lo hi h = view_rising nodes hosts lo hi h
  inner_rising (NgContent attrs nodes) n hosts lo hi h = Numbered-le nodes lo hi h
  inner_rising (NgTemplate attrs nodes) n hosts lo hi h = Numbered-le nodes lo hi h
  inner_rising (TextNode ps) n hosts lo hi h = h
  inner_rising (If bs) n hosts lo hi h = NumberedBranches-le bs lo hi h
  inner_rising (For head nodes empty) n hosts lo hi h = NumberedForm-le (For head nodes empty) lo hi h
  inner_rising (Switch e bs) n hosts lo hi h = NumberedBranches-le bs lo hi h
  inner_rising (Let name e) n hosts lo hi h = h

-- the numbers inside a node are right
abbrev pub IsNumbered : Node → Type 0
IsNumbered q = (hi : ℕ) × NumberedForm (q.number + 1) hi q.form

mutual
  view_numbered : (nodes : Nodes) (hosts : List (ℕ × Component)) (lo hi : ℕ) → Numbered lo hi nodes → (q : Node) → In q (view_nodes hosts nodes) → IsNumbered q
  view_numbered no_nodes hosts lo hi h q i = absurd i
  view_numbered (node n p f rest) hosts lo hi h q (inl e) = subst IsNumbered (sym e) (h.0, h.2)
  view_numbered (node n p f rest) hosts lo hi h q (inr i) = elim (In-append (inner_nodes hosts n f) (view_nodes hosts rest) q i) [
    | inl j ↦ inner_numbered f n hosts (n + 1) h.0 h.2 q j
    | inr j ↦ view_numbered rest hosts h.0 hi h.3 q j
  ]

  inner_numbered : (f : Form) (n : ℕ) (hosts : List (ℕ × Component)) (lo hi : ℕ) → NumberedForm lo hi f → (q : Node) → In q (inner_nodes hosts n f) → IsNumbered q
  inner_numbered (Element tag attrs nodes) n hosts lo hi h q i = view_numbered nodes hosts lo hi h q i
  inner_numbered (Host c tag attrs nodes) n hosts lo hi h q i = view_numbered nodes ((n, c) ∷ hosts) lo hi h q i
  inner_numbered (NgContainer attrs nodes) n hosts lo hi h q i = view_numbered nodes hosts lo hi h q i
  inner_numbered (NgContent attrs nodes) n hosts lo hi h q i = absurd i
  inner_numbered (NgTemplate attrs nodes) n hosts lo hi h q i = absurd i
  inner_numbered (TextNode ps) n hosts lo hi h q i = absurd i
  inner_numbered (If bs) n hosts lo hi h q i = absurd i
  inner_numbered (For head nodes empty) n hosts lo hi h q i = absurd i
  inner_numbered (Switch e bs) n hosts lo hi h q i = absurd i
  inner_numbered (Let name e) n hosts lo hi h q i = absurd i

-- nodes side by side whose numbers are right, from wherever on
abbrev pub AreNumbered : Nodes → Type 0
AreNumbered nodes = (lo : ℕ) × (hi : ℕ) × Numbered lo hi nodes

-- The nodes of a view rise by their numbers.
pub nodes_of-Rising : (nodes : Nodes) (h : AreNumbered nodes) → Rising h.0 h.1 (nodes_of nodes)
unfolding nodes_of
nodes_of-Rising nodes h = view_rising nodes [] h.0 h.1 h.2

-- And the numbers inside each of them are right.
pub nodes_of-IsNumbered : (nodes : Nodes) → AreNumbered nodes → (q : Node) → In q (nodes_of nodes) → IsNumbered q
unfolding nodes_of
nodes_of-IsNumbered nodes h = view_numbered nodes [] h.0 h.1 h.2
