-- The components on the hosts of a template are those of the application.
use Rattle.std.specs.Prelude.{◌≡◌, ℕ, zero, suc, ◌+◌, ◌<◌, ◌≤◌, Bool, true, false, bytes_eq, codes, List, [], ◌∷◌, Option, Some, None, refl}
use Rattle.std.proofs.Common.{inl, inr, sym, ap, subst, arith}
use denote.Param.Weighed.{most}
use Rattle.ng_ast.specs.declared.App.{App}
use Rattle.ng_ast.specs.declared.TAttr.{TAttr}
use Rattle.ng_ast.specs.declared.Component.{Component}
use Rattle.ng_ast.specs.declared.Branch.{Branch}
use Rattle.ng_ast.specs.declared.TNode.{TNode, out-TNode, roll-TNode, size-TNode}
use Rattle.ng_ast.specs.declared.TNode.TheOpen.{TNode-F}
use Rattle.ng_ast.specs.declared.TNode.TheVariants as tnode
use Rattle.ng_ast.specs.declared.TNode.TheViews.{roll-out-TNode, sized-Element, sized-If, sized-For, sized-Switch, size-Branch, size_is-Branch}
use Rattle.ng_ast.specs.Nodes.{count, node_count}
use Rattle.ng_selectors.specs.Fits.{fits}
use Rattle.ng_meaning.specs.Lists.{Text}
use Rattle.ng_meaning.specs.Declared.{components}
use Rattle.ng_meaning.specs.Template.{Form, Element, Host, NgContent, NgContainer, NgTemplate, TextNode, If, For, Switch, Let, Nodes, no_nodes, node, Branches, no_branches, branch, branch_nodes, Node, seen_all, element_form, element_or_host, component_on, side_by_side, branches_from, form_layer, form_from, nodes_from, template_nodes, view_nodes, inner_nodes, nodes_of}
use Rattle.ng_meaning.specs.Places.{nodes_in_branch, nodes_in_row, nodes_in_template}
use Rattle.ng_meaning.specs.Laws.Apart.{In, In-append}
use Rattle.ng_meaning.specs.Laws.Places.{In-find}
use Rattle.ng_meaning.specs.Laws.Templates.{form_is}

module _ (app : App) where
  -- the component on each host is one of the application's
  abbrev mutual
    pub HostsKnown : Nodes → Type 0
    HostsKnown no_nodes = Unit {0}
    HostsKnown (node n p f rest) = HostsKnownIn f × HostsKnown rest

    pub HostsKnownIn : Form → Type 0
    HostsKnownIn (Element tag attrs nodes) = HostsKnown nodes
    HostsKnownIn (Host c tag attrs nodes) = In c (components app) × HostsKnown nodes
    HostsKnownIn (NgContent attrs nodes) = HostsKnown nodes
    HostsKnownIn (NgContainer attrs nodes) = HostsKnown nodes
    HostsKnownIn (NgTemplate attrs nodes) = HostsKnown nodes
    HostsKnownIn (TextNode ps) = Unit {0}
    HostsKnownIn (If bs) = HostsKnownOf bs
    HostsKnownIn (For head nodes empty) = HostsKnown nodes × HostsKnownOf empty
    HostsKnownIn (Switch e bs) = HostsKnownOf bs
    HostsKnownIn (Let name e) = Unit {0}

    pub HostsKnownOf : Branches → Type 0
    HostsKnownOf no_branches = Unit {0}
    HostsKnownOf (branch test name nodes bs) = HostsKnown nodes × HostsKnownOf bs

  -- ---- in templates

  -- whichever of the forms of an element it is
  forms_known : (tag : Text) (attrs : List TAttr) (nodes : Nodes) (content container template : Bool) (o : Option Component) → component_on app tag attrs ≡ o → HostsKnown nodes
      → HostsKnownIn (elim content [
        | true ↦ NgContent attrs nodes
        | false ↦ elim container [
          | true ↦ NgContainer attrs nodes
          | false ↦ elim template [ true ↦ NgTemplate attrs nodes | false ↦ element_or_host o tag attrs nodes ]
        ]
      ])
  forms_known tag attrs nodes true container template o e h = h
  forms_known tag attrs nodes false true template o e h = h
  forms_known tag attrs nodes false false true o e h = h
  forms_known tag attrs nodes false false false None e h = h
  forms_known tag attrs nodes false false false (Some c) e h = (In-find (λ d. fits d.selector tag (seen_all attrs)) (components app) c e, h)

  element_known : (tag : Text) (attrs : List TAttr) (nodes : Nodes) → HostsKnown nodes → HostsKnownIn (element_form app tag attrs nodes)
  element_known tag attrs nodes h =
      forms_known tag attrs nodes (bytes_eq tag (codes "ng-content")) (bytes_eq tag (codes "ng-container")) (bytes_eq tag (codes "ng-template")) (component_on app tag attrs) refl h

  -- the hosts inside nodes that are smaller are known
  abbrev Known : ℕ → Type 0
  Known m = (u : TNode) → size-TNode u < m → (n : ℕ) → HostsKnownIn (form_from app u n)

  nodes_known : (m : ℕ) → Known m → (ts : List TNode) → most size-TNode ts < m → (n : ℕ) → HostsKnown (side_by_side app (form_from app) n ts)
  nodes_known m known [] less n = tt
  nodes_known m known (t ∷ ts) less n = (known t (omega arith) n, nodes_known m known ts (omega arith) (n + node_count t))

  branches_known : (m : ℕ) → Known m → (bs : List Branch) → most size-Branch bs < m → (n : ℕ) → HostsKnownOf (branches_from app (form_from app) n bs)
  branches_known m known [] less n = tt
  branches_known m known (b ∷ bs) less n = (nodes_known m known b.nodes (omega (arith, size_is-Branch b)) n, branches_known m known bs (omega arith) (n + count b.nodes))

  layer_known : (l : TNode-F TNode Branch) → Known (size-TNode (roll-TNode l)) → (n : ℕ) → HostsKnownIn (form_layer app (form_from app) l n)
  layer_known (TNode-F.Element p tag attrs ts) known n =
      element_known tag attrs _ (nodes_known _ known ts (omega (arith, ap size-TNode (tnode.rolls-Element p tag attrs ts), sized-Element p tag attrs ts)) (n + 1))
  layer_known (TNode-F.Text p ps) known n = tt
  layer_known (TNode-F.If p bs) known n = branches_known _ known bs (omega (arith, ap size-TNode (tnode.rolls-If p bs), sized-If p bs)) (n + 1)
  layer_known (TNode-F.For p head ts None) known n =
      (nodes_known _ known ts (omega (arith, ap size-TNode (tnode.rolls-For p head ts None), sized-For p head ts None)) (n + 1), tt)
  layer_known (TNode-F.For p head ts (Some b)) known n =
      let size = size-TNode (roll-TNode (TNode-F.For p head ts (Some b))) in
      let less : most size-TNode ts < size = omega (arith, ap size-TNode (tnode.rolls-For p head ts (Some b)), sized-For p head ts (Some b)) in
      let smaller : most size-TNode b.nodes < size = omega (arith, ap size-TNode (tnode.rolls-For p head ts (Some b)), sized-For p head ts (Some b), size_is-Branch b) in
      (nodes_known size known ts less (n + 1), (nodes_known size known b.nodes smaller (n + 1 + count ts), tt))
  layer_known (TNode-F.Switch p e bs) known n = branches_known _ known bs (omega (arith, ap size-TNode (tnode.rolls-Switch p e bs), sized-Switch p e bs)) (n + 1)
  layer_known (TNode-F.Let p name e) known n = tt

  form_known : (m : ℕ) → Known m
  form_known zero t less n = absurd (omega arith)
  form_known (suc m) t less n =
      let smaller : size-TNode (roll-TNode (out-TNode t)) ≤ m = omega (arith, ap size-TNode (roll-out-TNode t)) in
      let known : Known (size-TNode (roll-TNode (out-TNode t))) = λ u small. form_known m u (omega (arith, small, smaller)) in
      subst (λ (f : ℕ → Form). HostsKnownIn (f n)) (sym (form_is app t)) (layer_known (out-TNode t) known n)

  -- The hosts of a component's template are known.
  pub template-HostsKnown : (c : Component) → HostsKnown (template_nodes app c)
  unfolding nodes_from
  template-HostsKnown c = nodes_known (suc (most size-TNode c.template.nodes)) (form_known (suc (most size-TNode c.template.nodes))) c.template.nodes (omega arith) 0

  -- ---- in views

  mutual
    view_known : (nodes : Nodes) (hosts : List (ℕ × Component)) → HostsKnown nodes → (q : Node) → In q (view_nodes hosts nodes) → HostsKnownIn q.form
    view_known no_nodes hosts h q i = absurd i
    view_known (node n p f rest) hosts h q (inl e) = subst (λ (r : Node). HostsKnownIn r.form) (sym e) h.0
    view_known (node n p f rest) hosts h q (inr i) = elim (In-append (inner_nodes hosts n f) (view_nodes hosts rest) q i) [
      | inl j ↦ inner_known f n hosts h.0 q j
      | inr j ↦ view_known rest hosts h.1 q j
    ]

    inner_known : (f : Form) (n : ℕ) (hosts : List (ℕ × Component)) → HostsKnownIn f → (q : Node) → In q (inner_nodes hosts n f) → HostsKnownIn q.form
    inner_known (Element tag attrs nodes) n hosts h q i = view_known nodes hosts h q i
    inner_known (Host c tag attrs nodes) n hosts h q i = view_known nodes ((n, c) ∷ hosts) h.1 q i
    inner_known (NgContainer attrs nodes) n hosts h q i = view_known nodes hosts h q i
    inner_known (NgContent attrs nodes) n hosts h q i = absurd i
    inner_known (NgTemplate attrs nodes) n hosts h q i = absurd i
    inner_known (TextNode ps) n hosts h q i = absurd i
    inner_known (If bs) n hosts h q i = absurd i
    inner_known (For head nodes empty) n hosts h q i = absurd i
    inner_known (Switch e bs) n hosts h q i = absurd i
    inner_known (Let name e) n hosts h q i = absurd i

  -- And those inside of each node of a view.
  pub nodes_of-HostsKnown : (nodes : Nodes) → HostsKnown nodes → (q : Node) → In q (nodes_of nodes) → HostsKnownIn q.form
  unfolding nodes_of
  nodes_of-HostsKnown nodes h q i = view_known nodes [] h q i

  branch_known : (bs : Branches) (k : ℕ) → HostsKnownOf bs → HostsKnown (branch_nodes bs k)
  branch_known no_branches k h = tt
  branch_known (branch test name nodes bs) zero h = h.0
  branch_known (branch test name nodes bs) (suc k) h = branch_known bs k h.1

  pub in_branch-HostsKnown : (f : Form) (k : ℕ) → HostsKnownIn f → HostsKnown (nodes_in_branch f k)
  in_branch-HostsKnown (If bs) k h = branch_known bs k h
  in_branch-HostsKnown (Switch e bs) k h = branch_known bs k h
  in_branch-HostsKnown (For head nodes empty) k h = branch_known empty k h.1
  in_branch-HostsKnown (NgContent attrs nodes) k h = h
  in_branch-HostsKnown _ k h = tt

  pub in_row-HostsKnown : (f : Form) → HostsKnownIn f → HostsKnown (nodes_in_row f)
  in_row-HostsKnown (For head nodes empty) h = h.0
  in_row-HostsKnown _ h = tt

  pub in_template-HostsKnown : (f : Form) → HostsKnownIn f → HostsKnown (nodes_in_template f)
  in_template-HostsKnown (NgTemplate attrs nodes) h = h
  in_template-HostsKnown _ h = tt
