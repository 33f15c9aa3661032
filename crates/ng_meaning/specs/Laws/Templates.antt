-- One level of a template as the application sees it.
use Rattle.std.specs.Prelude.{◌≡◌, ℕ, ◌+◌, ◌<◌, List, [], ◌∷◌, Some, None, refl}
use Rattle.std.proofs.Common.{ap, arith}
use denote.Param.Weighed.{most}
use Rattle.ng_ast.specs.declared.App.{App}
use Rattle.ng_ast.specs.declared.Branch.{Branch}
use Rattle.ng_ast.specs.declared.TNode.{TNode, out-TNode, roll-TNode, size-TNode}
use Rattle.ng_ast.specs.declared.TNode.TheOpen.{TNode-F}
use Rattle.ng_ast.specs.declared.TNode.TheVariants as tnode
use Rattle.ng_ast.specs.declared.TNode.TheViews.{roll-out-TNode, sized-Element, sized-If, sized-For, sized-Switch, size-Branch, size_is-Branch}
use Rattle.ng_ast.specs.Nodes.{count, node_count}
use Rattle.ng_meaning.specs.Levels.{whole_is}
use Rattle.ng_meaning.specs.Template.{Form, For, If, Switch, TextNode, node, branch, no_branches, place_of, element_form, side_by_side, branches_from, empty_from, form_layer, form_from}

module _ (app : App) (f g : TNode → ℕ → Form) where
  nodes_alike : (m : ℕ) (ts : List TNode) → ((u : TNode) → size-TNode u < m → f u ≡ g u) → most size-TNode ts < m → (n : ℕ) → side_by_side app f n ts ≡ side_by_side app g n ts
  nodes_alike m [] h less n = refl
  nodes_alike m (t ∷ ts) h less n = λ i. node n (place_of (out-TNode t)) (h t (omega arith) i n) (nodes_alike m ts h (omega arith) (n + node_count t) i)

  branches_alike : (m : ℕ) (bs : List Branch) → ((u : TNode) → size-TNode u < m → f u ≡ g u) → most size-Branch bs < m → (n : ℕ) → branches_from app f n bs ≡ branches_from app g n bs
  branches_alike m [] h less n = refl
  branches_alike m (b ∷ bs) h less n =
      let smaller : most size-TNode b.nodes < m = omega (arith, size_is-Branch b) in
      λ i. branch b.test b.name (nodes_alike m b.nodes h smaller n i) (branches_alike m bs h (omega arith) (n + count b.nodes) i)

  empty_alike : (m : ℕ) (b : Branch) → ((u : TNode) → size-TNode u < m → f u ≡ g u) → size-Branch b < m → (n : ℕ) → empty_from app f n (Some b) ≡ empty_from app g n (Some b)
  empty_alike m b h less n =
      let smaller : most size-TNode b.nodes < m = omega (arith, size_is-Branch b) in
      λ i. branch b.test b.name (nodes_alike m b.nodes h smaller n i) no_branches

  form_alike : (l : TNode-F TNode Branch) → ((u : TNode) → size-TNode u < size-TNode (roll-TNode l) → f u ≡ g u) → form_layer app f l ≡ form_layer app g l
  form_alike (TNode-F.Element p tag attrs ts) h =
      let smaller : most size-TNode ts < size-TNode (roll-TNode (TNode-F.Element p tag attrs ts)) = omega (arith, ap size-TNode (tnode.rolls-Element p tag attrs ts), sized-Element p tag attrs ts) in
      λ i n. element_form app tag attrs (nodes_alike _ ts h smaller (n + 1) i)
  form_alike (TNode-F.Text p ps) h = refl
  form_alike (TNode-F.If p bs) h =
      let smaller : most size-Branch bs < size-TNode (roll-TNode (TNode-F.If p bs)) = omega (arith, ap size-TNode (tnode.rolls-If p bs), sized-If p bs) in
      λ i n. If (branches_alike _ bs h smaller (n + 1) i)
  form_alike (TNode-F.For p head ts None) h =
      let smaller : most size-TNode ts < size-TNode (roll-TNode (TNode-F.For p head ts None)) = omega (arith, ap size-TNode (tnode.rolls-For p head ts None), sized-For p head ts None) in
      λ i n. For head (nodes_alike _ ts h smaller (n + 1) i) no_branches
  form_alike (TNode-F.For p head ts (Some b)) h =
      let smaller : most size-TNode ts < size-TNode (roll-TNode (TNode-F.For p head ts (Some b))) = omega (arith, ap size-TNode (tnode.rolls-For p head ts (Some b)), sized-For p head ts (Some b)) in
      let less : size-Branch b < size-TNode (roll-TNode (TNode-F.For p head ts (Some b))) = omega (arith, ap size-TNode (tnode.rolls-For p head ts (Some b)), sized-For p head ts (Some b)) in
      λ i n. For head (nodes_alike _ ts h smaller (n + 1) i) (empty_alike _ b h less (n + 1 + count ts) i)
  form_alike (TNode-F.Switch p e bs) h =
      let smaller : most size-Branch bs < size-TNode (roll-TNode (TNode-F.Switch p e bs)) = omega (arith, ap size-TNode (tnode.rolls-Switch p e bs), sized-Switch p e bs) in
      λ i n. Switch e (branches_alike _ bs h smaller (n + 1) i)
  form_alike (TNode-F.Let p name e) h = refl

-- The form of a node is one level over the forms of those inside.
pub form_is : (app : App) (t : TNode) → form_from app t ≡ form_layer app (form_from app) (out-TNode t)
form_is app = whole_is out-TNode size-TNode (λ n. TextNode []) (form_layer app) (λ f g t h. form_alike app f g (out-TNode t) (λ u small. h u (omega (arith, ap size-TNode (roll-out-TNode t)))))
