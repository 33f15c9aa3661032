-- A function of a node and all that stands inside it, from one step.
use Rattle.std.specs.Prelude.{◌≡◌, ℕ, zero, suc, ◌<◌, ◌≤◌, max, List, [], ◌∷◌, ◌++◌, map, Some, None, refl}
use Rattle.std.specs.List.{flat_map}
use Rattle.std.proofs.Common.{ap, sym, arith}
use denote.Param.Weighed.{most}
use Rattle.ng_ast.specs.declared.Branch.{Branch}
use Rattle.ng_ast.specs.declared.TNode.{TNode, out-TNode, roll-TNode, size-TNode}
use Rattle.ng_ast.specs.declared.TNode.TheOpen.{TNode-F}
use Rattle.ng_ast.specs.declared.TNode.TheVariants as node
use Rattle.ng_ast.specs.declared.TNode.TheViews.{roll-out-TNode, sized-Element, sized-Text, sized-If, sized-For, sized-Switch, sized-Let, size-Branch, size_is-Branch}
use Rattle.ng_ast.specs.Inner.{inner, inner_layer}

-- The step has the node and what the nodes directly inside it give. The walk goes n levels deep, with `none` for what is deeper.
module _ {A : Type 0} (none : A) (step : TNode → List A → A) where
  abbrev pub levels : ℕ → TNode → A
  levels zero t = none
  levels (suc n) t = step t (map (levels n) (inner t))

  -- the walk through all levels
  abbrev pub walked : TNode → A
  walked t = levels (suc (size-TNode t)) t

most-append : (ts us : List TNode) → most size-TNode (ts ++ us) ≤ max (most size-TNode ts) (most size-TNode us)
most-append [] us = omega arith
most-append (t ∷ ts) us = omega (arith, most-append ts us)

branch_deeper : (b : Branch) → most size-TNode b.nodes < size-Branch b
branch_deeper b = omega (arith, size_is-Branch b)

branches_deeper : (bs : List Branch) → most size-TNode (flat_map (λ b. b.nodes) bs) ≤ most size-Branch bs
branches_deeper [] = omega arith
branches_deeper (b ∷ bs) = omega (arith, most-append b.nodes (flat_map (λ c. c.nodes) bs), branch_deeper b, branches_deeper bs)

layer_deeper : (l : TNode-F TNode Branch) → most size-TNode (inner_layer l) < size-TNode (roll-TNode l)
layer_deeper (TNode-F.Element p tag attrs ts) = omega (arith, ap size-TNode (node.rolls-Element p tag attrs ts), sized-Element p tag attrs ts)
layer_deeper (TNode-F.Text p pieces) = omega (arith, ap size-TNode (node.rolls-Text p pieces), sized-Text p pieces)
layer_deeper (TNode-F.If p bs) = omega (arith, ap size-TNode (node.rolls-If p bs), sized-If p bs, branches_deeper bs)
layer_deeper (TNode-F.For p head ts None) = omega (arith, ap size-TNode (node.rolls-For p head ts None), sized-For p head ts None, most-append ts [])
layer_deeper (TNode-F.For p head ts (Some b)) = omega (arith, ap size-TNode (node.rolls-For p head ts (Some b)), sized-For p head ts (Some b), most-append ts b.nodes, branch_deeper b)
layer_deeper (TNode-F.Switch p e bs) = omega (arith, ap size-TNode (node.rolls-Switch p e bs), sized-Switch p e bs, branches_deeper bs)
layer_deeper (TNode-F.Let p name e) = omega (arith, ap size-TNode (node.rolls-Let p name e), sized-Let p name e)

-- what stands inside a node is smaller
pub inner_deeper : (t : TNode) → most size-TNode (inner t) < size-TNode t
inner_deeper t = omega (arith, layer_deeper (out-TNode t), ap size-TNode (roll-out-TNode t))

module _ {A : Type 0} (none : A) (step : TNode → List A → A) where
  alike : (m n : ℕ) (ts : List TNode) → ((t : TNode) → size-TNode t < m → levels none step m t ≡ levels none step n t) → most size-TNode ts < m
      → map (levels none step m) ts ≡ map (levels none step n) ts
  alike m n [] h less = refl
  alike m n (t ∷ ts) h less = λ i. h t (omega arith) i ∷ alike m n ts h (omega arith) i

  -- more levels than the node is deep change nothing
  enough : (m n : ℕ) (t : TNode) → size-TNode t < m → m ≤ n → levels none step m t ≡ levels none step n t
  enough zero n t less most = absurd (omega arith)
  enough (suc m) zero t less most = absurd (omega arith)
  enough (suc m) (suc n) t less most = ap (step t) (alike m n (inner t) (λ u small. enough m n u small (omega arith)) (omega (arith, inner_deeper t)))

  fill : (n : ℕ) (ts : List TNode) → most size-TNode ts < n → map (levels none step n) ts ≡ map (walked none step) ts
  fill n [] less = refl
  fill n (t ∷ ts) less = λ i. sym (enough (suc (size-TNode t)) n t (omega arith) (omega arith)) i ∷ fill n ts (omega arith) i

  -- one level of a walk
  pub walked_is : (t : TNode) → walked none step t ≡ step t (map (walked none step) (inner t))
  walked_is t = ap (step t) (fill (size-TNode t) (inner t) (inner_deeper t))
