-- The equations of the definitions of `Nodes`.
use Rattle.std.proofs.Common.{◌≡◌, ℕ, zero, suc, ◌+◌, ◌<◌, List, [], ◌∷◌, ◌++◌, length, map, Option, refl, ap, sym, ◌∙◌, arith, length-append, append_assoc}
use Rattle.std.specs.List.{flat_map}
use denote.Param.Weighed.{most}
use Rattle.ng_values.specs.declared.text.NgText.{NgText}
use Rattle.ng_ast.specs.declared.Place.{Place}
use Rattle.ng_ast.specs.declared.Expr.{Expr}
use Rattle.ng_ast.specs.declared.Piece.{Piece}
use Rattle.ng_ast.specs.declared.ForHead.{ForHead}
use Rattle.ng_ast.specs.declared.TAttr.{TAttr}
use Rattle.ng_ast.specs.declared.Branch.{Branch}
use Rattle.ng_ast.specs.declared.TNode.{TNode, size-TNode}
use Rattle.ng_ast.specs.declared.TNode.TheVariants as node
use Rattle.ng_ast.specs.Inner.{inner, inner_layer, optional_nodes}
use Rattle.ng_ast.specs.Nodes.{node_and_inner, all_nodes, branch_nodes, total, node_count, count}
use Rattle.ng_ast.specs.Walked.{walked_is, inner_deeper}

flat_map-map : {X Y A : Type 0} (g : Y → List A) (f : X → Y) (xs : List X) → flat_map g (map f xs) ≡ flat_map (λ x. g (f x)) xs
flat_map-map g f [] = refl
flat_map-map g f (x ∷ xs) = ap (λ r. g (f x) ++ r) (flat_map-map g f xs)

pub all_nodes-append : (ts us : List TNode) → all_nodes (ts ++ us) ≡ all_nodes ts ++ all_nodes us
all_nodes-append [] us = refl
all_nodes-append (t ∷ ts) us = ap (λ r. node_and_inner t ++ r) (all_nodes-append ts us) ∙ sym (append_assoc (node_and_inner t) (all_nodes ts) (all_nodes us))

branches_nodes : (bs : List Branch) → all_nodes (flat_map (λ b. b.nodes) bs) ≡ flat_map branch_nodes bs
branches_nodes [] = refl
branches_nodes (b ∷ bs) = all_nodes-append b.nodes (flat_map (λ c. c.nodes) bs) ∙ ap (λ r. branch_nodes b ++ r) (branches_nodes bs)

-- a node stands before all that stands inside it
pub node_and_inner_is : (t : TNode) → node_and_inner t ≡ t ∷ all_nodes (inner t)
unfolding node_and_inner
node_and_inner_is t = walked_is [] (λ u insides. u ∷ flat_map (λ ts. ts) insides) t ∙ ap (λ r. t ∷ r) (flat_map-map (λ (ts : List TNode). ts) node_and_inner (inner t))

pub nodes-Element : (p : Place) (tag : NgText) (attrs : List TAttr) (ts : List TNode) → node_and_inner (node.Element p tag attrs ts) ≡ node.Element p tag attrs ts ∷ all_nodes ts
nodes-Element p tag attrs ts = node_and_inner_is _ ∙ ap (λ l. node.Element p tag attrs ts ∷ all_nodes (inner_layer l)) (node.outs-Element p tag attrs ts)

pub nodes-Text : (p : Place) (pieces : List Piece) → node_and_inner (node.Text p pieces) ≡ node.Text p pieces ∷ []
nodes-Text p pieces = node_and_inner_is _ ∙ ap (λ l. node.Text p pieces ∷ all_nodes (inner_layer l)) (node.outs-Text p pieces)

pub nodes-If : (p : Place) (bs : List Branch) → node_and_inner (node.If p bs) ≡ node.If p bs ∷ flat_map branch_nodes bs
nodes-If p bs = node_and_inner_is _ ∙ ap (λ l. node.If p bs ∷ all_nodes (inner_layer l)) (node.outs-If p bs) ∙ ap (λ r. node.If p bs ∷ r) (branches_nodes bs)

pub nodes-For : (p : Place) (head : ForHead) (ts : List TNode) (empty : Option Branch)
    → node_and_inner (node.For p head ts empty) ≡ node.For p head ts empty ∷ (all_nodes ts ++ all_nodes (optional_nodes empty))
nodes-For p head ts empty = node_and_inner_is _ ∙ ap (λ l. node.For p head ts empty ∷ all_nodes (inner_layer l)) (node.outs-For p head ts empty) ∙ ap (λ r. node.For p head ts empty ∷ r) (all_nodes-append ts (optional_nodes empty))

pub nodes-Switch : (p : Place) (e : Expr) (bs : List Branch) → node_and_inner (node.Switch p e bs) ≡ node.Switch p e bs ∷ flat_map branch_nodes bs
nodes-Switch p e bs = node_and_inner_is _ ∙ ap (λ l. node.Switch p e bs ∷ all_nodes (inner_layer l)) (node.outs-Switch p e bs) ∙ ap (λ r. node.Switch p e bs ∷ r) (branches_nodes bs)

pub nodes-Let : (p : Place) (name : NgText) (e : Expr) → node_and_inner (node.Let p name e) ≡ node.Let p name e ∷ []
nodes-Let p name e = node_and_inner_is _ ∙ ap (λ l. node.Let p name e ∷ all_nodes (inner_layer l)) (node.outs-Let p name e)

pub ruleset node_laws = (nodes-Element, nodes-Text, nodes-If, nodes-For, nodes-Switch, nodes-Let)

counted : (ts : List TNode) → total (map node_count ts) ≡ count ts
unfolding count
counted [] = refl
counted (u ∷ us) = ap (λ n. node_count u + n) (counted us)

-- a node counts one, and what stands inside it the rest
pub node_count_is : (t : TNode) → node_count t ≡ 1 + count (inner t)
unfolding node_count
node_count_is t = walked_is 0 (λ u counts. 1 + total counts) t ∙ ap (λ n. 1 + n) (counted (inner t))

counts_agree : (n : ℕ) (ts : List TNode) → most size-TNode ts < n → length (all_nodes ts) ≡ count ts
unfolding count
counts_agree zero ts less = absurd (omega arith)
counts_agree (suc n) [] less = refl
counts_agree (suc n) (t ∷ ts) less =
    let inside : length (node_and_inner t) ≡ node_count t = ap length (node_and_inner_is t) ∙ ap suc (counts_agree n (inner t) (omega (arith, inner_deeper t))) ∙ (omega (arith, node_count_is t)) in
    omega (arith, length-append (node_and_inner t) (all_nodes ts), inside, counts_agree (suc n) ts (omega arith))

-- `count` is the number of all nodes
pub count_is : (ts : List TNode) → length (all_nodes ts) ≡ count ts
count_is ts = counts_agree (suc (most size-TNode ts)) ts (omega arith)
