-- The nodes of a template, one more at a time.
use Rattle.std.proofs.Common.{◌≡◌, List, [], ◌∷◌, ◌++◌, ap, ◌∙◌, sym, append_assoc, Option}
use Rattle.std.specs.List.{flat_map}
use Rattle.ng_values.specs.declared.text.NgText.{NgText}
use Rattle.ng_ast.specs.declared.Place.{Place}
use Rattle.ng_ast.specs.declared.Expr.{Expr}
use Rattle.ng_ast.specs.declared.ForHead.{ForHead}
use Rattle.ng_ast.specs.declared.TAttr.{TAttr}
use Rattle.ng_ast.specs.declared.Branch.{Branch}
use Rattle.ng_ast.specs.declared.TNode.{TNode}
use Rattle.ng_ast.specs.declared.TNode.TheVariants as node
use Rattle.ng_ast.specs.Inner.{optional_nodes}
use Rattle.ng_ast.specs.Nodes.{node_and_inner, all_nodes, branch_nodes}
use Rattle.ng_ast.specs.NodesLaws.{nodes-Element, nodes-Text, nodes-If, nodes-For, nodes-Switch, nodes-Let}

step : (l ms : List TNode) (t : TNode) → l ++ (t ∷ ms) ≡ (l ++ t ∷ []) ++ ms
step l ms t = sym (append_assoc l (t ∷ []) ms)

pub pushed-Element : (l : List TNode) (p : Place) (tag : NgText) (attrs : List TAttr) (ts : List TNode)
    → l ++ node_and_inner (node.Element p tag attrs ts) ≡ (l ++ node.Element p tag attrs ts ∷ []) ++ all_nodes ts
pushed-Element l p tag attrs ts = ap (λ r. l ++ r) (nodes-Element p tag attrs ts) ∙ step l (all_nodes ts) (node.Element p tag attrs ts)

pub pushed-If : (l : List TNode) (p : Place) (bs : List Branch) → l ++ node_and_inner (node.If p bs) ≡ (l ++ node.If p bs ∷ []) ++ flat_map branch_nodes bs
pushed-If l p bs = ap (λ r. l ++ r) (nodes-If p bs) ∙ step l (flat_map branch_nodes bs) (node.If p bs)

pub pushed-For : (l : List TNode) (p : Place) (head : ForHead) (ts : List TNode) (empty : Option Branch)
    → l ++ node_and_inner (node.For p head ts empty) ≡ ((l ++ node.For p head ts empty ∷ []) ++ all_nodes ts) ++ all_nodes (optional_nodes empty)
pushed-For l p head ts empty = ap (λ r. l ++ r) (nodes-For p head ts empty) ∙ step l (all_nodes ts ++ all_nodes (optional_nodes empty)) (node.For p head ts empty)
    ∙ sym (append_assoc (l ++ node.For p head ts empty ∷ []) (all_nodes ts) (all_nodes (optional_nodes empty)))

pub pushed-Switch : (l : List TNode) (p : Place) (e : Expr) (bs : List Branch) → l ++ node_and_inner (node.Switch p e bs) ≡ (l ++ node.Switch p e bs ∷ []) ++ flat_map branch_nodes bs
pushed-Switch l p e bs = ap (λ r. l ++ r) (nodes-Switch p e bs) ∙ step l (flat_map branch_nodes bs) (node.Switch p e bs)

pub ruleset node_laws = (pushed-Element, nodes-Text, pushed-If, pushed-For, pushed-Switch, nodes-Let)
