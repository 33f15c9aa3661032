-- The forms of a node, and then of what stands inside it.
use Rattle.std.proofs.Common.{◌≡◌, List, [], ◌∷◌, ◌++◌, ap, ◌∙◌, sym, Option}
use Rattle.std.specs.List.{flat_map}
use Rattle.std.proofs.lemmas.Grind.{flat_map-append}
use Rattle.ng_values.specs.declared.text.NgText.{NgText}
use Rattle.ng_ast.specs.declared.Place.{Place}
use Rattle.ng_ast.specs.declared.Expr.{Expr}
use Rattle.ng_ast.specs.declared.Piece.{Piece}
use Rattle.ng_ast.specs.declared.ForHead.{ForHead}
use Rattle.ng_ast.specs.declared.TAttr.{TAttr}
use Rattle.ng_ast.specs.declared.Branch.{Branch}
use Rattle.ng_ast.specs.declared.TNode.{TNode, out-TNode}
use Rattle.ng_ast.specs.declared.TNode.TheVariants as node
use Rattle.ng_ast.specs.Inner.{optional_nodes}
use Rattle.ng_ast.specs.Nodes.{node_and_inner, all_nodes, branch_nodes}
use Rattle.ng_ast.specs.NodesLaws.{nodes-Element, nodes-Text, nodes-If, nodes-For, nodes-Switch, nodes-Let}
use Rattle.ng_semantics.specs.Text.{Text}
use Rattle.ng_unbuilt.specs.Least.{least_of}
use Rattle.ng_unbuilt.specs.LeastLaws.{least_of-append}
use Rattle.ng_unbuilt.specs.Forms.{node_forms}

abbrev pub form : List Text → TNode → List Place
form names t = node_forms names (out-TNode t)

-- ---- what stands inside a node

pub inside-Element : (t : TNode) (p : Place) (tag : NgText) (attrs : List TAttr) (ts : List TNode) → t ≡ node.Element p tag attrs ts → node_and_inner t ≡ t ∷ all_nodes ts
inside-Element t p tag attrs ts is = ap node_and_inner is ∙ nodes-Element p tag attrs ts ∙ ap (λ u. u ∷ all_nodes ts) (sym is)

pub inside-Text : (t : TNode) (p : Place) (pieces : List Piece) → t ≡ node.Text p pieces → node_and_inner t ≡ t ∷ []
inside-Text t p pieces is = ap node_and_inner is ∙ nodes-Text p pieces ∙ ap (λ u. u ∷ []) (sym is)

pub inside-If : (t : TNode) (p : Place) (bs : List Branch) → t ≡ node.If p bs → node_and_inner t ≡ t ∷ flat_map branch_nodes bs
inside-If t p bs is = ap node_and_inner is ∙ nodes-If p bs ∙ ap (λ u. u ∷ flat_map branch_nodes bs) (sym is)

pub inside-For : (t : TNode) (p : Place) (head : ForHead) (ts : List TNode) (empty : Option Branch) → t ≡ node.For p head ts empty
    → node_and_inner t ≡ t ∷ (all_nodes ts ++ all_nodes (optional_nodes empty))
inside-For t p head ts empty is = ap node_and_inner is ∙ nodes-For p head ts empty ∙ ap (λ u. u ∷ (all_nodes ts ++ all_nodes (optional_nodes empty))) (sym is)

pub inside-Switch : (t : TNode) (p : Place) (e : Expr) (bs : List Branch) → t ≡ node.Switch p e bs → node_and_inner t ≡ t ∷ flat_map branch_nodes bs
inside-Switch t p e bs is = ap node_and_inner is ∙ nodes-Switch p e bs ∙ ap (λ u. u ∷ flat_map branch_nodes bs) (sym is)

pub inside-Let : (t : TNode) (p : Place) (name : NgText) (e : Expr) → t ≡ node.Let p name e → node_and_inner t ≡ t ∷ []
inside-Let t p name e is = ap node_and_inner is ∙ nodes-Let p name e ∙ ap (λ u. u ∷ []) (sym is)

-- ---- the least of all of them

-- of a node, and then of what stands inside it
pub told : (names : List Text) (t : TNode) (rest : List TNode) (first this new : Option Place) → node_and_inner t ≡ t ∷ rest
    → this ≡ least_of first (form names t) → new ≡ least_of this (flat_map (form names) rest) → new ≡ least_of first (flat_map (form names) (node_and_inner t))
told names t rest first this new inside here now =
    now ∙ ap (λ b. least_of b (flat_map (form names) rest)) here ∙ sym (least_of-append first (form names t) (flat_map (form names) rest)) ∙ ap (λ ts. least_of first (flat_map (form names) ts)) (sym inside)

-- of some nodes, and then of others
pub told_both : (names : List Text) (ts us : List TNode) (first this new : Option Place)
    → this ≡ least_of first (flat_map (form names) ts) → new ≡ least_of this (flat_map (form names) us) → new ≡ least_of first (flat_map (form names) (ts ++ us))
told_both names ts us first this new here now =
    now ∙ ap (λ b. least_of b (flat_map (form names) us)) here ∙ sym (least_of-append first (flat_map (form names) ts) (flat_map (form names) us)) ∙ ap (least_of first) (sym (flat_map-append (form names) ts us))
