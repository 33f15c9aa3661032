-- All nodes, and those down to some level.
use Rattle.std.proofs.Common.{◌≡◌, ℕ, zero, suc, List, [], ◌∷◌, ◌++◌, refl, sym, ◌∙◌, ap}
use Rattle.std.specs.Prelude.{Some, None}
use Rattle.std.specs.List.{flat_map, AllByRecursion}
use Rattle.ng_ast.specs.declared.Branch.{Branch}
use Rattle.ng_ast.specs.declared.TNode.{TNode, out-TNode}
use Rattle.ng_ast.specs.declared.TNode.TheOpen.{TNode-F}
use Rattle.ng_ast.specs.Inner.{inner, inner_layer}
use Rattle.ng_ast.specs.Nodes.{node_and_inner, all_nodes}
use Rattle.ng_ast.specs.NodesLaws.{node_and_inner_is}
use Rattle.ng_semantics.specs.Template.{inside, in_order}
use Rattle.ng_sizes.specs.Sizes.{IsShallow}
use Rattle.ng_sizes.proofs.Shallow.{flat_inner}

inside_is : (l : TNode-F TNode Branch) → inside l ≡ inner_layer l
inside_is (TNode-F.Element p tag attrs ts) = refl
inside_is (TNode-F.Text p pieces) = refl
inside_is (TNode-F.If p bs) = refl
inside_is (TNode-F.For p head ts None) = refl
inside_is (TNode-F.For p head ts (Some b)) = refl
inside_is (TNode-F.Switch p value bs) = refl
inside_is (TNode-F.Let p name value) = refl

-- two functions that agree at each of the items
same_at_each : {X A : Type 0} (P : X → Type 0) (f g : X → List A) → ((x : X) → P x → f x ≡ g x) → (xs : List X) → AllByRecursion P xs → flat_map f xs ≡ flat_map g xs
same_at_each P f g same [] h = refl
same_at_each P f g same (x ∷ xs) h = ap (λ r. r ++ flat_map f xs) (same x h.0) ∙ ap (λ r. g x ++ r) (same_at_each P f g same xs h.1)

-- ---- the law: where the nodes nest in d levels, those down to one level more are all
pub order_is : (d : ℕ) (ns : List TNode) → IsShallow d ns → in_order (suc d) ns ≡ all_nodes ns
unfolding in_order IsShallow
order_is zero ns h = same_at_each _ (λ t. t ∷ []) node_and_inner (λ t e. sym (node_and_inner_is t ∙ ap (λ ts. t ∷ all_nodes ts) (flat_inner t e))) ns h
order_is (suc d) ns h = same_at_each _ (λ t. t ∷ in_order (suc d) (inside (out-TNode t))) node_and_inner
    (λ t i. ap (λ ts. t ∷ in_order (suc d) ts) (inside_is (out-TNode t)) ∙ ap (λ ts. t ∷ ts) (order_is d (inner t) i) ∙ sym (node_and_inner_is t)) ns h
