-- Nodes that nest in few levels, put together of others.
use Rattle.std.proofs.Common.{◌≡◌, ℕ, zero, suc, ◌+◌, ◌<◌, List, [], ◌∷◌, ◌++◌, refl, sym, ap, subst, arith}
use Rattle.std.specs.Prelude.{false, Option}
use Rattle.std.specs.List.{flat_map, AllByRecursion}
use Rattle.ng_values.specs.declared.text.NgText.{NgText}
use Rattle.ng_ast.specs.declared.Place.{Place}
use Rattle.ng_ast.specs.declared.Expr.{Expr}
use Rattle.ng_ast.specs.declared.Piece.{Piece}
use Rattle.ng_ast.specs.declared.TAttr.{TAttr}
use Rattle.ng_ast.specs.declared.ForHead.{ForHead}
use Rattle.ng_ast.specs.declared.Branch.{Branch}
use Rattle.ng_ast.specs.declared.TNode.{TNode, out-TNode}
use Rattle.ng_ast.specs.declared.TNode.TheOpen.{TNode-F}
use Rattle.ng_ast.specs.declared.TNode.TheVariants as node
use Rattle.ng_ast.specs.Inner.{inner, inner_layer, optional_nodes}
use Rattle.ng_sizes.specs.Sizes.{is_level, IsShallow}

all_append : {X : Type 0} (P : X → Type 0) (xs ys : List X) → AllByRecursion P xs → AllByRecursion P ys → AllByRecursion P (xs ++ ys)
all_append P [] ys h i = i
all_append P (x ∷ xs) ys h i = (h.0, all_append P xs ys h.1 i)

-- nothing stands inside a text or a `@let`
flat_layer : (l : TNode-F TNode Branch) → is_level l ≡ false → inner_layer l ≡ []
flat_layer (TNode-F.Text p pieces) e = refl
flat_layer (TNode-F.Let p name value) e = refl
flat_layer _ e = absurd cc

pub flat_inner : (t : TNode) → is_level (out-TNode t) ≡ false → inner t ≡ []
flat_inner t e = flat_layer (out-TNode t) e

pub no_nodes : (d : ℕ) → IsShallow d []
unfolding IsShallow
no_nodes zero = tt
no_nodes (suc d) = tt

pub side_by_side : (d : ℕ) (ns ms : List TNode) → IsShallow d ns → IsShallow d ms → IsShallow d (ns ++ ms)
unfolding IsShallow
side_by_side zero ns ms h i = all_append _ ns ms h i
side_by_side (suc d) ns ms h i = all_append _ ns ms h i

-- a text or a `@let` before other nodes
flat : (d : ℕ) (t : TNode) (ms : List TNode) → is_level (out-TNode t) ≡ false → IsShallow d ms → IsShallow d (t ∷ ms)
unfolding IsShallow
flat zero t ms e h = (e, h)
flat (suc d) t ms e h = (subst (IsShallow d) (sym (flat_inner t e)) (no_nodes d), h)

pub text_shallow : (d : ℕ) (p : Place) (pieces : List Piece) (ms : List TNode) → IsShallow d ms → IsShallow d (node.Text p pieces ∷ ms)
text_shallow d p pieces ms h = flat d (node.Text p pieces) ms (ap is_level (node.outs-Text p pieces)) h

pub let_shallow : (d : ℕ) (p : Place) (name : NgText) (value : Expr) (ms : List TNode) → IsShallow d ms → IsShallow d (node.Let p name value ∷ ms)
let_shallow d p name value ms h = flat d (node.Let p name value) ms (ap is_level (node.outs-Let p name value)) h

-- an element or a block before other nodes, where l levels are taken of d
pub level_shallow : (d l e : ℕ) (t : TNode) (ns ms : List TNode) → l + e ≡ d → l < d → inner t ≡ ns → ((f : ℕ) → suc l + f ≡ d → IsShallow f ns) → IsShallow e ms → IsShallow e (t ∷ ms)
unfolding IsShallow
level_shallow d l zero t ns ms sum less is go h = absurd (omega arith)
level_shallow d l (suc e) t ns ms sum less is go h = (subst (IsShallow e) (sym is) (go e (omega arith)), h)

pub inner_element : (p : Place) (tag : NgText) (attrs : List TAttr) (ts : List TNode) → inner (node.Element p tag attrs ts) ≡ ts
inner_element p tag attrs ts = ap inner_layer (node.outs-Element p tag attrs ts)

pub inner_if : (p : Place) (bs : List Branch) → inner (node.If p bs) ≡ flat_map (λ b. b.nodes) bs
inner_if p bs = ap inner_layer (node.outs-If p bs)

pub inner_for : (p : Place) (head : ForHead) (ts : List TNode) (empty : Option Branch) → inner (node.For p head ts empty) ≡ ts ++ optional_nodes empty
inner_for p head ts empty = ap inner_layer (node.outs-For p head ts empty)

pub inner_switch : (p : Place) (value : Expr) (bs : List Branch) → inner (node.Switch p value bs) ≡ flat_map (λ b. b.nodes) bs
inner_switch p value bs = ap inner_layer (node.outs-Switch p value bs)
