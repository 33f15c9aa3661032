-- Nodes that fit in some levels: those behind the first, and those inside it.
use Rattle.std.proofs.Common.{◌≡◌, ℕ, zero, suc, false, List, ◌∷◌}
use Rattle.ng_ast.specs.declared.TNode.{TNode, out-TNode}
use Rattle.ng_ast.specs.Inner.{inner}
use Rattle.ng_sizes.specs.Sizes.{is_level, IsShallow}

pub shallow_rest : (d : ℕ) (t : TNode) (ts : List TNode) → IsShallow d (t ∷ ts) → IsShallow d ts
unfolding IsShallow
shallow_rest zero t ts s = s.1
shallow_rest (suc d) t ts s = s.1

pub shallow_inner : (d : ℕ) (t : TNode) (ts : List TNode) → IsShallow (suc d) (t ∷ ts) → IsShallow d (inner t)
unfolding IsShallow
shallow_inner d t ts s = s.0

pub shallow_leaf : (t : TNode) (ts : List TNode) → IsShallow zero (t ∷ ts) → is_level (out-TNode t) ≡ false
unfolding IsShallow
shallow_leaf t ts s = s.0
