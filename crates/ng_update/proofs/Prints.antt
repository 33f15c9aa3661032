-- What nodes print, one by one.
use Rattle.std.proofs.Common.{◌≡◌, ℕ, zero, suc, ◌+◌, ◌<◌, List, [], ◌++◌, length, get_or, take, refl, sym, ap, ◌∙◌}
use Rattle.ng_ast.specs.declared.TNode.{TNode, out-TNode}
use Rattle.ng_semantics.specs.Meaning.{World}
use Rattle.ng_update.specs.Printed.{node_printed, printed}
use Rattle.ng_update.proofs.Lists.{flat_map_at}

pub printed_nil : (n : ℕ) (world : World) → printed n world [] ≡ []
unfolding printed
printed_nil zero world = refl
printed_nil (suc n) world = refl

pub printed_zero : (n : ℕ) (world : World) (nodes : List TNode) → n ≡ 0 → printed n world nodes ≡ []
unfolding printed
printed_zero n world nodes e = ap (λ m. printed m world nodes) e

pub printed_more : (n d : ℕ) (world : World) (nodes : List TNode) (i : ℕ) (node : TNode) → n ≡ suc d → i < length nodes → node ≡ get_or nodes i node
    → printed n world (take (i + 1) nodes) ≡ printed n world (take i nodes) ++ node_printed (printed d world) world (out-TNode node)
unfolding printed
printed_more n d world nodes i node deep h is =
    ap (λ m. printed m world (take (i + 1) nodes)) deep ∙ flat_map_at (λ k. node_printed (printed d world) world (out-TNode k)) nodes i node h is
    ∙ ap (λ m. printed m world (take i nodes) ++ node_printed (printed d world) world (out-TNode node)) (sym deep)
