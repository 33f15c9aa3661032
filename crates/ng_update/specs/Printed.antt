-- The text that the nodes of a template print, without the page between.
use Rattle.std.specs.Prelude.{ℕ, zero, suc, List, [], ◌++◌, Bool, ◌||◌}
use Rattle.std.specs.List.{flat_map}
use Rattle.ng_ast.specs.declared.Expr.{Expr}
use Rattle.ng_ast.specs.declared.Expr.TheOpen.{Expr-F}
use Rattle.ng_ast.specs.declared.TNode.{TNode, out-TNode}
use Rattle.ng_ast.specs.declared.TNode.TheOpen.{TNode-F}
use Rattle.ng_ast.specs.declared.Branch.{Branch}
use Rattle.ng_ast.specs.declared.Piece.{Piece}
use Rattle.ng_semantics.specs.Text.{Text}
use Rattle.ng_semantics.specs.Meaning.{World}
use Rattle.ng_semantics.specs.Html.{escaped, start_tag, end_tag}
use Rattle.ng_semantics.specs.Tree.{piece_text, pieces_text}
use Rattle.ng_semantics.specs.First.{is_field, is_number}

-- the text of a node, given that of the nodes inside it
abbrev pub node_printed : (List TNode → Text) → World → TNode-F TNode Branch → Text
node_printed inner world (TNode-F.Element place tag attrs nodes) = start_tag tag [] ++ inner nodes ++ end_tag tag
node_printed inner world (TNode-F.Text place pieces) = escaped (pieces_text world pieces)
node_printed inner world _ = []

-- the text of nodes side by side, at most so many levels deep
unfoldable pub printed : ℕ → World → List TNode → Text
printed zero world nodes = []
printed (suc depth) world nodes = flat_map (λ node. node_printed (printed depth world) world (out-TNode node)) nodes

-- a field or a number
abbrev pub is_operand : List Text → Expr-F Expr → Bool
is_operand names e = is_field names e || is_number e

-- what a piece prints
abbrev pub piece_printed : World → Piece → Text
piece_printed world p = escaped (piece_text world p)
