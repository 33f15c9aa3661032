-- The tree that an application shows.
use Rattle.std.specs.Prelude.{ℕ, zero, suc, ◌+◌, List, [], ◌∷◌, ◌++◌, length, Ok, Err}
use Rattle.std.specs.List.{flat_map}
use Rattle.ng_values.specs.View.{plain}
use Rattle.ng_values.specs.Text.{text}
use Rattle.ng_ast.specs.declared.Component.{Component}
use Rattle.ng_ast.specs.declared.Piece.{Piece}
use Rattle.ng_ast.specs.declared.Piece.TheVariants as piece
use Rattle.ng_ast.specs.declared.TNode.{TNode, out-TNode}
use Rattle.ng_ast.specs.declared.TNode.TheOpen.{TNode-F}
use Rattle.ng_ast.specs.declared.Branch.{Branch}
use Rattle.ng_tree.specs.declared.NodeId.TheVariants as id
use Rattle.ng_tree.specs.declared.PNode.{PNode}
use Rattle.ng_tree.specs.declared.PNode.TheVariants as pnode
use Rattle.ng_semantics.specs.Text.{Text}
use Rattle.ng_semantics.specs.Declared.{tag_of, initial_fields}
use Rattle.ng_semantics.specs.Meaning.{World, Answer, mean}
use Rattle.ng_semantics.specs.Template.{nesting, in_order}

-- The text of an interpolation. The name of a field, which is all that is interpolated so far, has no fault.
abbrev pub answer_text : Answer → Text
answer_text (Ok value) = text (plain value)
answer_text (Err fault) = []

abbrev pub piece_text : World → Piece → Text
piece_text world (piece.Text t) = t
piece_text world (piece.Value place e) = answer_text (mean world e)

-- A text node shows its pieces, one after another.
abbrev pub pieces_text : World → List Piece → Text
pieces_text world = flat_map (piece_text world)

-- What the node with this number shows on the page, given what nodes inside it show.
abbrev pub node_shown : (ℕ → List TNode → List PNode) → World → ℕ → TNode-F TNode Branch → List PNode
node_shown inner world n (TNode-F.Element place tag attrs nodes) = pnode.Element (id.At [] n) tag [] (inner (n + 1) nodes) ∷ []
node_shown inner world n (TNode-F.Text place pieces) = pnode.Text (id.At [] n) (pieces_text world pieces) ∷ []
node_shown inner world n _ = []

-- What nodes that stand side by side show, of which the first has this number.
abbrev pub side_by_side : (ℕ → TNode → List PNode) → (TNode → ℕ) → ℕ → List TNode → List PNode
side_by_side shown numbers n [] = []
side_by_side shown numbers n (node ∷ rest) = shown n node ++ side_by_side shown numbers (n + numbers node) rest

-- The page nodes of a template, whose first node has this number, at most so many levels deep.
unfoldable pub grow : ℕ → World → ℕ → List TNode → List PNode
grow zero world n nodes = []
grow (suc depth) world n nodes =
    side_by_side (λ m node. node_shown (grow depth world) world m (out-TNode node)) (λ node. length (in_order (suc depth) (node ∷ []))) n nodes

-- What an application holds, and the tree that it showed last.
pub record State : Type 0 where
  pub world : World
  pub tree : List PNode

-- Nothing is shown yet, and the fields have their initial values.
abbrev pub initial : Component → State
initial c = record { world = initial_fields c.members; tree = [] }

-- A pass: the tree is grown anew from what is held.
abbrev pub settle : Component → State → State
settle c z = record { world = z.world; tree = grow nesting z.world 0 c.template.nodes }

-- The page: the root's host with the tree inside it.
abbrev pub page : Component → State → PNode
page c z = pnode.Host id.Root (tag_of c) [] z.tree
