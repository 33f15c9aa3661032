-- How a list of references to nodes is read.
use Rattle.std.specs.Prelude.{List, map}
use Rattle.std.specs.Borrow.{Bor}
use Rattle.ng_ast.specs.declared.TNode.{TNode}

-- the nodes that references point to
abbrev pub pointed : List (Bor TNode) → List TNode
pointed = map (λ r. r.now)
