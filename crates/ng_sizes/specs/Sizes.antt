-- How deep the nodes of a template nest.
use Rattle.std.specs.Prelude.{◌≡◌, ℕ, zero, suc, Bool, true, false, List}
use Rattle.std.specs.List.{AllByRecursion}
use Rattle.ng_ast.specs.declared.Branch.{Branch}
use Rattle.ng_ast.specs.declared.TNode.{TNode, out-TNode}
use Rattle.ng_ast.specs.declared.TNode.TheOpen.{TNode-F}
use Rattle.ng_ast.specs.Inner.{inner}

-- An element or a block, which is a level of its own. The branches of a block and the cases of a `@switch` are no nodes, and so no further levels.
abbrev pub is_level : TNode-F TNode Branch → Bool
is_level (TNode-F.Element place tag attrs nodes) = true
is_level (TNode-F.Text place pieces) = false
is_level (TNode-F.If place branches) = true
is_level (TNode-F.For place head nodes empty) = true
is_level (TNode-F.Switch place value branches) = true
is_level (TNode-F.Let place name value) = false

-- The elements and blocks of the nodes nest at most so many levels: where no level is left there are none, and what stands inside a
-- node has one level less.
unfoldable pub IsShallow : ℕ → List TNode → Type 0
IsShallow zero nodes = AllByRecursion (λ t. is_level (out-TNode t) ≡ false) nodes
IsShallow (suc d) nodes = AllByRecursion (λ t. IsShallow d (inner t)) nodes
