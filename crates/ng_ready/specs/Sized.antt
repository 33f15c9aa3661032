-- How large the templates of an application are.
use Rattle.std.specs.Prelude.{◌≤◌, Contains, length}
use Rattle.ng_ast.specs.declared.App.{App}
use Rattle.ng_ast.specs.declared.Component.{Component}
use Rattle.ng_ast.specs.declared.Decl.TheVariants as decl
use Rattle.ng_ast.specs.Nodes.{all_nodes}
use Rattle.ng_sizes.specs.Sizes.{IsShallow}

-- Each template has at most 4,096 nodes, which fit in 32 levels.
abbrev pub AreSized : App → Type 0
AreSized app = (c : Component) → Contains app.decls (decl.Component c) → IsShallow 32 c.template.nodes × (length (all_nodes c.template.nodes) ≤ 4096)
