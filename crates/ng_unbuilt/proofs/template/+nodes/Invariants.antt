use Rattle.std.proofs.Common.{◌≡◌, take}
use Rattle.std.specs.List.{flat_map}
use Rattle.ng_ast.specs.declared.TNode.{out-TNode}
use Rattle.ng_ast.specs.Nodes.{branch_nodes}
use Rattle.ng_semantics.specs.First.{names_of}
use Rattle.ng_unbuilt.specs.Least.{least_of}
use Rattle.ng_unbuilt.specs.Forms.{node_forms, template_forms}
use Rattle.ng_unbuilt.proofs.template.+nodes.Given as goal

abbrev pub invariant-nodes-loop-one : goal.invariant-nodes-loop-one
invariant-nodes-loop-one l = l.best ≡ least_of l.initial.best (template_forms (names_of l.members) (take l.one-index l.nodes))

abbrev pub invariant-branches-loop-branch : goal.invariant-branches-loop-branch
invariant-branches-loop-branch l = l.best ≡ least_of l.initial.best (flat_map (λ t. node_forms (names_of l.members) (out-TNode t)) (flat_map branch_nodes (take l.branch-index l.branches)))
