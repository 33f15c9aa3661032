use Rattle.std.proofs.Common.{◌≡◌, ◌+◌, ◌++◌, take, drop}
use Rattle.std.specs.List.{flat_map}
use Rattle.ng_scopes.specs.Scope.{meaning_of, names_at}
use Rattle.ng_scopes.specs.Templates.{branch_reads, lets_in, reads_in}
use Rattle.ng_scopes.proofs.templates.+reads.Given as goal

abbrev pub invariant-push_nodes-loop-node : goal.invariant-push_nodes-loop-node
invariant-push_nodes-loop-node l = record { passed : l.next + lets_in (drop l.node-index l.nodes) ≡ l.passed + lets_in l.nodes; found : l.found.items ++ reads_in (names_at l.view) l.next (drop l.node-index l.nodes) ≡ l.initial.found.items ++ reads_in (names_at l.view) l.passed l.nodes }

abbrev pub invariant-push_branches-loop-branch : goal.invariant-push_branches-loop-branch
invariant-push_branches-loop-branch l = l.found.items ≡ l.initial.found.items ++ flat_map (branch_reads (meaning_of l.scope)) (take l.branch-index l.branches)
