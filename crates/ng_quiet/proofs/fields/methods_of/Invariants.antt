use Rattle.std.proofs.Common.{◌≡◌, take}
use Rattle.ng_scopes.specs.Names.{nothing}
use Rattle.ng_scopes.specs.Scope.{kept_in}
use Rattle.ng_quiet.specs.Methods.{call_graph, assigning}
use Rattle.ng_quiet.proofs.fields.methods_of.Given as goal

abbrev pub invariant-loop-member : goal.invariant-loop-member
invariant-loop-member l = record {
  graph : l.graph.items ≡ call_graph (kept_in l.table nothing 0) (take l.member-index l.members);
  assigning : l.assigning.items ≡ assigning (kept_in l.table nothing 0) (take l.member-index l.members);
}
