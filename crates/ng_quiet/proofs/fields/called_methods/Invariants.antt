use Rattle.std.proofs.Common.{◌≡◌, ◌++◌, drop, bytes_eq}
use Rattle.std.specs.HashSet.{contains}
use Rattle.ng_quiet.specs.Methods.{called_methods}
use Rattle.ng_quiet.proofs.fields.called_methods.Given as goal

abbrev pub invariant-loop-at : goal.invariant-loop-at
invariant-loop-at l = l.found.items ++ called_methods (contains bytes_eq l.called) l.at (drop l.at l.members) ≡ called_methods (contains bytes_eq l.called) 0 l.members
