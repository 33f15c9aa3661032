use Rattle.std.proofs.Common.{map, take, bytes_eq}
use Rattle.std.specs.HashSet.{contains}
use Rattle.ng_quiet.specs.Used.{AllKeep}
use Rattle.ng_quiet.proofs.quiet.all_keep.Given as goal

abbrev pub invariant-loop-at : goal.invariant-loop-at
invariant-loop-at l = AllKeep (map (λ c. c.now) (take l.at l.components)) l.marks l.survey.steady.items (contains bytes_eq l.survey.called)
