use Rattle.std.proofs.Common.{◌++◌, drop}
use Rattle.ng_parts.specs.Sites.{repeats}
use Rattle.ng_parts.proofs.Repeats.{Left}
use Rattle.ng_parts.proofs.site.push_repeats.Given as goal

abbrev pub invariant-loop-named : goal.invariant-loop-named
invariant-loop-named l = Left l.seen l.found.items (drop l.named-index l.names) (l.initial.found.items ++ repeats l.names)
