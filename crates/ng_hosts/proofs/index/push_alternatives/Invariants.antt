use Rattle.std.proofs.Common.{take}
use Rattle.ng_hosts.specs.Index.{marked, Adds}
use Rattle.ng_hosts.proofs.index.push_alternatives.Given as goal

abbrev pub invariant-loop-alternative : goal.invariant-loop-alternative
invariant-loop-alternative l = Adds l.initial.index l.index (λ w. marked l.counts w l.component 0 (take l.alternative l.ones))
