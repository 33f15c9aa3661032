use Rattle.std.proofs.Common.{◌≡◌, drop}
use Rattle.ng_hosts.specs.Index.{rarest, mark_of}
use Rattle.ng_hosts.proofs.marks.mark_of.Given as goal

abbrev pub invariant-loop-part : goal.invariant-loop-part
invariant-loop-part l = rarest l.counts l.best (drop l.part-index l.one.parts) ≡ mark_of l.counts l.one
