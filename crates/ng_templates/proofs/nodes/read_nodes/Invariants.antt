use Rattle.std.proofs.Common.{length}
use Rattle.ng_heads.specs.Fits.{Fits}
use Rattle.ng_templates.specs.Fronts.{SoFar}
use Rattle.ng_templates.proofs.nodes.read_nodes.Given as goal

abbrev pub invariant-loop-alloc : goal.invariant-loop-alloc
invariant-loop-alloc l = record { fits : Fits l.reader.place l.reader.rest.now; far : SoFar l.fn.base l.fn.text l.reader.builder l.reader.place l.reader.rest.now }

abbrev pub decreases-loop-alloc : goal.decreases-loop-alloc
decreases-loop-alloc l = length l.reader.rest.now
