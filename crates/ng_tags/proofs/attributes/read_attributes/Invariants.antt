use Rattle.std.proofs.Common.{length}
use Rattle.ng_attributes.specs.Places.{Fits}
use Rattle.ng_tags.proofs.AttributeSteps.{Goes}
use Rattle.ng_tags.proofs.attributes.read_attributes.Given as goal

abbrev pub invariant-loop-closed : goal.invariant-loop-closed
invariant-loop-closed l = record {
  goes : Goes l.fn.at l.found l.rest;
  fits : Fits l.rest.place l.rest.text.now;
}

abbrev pub decreases-loop-closed : goal.decreases-loop-closed
decreases-loop-closed l = length l.rest.text.now
