use Rattle.std.proofs.Common.{length}
use Rattle.ng_attributes.specs.Spelling.{IsSpelled}
use Rattle.ng_attributes.specs.Pieces.{GoesPieces}
use Rattle.ng_attributes.proofs.pieces.pieces.Given as goal

abbrev pub invariant-loop-rest : goal.invariant-loop-rest
invariant-loop-rest l = record {
  goes : GoesPieces l.fn.value.letters.now l.found l.rest.letters.now;
  spelled : IsSpelled l.rest;
}

abbrev pub decreases-loop-rest : goal.decreases-loop-rest
decreases-loop-rest l = length l.rest.letters.now
