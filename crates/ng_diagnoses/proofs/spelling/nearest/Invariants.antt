-- What was found so far is one of the names, and near; what is found next has fewer edits.
use Rattle.std.proofs.Common.{◌<◌, ◌≤◌, ◌+◌, length, map}
use Rattle.std.specs.Prelude.{IfSome, slice_get}
use Rattle.ng_diagnoses.specs.Spelling.{reach, IsNear}
use Rattle.ng_diagnoses.proofs.spelling.nearest.Given as goal

abbrev pub invariant-loop-index : goal.invariant-loop-index
invariant-loop-index l = record {
  there : IfSome l.found (λ at. at < length l.names);
  near : IfSome l.found (λ at. IfSome (slice_get (map (λ n. n.now) l.names) at) (IsNear l.word));
  fewer : l.least ≤ reach (length l.word) + 1;
}
