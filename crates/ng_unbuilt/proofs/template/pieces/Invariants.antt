use Rattle.std.proofs.Common.{◌≡◌, take}
use Rattle.std.specs.List.{flat_map}
use Rattle.ng_semantics.specs.First.{names_of}
use Rattle.ng_unbuilt.specs.Least.{least_of}
use Rattle.ng_unbuilt.specs.Forms.{piece_forms}
use Rattle.ng_unbuilt.proofs.template.pieces.Given as goal

abbrev pub invariant-loop-one : goal.invariant-loop-one
invariant-loop-one l = l.best ≡ least_of l.initial.best (flat_map (piece_forms (names_of l.members)) (take l.one-index l.pieces))
