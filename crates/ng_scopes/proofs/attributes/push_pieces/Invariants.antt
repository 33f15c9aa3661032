use Rattle.std.proofs.Common.{◌≡◌, ◌++◌, take}
use Rattle.std.specs.List.{flat_map}
use Rattle.ng_scopes.specs.Scope.{meaning_of}
use Rattle.ng_scopes.specs.Templates.{piece_usages}
use Rattle.ng_scopes.proofs.attributes.push_pieces.Given as goal

abbrev pub invariant-loop-piece : goal.invariant-loop-piece
invariant-loop-piece l = l.found.items ≡ l.initial.found.items ++ flat_map (piece_usages (meaning_of l.scope)) (take l.piece-index l.pieces)
