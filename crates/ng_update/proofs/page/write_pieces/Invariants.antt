use Rattle.std.proofs.Common.{◌≡◌, ◌++◌, take}
use Rattle.std.specs.List.{flat_map}
use Rattle.ng_update.specs.Fields.{world_of}
use Rattle.ng_update.specs.Printed.{piece_printed}
use Rattle.ng_update.proofs.page.write_pieces.Given as goal

abbrev pub invariant-loop-piece : goal.invariant-loop-piece
invariant-loop-piece l = l.out.items ≡ l.initial.out.items ++ flat_map (piece_printed (world_of l.fields)) (take l.piece-index l.pieces)
