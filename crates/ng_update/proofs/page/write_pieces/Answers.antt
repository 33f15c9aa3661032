use Rattle.std.proofs.Common.{◌++◌, sym, ap, ◌∙◌, arith}
use Rattle.std.specs.List.{flat_map}
use Rattle.ng_update.specs.Fields.{world_of}
use Rattle.ng_update.specs.Printed.{piece_printed}
use Rattle.ng_update.proofs.Lists.{take_end}
use Rattle.ng_update.proofs.Pieces.{escaped_pieces}
use Rattle.ng_update.proofs.page.write_pieces.Goals as goal

pub returns : goal.returns
returns c =
    let world = world_of c.args.fields.now in
    let before = c.args.out.now.items in
    c.loop-piece.invariant ∙ ap (λ ps. before ++ flat_map (piece_printed world) ps) (take_end c.args.pieces.now c.loop-piece.piece-index (omega arith))
    ∙ ap (λ ts. before ++ ts) (sym (escaped_pieces world c.args.pieces.now))
