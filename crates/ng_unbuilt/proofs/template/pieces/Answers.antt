use Rattle.ng_semantics.specs.First.{names_of}
use Rattle.ng_unbuilt.specs.Forms.{piece_forms}
use Rattle.ng_unbuilt.proofs.Items.{least_next}
use Rattle.ng_unbuilt.proofs.template.pieces.Goals as goal

pub loop-one-preserved : goal.loop-one-preserved
loop-one-preserved c = least_next (piece_forms (names_of c.args.members.now)) c.args.pieces.now c.loop-one.one-index c.one-item.result c.args.best c.loop-one.best c.piece-best.result c.loop-one-test.true c.one-item.is c.loop-one.invariant
    c.piece-best.ensures
