use Rattle.std.proofs.Common.{◌∙◌, ap, arith}
use Rattle.ng_attributes.specs.Pieces.{text_len}
use Rattle.ng_attributes.proofs.PieceSteps.{text_boundary, text_piece}
use Rattle.ng_attributes.proofs.pieces.piece.Goals as goal

pub split-requires-clause-boundary : goal.split-requires-clause-boundary
split-requires-clause-boundary c = text_boundary c.args.value.text.now c.text_len-len.result (c.text_len-len.ensures.value ∙ ap text_len c.as_bytes.ensures.value)

pub returns : goal.returns
returns c =
    text_piece c.args.value c.split.result.0 c.split.result.1 c.text_len-len.result c.requires.spelled c.split.ensures (c.text_len-len.ensures.value ∙ ap text_len c.as_bytes.ensures.value) (omega arith) c.in_ok-text.text c.in_ok-text.ensures
