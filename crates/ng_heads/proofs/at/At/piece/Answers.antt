use Rattle.std.proofs.Common.{◌∙◌, ap, subst}
use Rattle.std.specs.List.{prefix_len}
use Rattle.std.specs.Str.{IsUtf8}
use Rattle.ng_heads.specs.Runs.{in_piece}
use Rattle.ng_heads.proofs.Cursor.{piece_boundary, splits}
use Rattle.ng_heads.proofs.at.At.piece.Goals as goal

pub split-requires : goal.split-requires
split-requires c = piece_boundary c.args.self.text.now c.piece_len.result (c.piece_len.ensures.value ∙ ap (prefix_len in_piece) c.as_bytes.ensures.value) (subst IsUtf8 c.as_bytes.ensures.value c.as_bytes.ensures.utf8)

pub returns : goal.returns
returns c = splits in_piece c.args.self c.split.result.0 c.split.result.1 c.piece_len.result (c.piece_len.ensures.value ∙ ap (prefix_len in_piece) c.as_bytes.ensures.value) c.split.ensures.front.0 c.split.ensures.front.1 c.split.ensures.rest
