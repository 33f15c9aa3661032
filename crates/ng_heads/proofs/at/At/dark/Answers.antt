use Rattle.std.proofs.Common.{◌∙◌, ap, subst}
use Rattle.std.specs.List.{prefix_len}
use Rattle.std.specs.Str.{IsUtf8}
use Rattle.ng_heads.specs.Runs.{in_word}
use Rattle.ng_heads.proofs.Cursor.{dark_boundary, splits}
use Rattle.ng_heads.proofs.at.At.dark.Goals as goal

pub split-requires : goal.split-requires
split-requires c = dark_boundary c.args.self.text.now c.dark_len.result (c.dark_len.ensures.value ∙ ap (prefix_len in_word) c.as_bytes.ensures.value) (subst IsUtf8 c.as_bytes.ensures.value c.as_bytes.ensures.utf8)

pub returns : goal.returns
returns c = splits in_word c.args.self c.split.result.0 c.split.result.1 c.dark_len.result (c.dark_len.ensures.value ∙ ap (prefix_len in_word) c.as_bytes.ensures.value) c.split.ensures.front.0 c.split.ensures.front.1 c.split.ensures.rest
