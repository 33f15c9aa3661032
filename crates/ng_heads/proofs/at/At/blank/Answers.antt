use Rattle.std.proofs.Common.{◌∙◌, ap, subst}
use Rattle.std.specs.List.{prefix_len}
use Rattle.std.specs.Str.{IsUtf8}
use Rattle.ng_tokens.specs.Lexis.{is_blank}
use Rattle.ng_heads.proofs.Cursor.{blank_boundary, skips}
use Rattle.ng_heads.proofs.at.At.blank.Goals as goal

pub split-requires : goal.split-requires
split-requires c = blank_boundary c.args.self.text.now c.blank_len.result (c.blank_len.ensures.value ∙ ap (prefix_len is_blank) c.as_bytes.ensures.value) (subst IsUtf8 c.as_bytes.ensures.value c.as_bytes.ensures.utf8)

pub returns : goal.returns
returns c = skips is_blank c.args.self c.split.result.1 c.blank_len.result (c.blank_len.ensures.value ∙ ap (prefix_len is_blank) c.as_bytes.ensures.value) c.split.ensures.rest
