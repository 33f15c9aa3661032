use Rattle.std.proofs.Common.{◌∙◌, ap, subst}
use Rattle.std.specs.List.{prefix_len}
use Rattle.std.specs.Str.{IsUtf8}
use Rattle.ng_lex.specs.Attributes.{differs}
use Rattle.ng_heads.proofs.Cursor.{before_boundary, splits}
use Rattle.ng_heads.proofs.at.At.until.Goals as goal

pub split-requires : goal.split-requires
split-requires c = before_boundary c.args.byte c.requires c.args.self.text.now c.len_before.result (c.len_before.ensures.value ∙ ap (prefix_len (differs c.args.byte)) c.as_bytes.ensures.value) (subst IsUtf8 c.as_bytes.ensures.value c.as_bytes.ensures.utf8)

pub returns : goal.returns
returns c =
    splits (differs c.args.byte) c.args.self c.split.result.0 c.split.result.1 c.len_before.result (c.len_before.ensures.value ∙ ap (prefix_len (differs c.args.byte)) c.as_bytes.ensures.value) c.split.ensures.front.0 c.split.ensures.front.1
    c.split.ensures.rest
