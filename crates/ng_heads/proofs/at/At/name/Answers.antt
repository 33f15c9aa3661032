use Rattle.std.proofs.Common.{sym, ◌∙◌, ap, subst}
use Rattle.std.specs.List.{prefix_len}
use Rattle.std.specs.Str.{IsUtf8}
use Rattle.ng_tokens.specs.Lexis.{is_letter, is_word}
use Rattle.ng_lex.specs.Words.{at_front}
use Rattle.ng_heads.specs.Steps.{Splits}
use Rattle.ng_heads.proofs.Cursor.{name_boundary, splits, is_name}
use Rattle.ng_heads.proofs.at.At.name.Goals as goal

pub split-requires : goal.split-requires
split-requires c = name_boundary c.args.self.text.now c.word_len.result (c.word_len.ensures.value ∙ ap (prefix_len is_word) c.as_bytes-z.ensures.value) (subst IsUtf8 c.as_bytes-z.ensures.value c.as_bytes-z.ensures.utf8)

pub returns-then-starts_letter : goal.returns-then-starts_letter
returns-then-starts_letter c =
    let parts : Splits is_word c.args.self c.split.result.0 c.split.result.1 =
    splits is_word c.args.self c.split.result.0 c.split.result.1 c.word_len.result (c.word_len.ensures.value ∙ ap (prefix_len is_word) c.as_bytes-z.ensures.value) c.split.ensures.front.0 c.split.ensures.front.1 c.split.ensures.rest in
    (is_name c.args.self c.split.result.0 c.split.result.1 parts (ap (at_front is_letter) (sym c.as_bytes-z.ensures.value) ∙ sym c.starts_letter.ensures ∙ c.if-starts_letter.true), parts)
