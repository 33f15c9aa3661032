use Rattle.std.proofs.Common.{sym, ◌∙◌, ap, subst}
use Rattle.std.specs.Str.{IsUtf8}
use Rattle.ng_tokens.specs.Lexis.{begins}
use Rattle.ng_lex.proofs.Boundaries.{word_boundary}
use Rattle.ng_heads.proofs.Cursor.{past_word}
use Rattle.ng_heads.proofs.at.At.word.Goals as goal

pub split-requires : goal.split-requires
split-requires c =
    word_boundary c.args.word.now c.args.self.text.now (ap (begins c.args.word.now) (sym c.as_bytes.ensures.value) ∙ sym c.begins.ensures ∙ c.if-begins.true) c.requires (subst IsUtf8 c.as_bytes.ensures.value c.as_bytes.ensures.utf8)

pub returns-then-begins : goal.returns-then-begins
returns-then-begins c = past_word c.args.self c.split.result.1 c.args.word.now (ap (begins c.args.word.now) (sym c.as_bytes.ensures.value) ∙ sym c.begins.ensures ∙ c.if-begins.true) c.split.ensures.rest
