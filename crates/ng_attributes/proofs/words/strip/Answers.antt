use Rattle.std.proofs.Common.{sym, ◌∙◌, ap}
use Rattle.ng_tokens.specs.Lexis.{begins}
use Rattle.ng_lex.proofs.Boundaries.{word_boundary}
use Rattle.ng_attributes.proofs.WordLaws.{stripped}
use Rattle.ng_attributes.proofs.words.strip.Goals as goal

pub split_at-requires : goal.split_at-requires
split_at-requires c = word_boundary c.args.word.now c.args.text.now (ap (begins c.args.word.now) (sym c.as_bytes.ensures.value) ∙ sym c.begins.ensures ∙ c.if-begins.true) c.requires c.utf8.text

pub returns-then-begins : goal.returns-then-begins
returns-then-begins c = stripped c.args.word.now c.args.text.now _ (ap (begins c.args.word.now) (sym c.as_bytes.ensures.value) ∙ sym c.begins.ensures ∙ c.if-begins.true) c.split_at.ensures.back
