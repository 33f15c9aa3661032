use Rattle.std.proofs.Common.{sym, ◌∙◌, ap}
use Rattle.ng_tokens.specs.Lexis.{begins}
use Rattle.ng_lex.proofs.Boundaries.{word_boundary}
use Rattle.ng_lex.proofs.words.strip.Goals as goal

pub after-requires : goal.after-requires
after-requires c = word_boundary c.args.word.now c.args.text.now (ap (begins c.args.word.now) (sym c.as_bytes.ensures.value) ∙ sym c.begins.ensures ∙ c.if-begins.true) c.requires.ascii c.utf8.text
