use Rattle.std.proofs.Common.{sym, ◌∙◌, ap}
use Rattle.ng_tokens.specs.Lexis.{is_word}
use Rattle.ng_lex.specs.Words.{at_front}
use Rattle.ng_heads.proofs.Cursor.{no_word, no_keyword}
use Rattle.ng_heads.proofs.at.At.keyword.Goals as goal

pub returns-in_err-rest : goal.returns-in_err-rest
returns-in_err-rest c = rw c.from_residual.ensures (λ r e i. no_word c.args.word.now c.args.self.text.now r c.in_err-rest.ensures e)

pub returns-then-starts_word : goal.returns-then-starts_word
returns-then-starts_word c = λ r e i.
    no_keyword c.args.word.now c.args.self.text.now r c.in_ok-rest.rest.text.now c.in_ok-rest.ensures.is (ap (at_front is_word) (sym c.as_bytes.ensures.value) ∙ sym c.starts_word.ensures ∙ c.if-starts_word.true) e i
