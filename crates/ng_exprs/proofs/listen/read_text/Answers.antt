use Rattle.std.specs.Prelude.{false}
use Rattle.ng_exprs.specs.Statements.{ReadsListener}
use Rattle.ng_exprs.specs.Awaits.{AwaitsListener}
use Rattle.ng_exprs.proofs.Phrases.{few_tokens, phrase_ok, phrase_err, phrase_unscanned}
use Rattle.ng_exprs.proofs.listen.read_text.Goals as goal

pub returns-in-Err : goal.returns-in-Err
returns-in-Err c = phrase_unscanned false _ ReadsListener AwaitsListener _ _ _ c.in-Err.ensures

pub read_tokens-requires : goal.read_tokens-requires
read_tokens-requires c = few_tokens false _ _ _ c.in-Ok.ensures c.requires.size

pub returns-in-Ok-read_tokens : goal.returns-in-Ok-read_tokens
returns-in-Ok-read_tokens c = phrase_ok false _ ReadsListener AwaitsListener _ _ _ c.in-Ok.ensures _ c.in-Ok-read_tokens.ensures

pub returns : goal.returns
returns c = phrase_err false _ ReadsListener AwaitsListener _ _ _ c.in-Ok.ensures _ _ c.in-Err-read_tokens.ensures c.refused.ensures
