use Rattle.std.specs.Prelude.{true}
use Rattle.ng_exprs.specs.Bodies.{ReadsWhole}
use Rattle.ng_exprs.specs.Awaits.{AwaitsBody}
use Rattle.ng_exprs.proofs.Phrases.{few_tokens, phrase_ok, phrase_err, phrase_unscanned}
use Rattle.ng_exprs.proofs.bodies.read_text.Goals as goal

pub returns-in-Err : goal.returns-in-Err
returns-in-Err c = phrase_unscanned true _ ReadsWhole (AwaitsBody 0) _ _ _ c.in-Err.ensures

pub read_tokens-requires : goal.read_tokens-requires
read_tokens-requires c = few_tokens true _ _ _ c.in-Ok.ensures c.requires.size

pub returns-in-Ok-read_tokens : goal.returns-in-Ok-read_tokens
returns-in-Ok-read_tokens c = phrase_ok true _ ReadsWhole (AwaitsBody 0) _ _ _ c.in-Ok.ensures _ c.in-Ok-read_tokens.ensures

pub returns : goal.returns
returns c = phrase_err true _ ReadsWhole (AwaitsBody 0) _ _ _ c.in-Ok.ensures _ _ c.in-Err-read_tokens.ensures c.refused.ensures
