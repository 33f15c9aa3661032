use Rattle.std.proofs.Common.{subst}
use Rattle.ng_tokens.specs.Lexis.{Text}
use Rattle.ng_selectors.specs.Grammar.{ReadsSelector}
use Rattle.ng_selectors.specs.Reading.{Refuses}
use Rattle.ng_declare.proofs.Written.{written_found, written_refused}
use Rattle.ng_declare.proofs.parts.selector.Goals as goal

pub returns-in-Ok : goal.returns-in-Ok
returns-in-Ok c = written_found c.args.text.now c.args.cursor.now.place c.args.cursor.now.rest.now c.in-Ok.found (subst (λ (t : Text). ReadsSelector t c.in-Ok.found) c.as_str.ensures c.in-Ok.ensures.reads)

pub returns-in-Err : goal.returns-in-Err
returns-in-Err c =
    written_refused c.args.text.now c.args.cursor.now.place c.args.cursor.now.place c.args.cursor.now.rest.now c.in-Err.error c.unwritten.result
    (subst (λ (t : Text). Refuses t c.args.cursor.now.place c.in-Err.error) c.as_str.ensures c.in-Err.ensures.refused) c.in-Err.ensures.unlimited c.unwritten.ensures
