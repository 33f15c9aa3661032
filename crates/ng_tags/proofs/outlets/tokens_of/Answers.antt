use Rattle.std.proofs.Common.{subst}
use Rattle.std.specs.Prelude.{false, Err}
use Rattle.ng_tokens.specs.Scan.{scan, Scans}
use Rattle.ng_tokens.proofs.Tokens as lex
use Rattle.ng_tags.proofs.OutletAnswers.{unscanned}
use Rattle.ng_tags.proofs.outlets.tokens_of.Goals as goal

pub returns-in-Ok : goal.returns-in-Ok
returns-in-Ok c = lex.sound false c.args.place c.args.text.now c.in-Ok.tokens.items c.in-Ok.ensures

pub returns-in-Err-Syntax : goal.returns-in-Err-Syntax
returns-in-Err-Syntax c = unscanned c.args.place c.args.text.now (subst (λ k. Scans (scan false 0 c.args.place c.args.text.now) (Err k)) c.in-Err-Syntax.field-0-is c.in-Err-Syntax.ensures)
