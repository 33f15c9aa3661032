use Rattle.std.proofs.Common.{sym}
use Rattle.ng_tokens.proofs.Scanning.{find_within}
use Rattle.ng_tokens.proofs.lexer.shape.Goals as goal

pub returns-in_ok-sign-clause-within : goal.returns-in_ok-sign-clause-within
returns-in_ok-sign-clause-within c = find_within _ _ (sym c.in_ok-sign.ensures)
