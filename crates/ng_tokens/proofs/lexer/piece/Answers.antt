use Rattle.std.proofs.Common.{sym}
use Rattle.ng_tokens.proofs.Scanning.{front_written, front_utf8}
use Rattle.ng_tokens.proofs.lexer.piece.Goals as goal

pub kind-requires-clause-written : goal.kind-requires-clause-written
kind-requires-clause-written c = front_written _ (c.in-Some.shape, c.in-Some.len) (sym c.in-Some.ensures.value)

pub kind-requires-clause-utf8 : goal.kind-requires-clause-utf8
kind-requires-clause-utf8 c = front_utf8 _ (c.in-Some.shape, c.in-Some.len) (sym c.in-Some.ensures.value) c.requires
