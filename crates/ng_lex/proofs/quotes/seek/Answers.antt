use Rattle.std.proofs.Common.{sym, ◌∙◌, arith}
use Rattle.ng_lex.proofs.Loops.{begins_within}
use Rattle.ng_lex.proofs.quotes.seek.Goals as goal

pub returns-then-begins-clause-within : goal.returns-then-begins-clause-within
returns-then-begins-clause-within c = omega (arith, begins_within c.args.word.now c.loop-rest.rest.now (sym c.begins.ensures ∙ c.if-begins.true), c.loop-rest.invariant.1)
