use Rattle.std.proofs.Common.{◌≡◌, ◌+◌, length}
use Rattle.ng_exprs.specs.Ends.{later}
use Rattle.ng_lex.specs.declared.quotes.Quoting.TheVariants as quoting
use Rattle.ng_lex.specs.Span as spec
use Rattle.ng_lex.proofs.quotes.seek.Given as goal

abbrev pub invariant-loop-rest : goal.invariant-loop-rest
invariant-loop-rest l = (later l.at (spec.seek (spec.quoted l.fn.quotes) l.fn.word l.state l.rest) ≡ spec.seek (spec.quoted l.fn.quotes) l.fn.word quoting.Outside l.fn.z) × (l.at + length l.rest ≡ length l.fn.z)

abbrev pub decreases-loop-rest : goal.decreases-loop-rest
decreases-loop-rest l = length l.rest
