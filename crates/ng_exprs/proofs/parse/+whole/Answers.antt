use Rattle.std.proofs.Common.{◌≡◌, ap, arith}
use Rattle.ng_exprs.proofs.Turns.{deeper}
use Rattle.ng_exprs.specs.Parse.{whole, turns}
use Rattle.ng_exprs.proofs.parse.+whole.Goals as goal

pub returns-then-depth-eq0 : goal.returns-then-depth-eq0
unfolding whole
returns-then-depth-eq0 t c = let none : c.args.depth ≡ 0 = omega arith in ap (λ n. whole turns n c.args.tokens.now) none

pub returns : goal.returns
unfolding whole turns
returns t c = rw (deeper (λ n. whole turns n c.args.tokens.now) c.args.depth (omega arith)) c.piped.ensures
