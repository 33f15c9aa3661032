use Rattle.std.proofs.Common.{◌≡◌, ap, arith}
use Rattle.ng_exprs.proofs.Turns.{deeper}
use Rattle.ng_exprs.specs.Parse.{turns}
use Rattle.ng_exprs.specs.Lines.{most}
use Rattle.ng_exprs.specs.Blocks.{body}
use Rattle.ng_exprs.proofs.blocks.+body.Goals as goal

pub returns-then-depth-eq0 : goal.returns-then-depth-eq0
unfolding body
returns-then-depth-eq0 t c = let none : c.args.depth ≡ 0 = omega arith in ap (λ n. body turns 256 most n c.args.tokens.now) none

pub returns : goal.returns
unfolding body most
returns t c = rw (deeper (λ n. body turns 256 most n c.args.tokens.now) c.args.depth (omega arith)) c.statements.ensures
