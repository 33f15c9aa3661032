use Rattle.std.proofs.Common.{◌≡◌, ap, rules, arith}
use Rattle.std.proofs.lemmas.Grind.{common_steps}
use Rattle.ng_exprs.proofs.Turns.{deeper}
use Rattle.ng_exprs.specs.Parse.{turns}
use Rattle.ng_exprs.specs.Lines.{args, most}
use Rattle.ng_exprs.proofs.lines.args.Goals as goal

pub returns-then-depth-eq0 : goal.returns-then-depth-eq0
unfolding args
returns-then-depth-eq0 c = let none : c.args.depth ≡ 0 = omega arith in ap (λ n. args turns 256 most n c.args.tokens.now) none

pub returns-then-sees : goal.returns-then-sees
unfolding args most
returns-then-sees c = let e = deeper (λ n. args turns 256 most n c.args.tokens.now) c.args.depth (omega arith) in first_of (search rules, grind (arith, common_steps))

pub returns-in_err-found : goal.returns-in_err-found
unfolding args most
returns-in_err-found c = let e = deeper (λ n. args turns 256 most n c.args.tokens.now) c.args.depth (omega arith) in first_of (search rules, grind (arith, common_steps))

pub returns-in_err-expect : goal.returns-in_err-expect
unfolding args most
returns-in_err-expect c = let e = deeper (λ n. args turns 256 most n c.args.tokens.now) c.args.depth (omega arith) in first_of (search rules, grind (arith, common_steps))

pub returns : goal.returns
unfolding args most
returns c = let e = deeper (λ n. args turns 256 most n c.args.tokens.now) c.args.depth (omega arith) in first_of (search rules, grind (arith, common_steps))
