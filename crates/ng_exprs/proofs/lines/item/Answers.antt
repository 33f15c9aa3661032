use Rattle.std.proofs.Common.{◌≡◌, ap, rules, arith}
use Rattle.std.proofs.lemmas.Grind.{common_steps}
use Rattle.ng_exprs.proofs.Turns.{deeper}
use Rattle.ng_exprs.specs.Parse.{turns}
use Rattle.ng_exprs.specs.Lines.{item, most}
use Rattle.ng_exprs.proofs.lines.item.Goals as goal

pub returns-then-depth-eq0 : goal.returns-then-depth-eq0
unfolding item
returns-then-depth-eq0 c = let none : c.args.depth ≡ 0 = omega arith in ap (λ n. item turns 256 most n c.args.place c.args.name c.args.tokens.now) none

pub returns-in_err-at : goal.returns-in_err-at
unfolding item most
returns-in_err-at c = let e = deeper (λ n. item turns 256 most n c.args.place c.args.name c.args.tokens.now) c.args.depth (omega arith) in first_of (search rules, grind (arith, common_steps))

pub returns-in_err-expect : goal.returns-in_err-expect
unfolding item most
returns-in_err-expect c = let e = deeper (λ n. item turns 256 most n c.args.place c.args.name c.args.tokens.now) c.args.depth (omega arith) in first_of (search rules, grind (arith, common_steps))

pub returns-in_err-expect-2 : goal.returns-in_err-expect-2
unfolding item most
returns-in_err-expect-2 c = let e = deeper (λ n. item turns 256 most n c.args.place c.args.name c.args.tokens.now) c.args.depth (omega arith) in first_of (search rules, grind (arith, common_steps))

pub returns : goal.returns
unfolding item most
returns c = let e = deeper (λ n. item turns 256 most n c.args.place c.args.name c.args.tokens.now) c.args.depth (omega arith) in first_of (search rules, grind (arith, common_steps))
