use Rattle.std.proofs.Common.{◌≡◌, ap, rules, arith}
use Rattle.std.proofs.lemmas.Grind.{common_steps}
use Rattle.ng_exprs.proofs.Turns.{deeper}
use Rattle.ng_exprs.specs.Parse.{brackets, prefixed, turns}
use Rattle.ng_exprs.proofs.parse.Rules.+prefixed.Goals as goal

pub returns-then-turns-eq0 : goal.returns-then-turns-eq0
unfolding prefixed
returns-then-turns-eq0 g t c = let none : c.args.turns ≡ 0 = omega arith in ap (λ n. prefixed (brackets turns c.args.self.now.depth) n c.args.tokens.now) none

pub returns-in_default : goal.returns-in_default
unfolding prefixed
returns-in_default g t c = let e = (deeper (λ n. prefixed (brackets turns c.args.self.now.depth) n c.args.tokens.now) c.args.turns (omega arith)) in first_of (search rules, grind (arith, common_steps))

pub returns-in_err-operand : goal.returns-in_err-operand
unfolding prefixed
returns-in_err-operand g t c = let e = (deeper (λ n. prefixed (brackets turns c.args.self.now.depth) n c.args.tokens.now) c.args.turns (omega arith)) in first_of (search rules, grind (arith, common_steps))

pub returns : goal.returns
unfolding prefixed
returns g t c = let e = (deeper (λ n. prefixed (brackets turns c.args.self.now.depth) n c.args.tokens.now) c.args.turns (omega arith)) in first_of (search rules, grind (arith, common_steps))
