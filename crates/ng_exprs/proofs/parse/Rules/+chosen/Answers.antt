use Rattle.std.proofs.Common.{◌≡◌, ap, rules, arith}
use Rattle.std.proofs.lemmas.Grind.{common_steps}
use Rattle.ng_exprs.proofs.Turns.{deeper}
use Rattle.ng_exprs.specs.Parse.{brackets, chosen, turns}
use Rattle.ng_exprs.proofs.parse.Rules.+chosen.Goals as goal

pub returns-then-turns-eq0 : goal.returns-then-turns-eq0
unfolding chosen
returns-then-turns-eq0 g t c = let none : c.args.turns ≡ 0 = omega arith in ap (λ n. chosen (brackets turns c.args.self.now.depth) n c.args.tokens.now) none

pub returns-in_err-test : goal.returns-in_err-test
unfolding chosen
returns-in_err-test g t c = let e = (deeper (λ n. chosen (brackets turns c.args.self.now.depth) n c.args.tokens.now) c.args.turns (omega arith)) in first_of (search rules, grind (arith, common_steps))

pub returns-then-not-sees : goal.returns-then-not-sees
unfolding chosen
returns-then-not-sees g t c = let e = (deeper (λ n. chosen (brackets turns c.args.self.now.depth) n c.args.tokens.now) c.args.turns (omega arith)) in first_of (search rules, grind (arith, common_steps))

pub returns-in_err-yes : goal.returns-in_err-yes
unfolding chosen
returns-in_err-yes g t c = let e = (deeper (λ n. chosen (brackets turns c.args.self.now.depth) n c.args.tokens.now) c.args.turns (omega arith)) in first_of (search rules, grind (arith, common_steps))

pub returns-in_err-expect : goal.returns-in_err-expect
unfolding chosen
returns-in_err-expect g t c = let e = (deeper (λ n. chosen (brackets turns c.args.self.now.depth) n c.args.tokens.now) c.args.turns (omega arith)) in first_of (search rules, grind (arith, common_steps))

pub returns-in_err-no : goal.returns-in_err-no
unfolding chosen
returns-in_err-no g t c = let e = (deeper (λ n. chosen (brackets turns c.args.self.now.depth) n c.args.tokens.now) c.args.turns (omega arith)) in first_of (search rules, grind (arith, common_steps))

pub returns : goal.returns
unfolding chosen
returns g t c = let e = (deeper (λ n. chosen (brackets turns c.args.self.now.depth) n c.args.tokens.now) c.args.turns (omega arith)) in first_of (search rules, grind (arith, common_steps))
