use Rattle.std.proofs.Common.{◌≡◌, ◌-◌}
use Rattle.ng_exprs.specs.Parse.{brackets, arguments, front, turns}
use Rattle.ng_exprs.proofs.parse.Rules.arguments.Given as goal

abbrev pub invariant-loop-turn : goal.invariant-loop-turn
invariant-loop-turn g l = arguments (brackets turns l.self.depth) l.turns l.fn.tokens ≡ front l.found (arguments (brackets turns l.self.depth) (l.turns - l._turn) l.tokens)
