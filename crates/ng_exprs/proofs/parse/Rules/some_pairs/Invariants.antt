use Rattle.std.proofs.Common.{◌≡◌, ◌-◌}
use Rattle.ng_exprs.specs.Parse.{brackets, pair, some_of, front, turns}
use Rattle.ng_exprs.proofs.parse.Rules.some_pairs.Given as goal

abbrev pub invariant-loop-turn : goal.invariant-loop-turn
invariant-loop-turn g l = some_of (pair (brackets turns l.self.depth)) l.turns l.fn.tokens ≡ front l.found (some_of (pair (brackets turns l.self.depth)) (l.turns - l._turn) l.tokens)
