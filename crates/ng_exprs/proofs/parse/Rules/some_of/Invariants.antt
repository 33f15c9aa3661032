use Rattle.std.proofs.Common.{◌≡◌, ◌-◌}
use Rattle.ng_exprs.specs.Parse.{whole, some_of, front, turns}
use Rattle.ng_exprs.proofs.parse.Rules.some_of.Given as goal

abbrev pub invariant-loop-turn : goal.invariant-loop-turn
invariant-loop-turn g l = some_of (whole turns l.self.depth) l.turns l.fn.tokens ≡ front l.found (some_of (whole turns l.self.depth) (l.turns - l._turn) l.tokens)
