use Rattle.std.proofs.Common.{◌≡◌, ◌-◌}
use Rattle.ng_exprs.specs.Parse.{brackets, followed, turns}
use Rattle.ng_exprs.proofs.parse.Rules.followed.Given as goal

abbrev pub invariant-loop-turn : goal.invariant-loop-turn
invariant-loop-turn g l = followed (brackets turns l.self.depth) l.turns l.fn.first_named l.place l.fn.first l.fn.tokens ≡ followed (brackets turns l.self.depth) (l.turns - l._turn) l.named l.place l.owner l.tokens
