use Rattle.std.proofs.Common.{◌≡◌, ◌-◌}
use Rattle.ng_exprs.specs.Parse.{brackets, joins, ranked, turns}
use Rattle.ng_exprs.proofs.parse.Rules.+ranked.Given as goal

abbrev pub decreases-ranked : goal.decreases-ranked
decreases-ranked g l = l.rank

abbrev pub invariant-loop-turn : goal.invariant-loop-turn
invariant-loop-turn g l = ranked (brackets turns l.self.depth) l.rank l.fn.tokens ≡ joins (brackets turns l.self.depth) (ranked (brackets turns l.self.depth) (l.rank - 1)) l.rank (257 - l._turn) l.place l.left l.tokens
