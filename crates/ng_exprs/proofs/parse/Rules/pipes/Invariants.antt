use Rattle.std.proofs.Common.{◌≡◌, ◌-◌}
use Rattle.ng_exprs.specs.Parse.{brackets, pipes, turns}
use Rattle.ng_exprs.proofs.parse.Rules.pipes.Given as goal

abbrev pub invariant-loop-turn : goal.invariant-loop-turn
invariant-loop-turn g l = pipes (brackets turns l.self.depth) l.turns l.place l.fn.first l.fn.tokens ≡ pipes (brackets turns l.self.depth) (l.turns - l._turn) l.place l.value l.tokens
