use Rattle.std.proofs.Common.{◌≡◌, ◌-◌}
use Rattle.ng_exprs.specs.Parse.{front, turns}
use Rattle.ng_exprs.specs.Lines.{listener, most}
use Rattle.ng_exprs.proofs.lines.listener.Given as goal

abbrev pub invariant-loop-turn : goal.invariant-loop-turn
invariant-loop-turn l = listener turns 256 most l.depth l.turns l.fn.tokens ≡ front l.found (listener turns 256 most l.depth (l.turns - l._turn) l.tokens)
