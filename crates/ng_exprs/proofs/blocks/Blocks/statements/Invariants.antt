use Rattle.std.proofs.Common.{◌≡◌, ◌-◌}
use Rattle.ng_exprs.specs.Parse.{front, turns}
use Rattle.ng_exprs.specs.Lines.{most}
use Rattle.ng_exprs.specs.Blocks.{statements, body}
use Rattle.ng_exprs.proofs.blocks.Blocks.statements.Given as goal

abbrev pub invariant-loop-turn : goal.invariant-loop-turn
invariant-loop-turn g l = statements turns 256 most (body turns 256 most l.self.depth) l.self.depth l.turns l.fn.tokens
    ≡ front l.found (statements turns 256 most (body turns 256 most l.self.depth) l.self.depth (l.turns - l._turn) l.tokens)
