use Rattle.std.proofs.Common.{length}
use Rattle.std.specs.Prelude.{reverse}
use Rattle.std.specs.List.{All}
use Rattle.ng_app.specs.Answers.{SourceFits, SoFar}
use Rattle.ng_app.proofs.fill.fill_all.Given as goal

abbrev pub invariant-loop-entry : goal.invariant-loop-entry
invariant-loop-entry l = record { fits : All SourceFits l.ahead; read : SoFar l.fn.entries l.decls (reverse l.ahead) }

abbrev pub decreases-loop-entry : goal.decreases-loop-entry
decreases-loop-entry l = length l.ahead
