use Rattle.std.proofs.Common.{length}
use Rattle.ng_selectors.proofs.Turns.{ListLeft}
use Rattle.ng_selectors.proofs.parse.alternatives.Given as goal

abbrev pub invariant-loop-found : goal.invariant-loop-found
invariant-loop-found l = ListLeft l.fn.cursor.rest.now l.found l.cursor.rest.now

abbrev pub decreases-loop-found : goal.decreases-loop-found
decreases-loop-found l = length l.cursor.rest.now
