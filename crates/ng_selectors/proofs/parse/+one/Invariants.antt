use Rattle.std.proofs.Common.{◌+◌, ◌*◌, length}
use Rattle.ng_selectors.proofs.Turns.{PartsLeft}
use Rattle.ng_selectors.proofs.parse.+one.Given as goal

abbrev pub decreases-negation : goal.decreases-negation
decreases-negation l = 4 * l.depth

abbrev pub decreases-part : goal.decreases-part
decreases-part l = 4 * l.depth + 1

abbrev pub decreases-parts : goal.decreases-parts
decreases-parts l = 4 * l.depth + 2

abbrev pub decreases-one : goal.decreases-one
decreases-one l = 4 * l.depth + 3

abbrev pub invariant-parts-loop-found : goal.invariant-parts-loop-found
invariant-parts-loop-found l = PartsLeft l.depth l.fn.cursor.rest.now l.found l.cursor.rest.now

abbrev pub decreases-parts-loop-found : goal.decreases-parts-loop-found
decreases-parts-loop-found l = length l.cursor.rest.now
