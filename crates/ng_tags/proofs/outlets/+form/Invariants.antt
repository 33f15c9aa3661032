use Rattle.std.proofs.Common.{◌+◌, ◌*◌}
use Rattle.ng_tags.proofs.outlets.+form.Given as goal

abbrev pub decreases-form : goal.decreases-form
decreases-form l = 3 * l.budget

abbrev pub decreases-right : goal.decreases-right
decreases-right l = 3 * l.room + 1

abbrev pub decreases-branches : goal.decreases-branches
decreases-branches l = 3 * l.room + 2
