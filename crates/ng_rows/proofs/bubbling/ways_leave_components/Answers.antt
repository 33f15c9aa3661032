use Rattle.std.proofs.Common.{refl}
use Rattle.ng_meaning.specs.Compute.{everything}
use Rattle.ng_rows.proofs.bubbling.ways_leave_components.Goals as goal

pub returns-clause-every : goal.returns-clause-every
unfolding everything
returns-clause-every c = refl

pub returns-clause-due : goal.returns-clause-due
unfolding everything
returns-clause-due c = refl
