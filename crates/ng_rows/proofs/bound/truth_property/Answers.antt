use Rattle.std.proofs.Common.{refl}
use Rattle.ng_meaning.specs.Compute.{everything}
use Rattle.ng_rows.proofs.bound.truth_property.Goals as goal

pub returns-clause-every : goal.returns-clause-every
unfolding everything
returns-clause-every c = refl

pub returns-clause-due : goal.returns-clause-due
unfolding everything
returns-clause-due c = refl

pub returns-clause-checked : goal.returns-clause-checked
unfolding everything
returns-clause-checked c = refl
