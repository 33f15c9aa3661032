use Rattle.std.proofs.Common.{refl}
use Rattle.ng_meaning.specs.Compute.{everything}
use Rattle.ng_rows.proofs.generating.rows_are_checked_alone.Goals as goal

pub returns-clause-one : goal.returns-clause-one
unfolding everything
returns-clause-one c = refl

pub returns-clause-three : goal.returns-clause-three
unfolding everything
returns-clause-three c = refl
