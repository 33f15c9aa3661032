use Rattle.std.proofs.Common.{refl}
use Rattle.ng_meaning.specs.Compute.{everything}
use Rattle.ng_rows.proofs.holding.views_that_come_back_stay.Goals as goal

pub returns-clause-every : goal.returns-clause-every
unfolding everything
returns-clause-every c = refl

pub returns-clause-released : goal.returns-clause-released
unfolding everything
returns-clause-released c = refl
