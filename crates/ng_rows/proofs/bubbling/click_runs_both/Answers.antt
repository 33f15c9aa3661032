use Rattle.std.proofs.Common.{refl}
use Rattle.ng_meaning.specs.Compute.{everything}
use Rattle.ng_rows.proofs.bubbling.click_runs_both.Goals as goal

pub returns-clause-every : goal.returns-clause-every
unfolding everything
returns-clause-every c = refl

pub returns-clause-outer : goal.returns-clause-outer
unfolding everything
returns-clause-outer c = refl
