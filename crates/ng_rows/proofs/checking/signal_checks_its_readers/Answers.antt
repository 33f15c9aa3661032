use Rattle.std.proofs.Common.{refl}
use Rattle.ng_meaning.specs.Compute.{everything}
use Rattle.ng_rows.proofs.checking.signal_checks_its_readers.Goals as goal

pub returns-clause-due : goal.returns-clause-due
unfolding everything
returns-clause-due c = refl

pub returns-clause-reported : goal.returns-clause-reported
unfolding everything
returns-clause-reported c = refl

pub returns-clause-every : goal.returns-clause-every
unfolding everything
returns-clause-every c = refl
