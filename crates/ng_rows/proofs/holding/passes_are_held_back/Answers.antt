use Rattle.std.proofs.Common.{refl}
use Rattle.ng_meaning.specs.Compute.{everything}
use Rattle.ng_rows.proofs.holding.passes_are_held_back.Goals as goal

pub returns-clause-every : goal.returns-clause-every
unfolding everything
returns-clause-every c = refl

pub returns-clause-idle : goal.returns-clause-idle
unfolding everything
returns-clause-idle c = refl

pub returns-clause-left : goal.returns-clause-left
unfolding everything
returns-clause-left c = refl

pub returns-clause-one_flush : goal.returns-clause-one_flush
unfolding everything
returns-clause-one_flush c = refl

pub returns-clause-no_target : goal.returns-clause-no_target
unfolding everything
returns-clause-no_target c = refl
