use Rattle.std.proofs.Common.{refl}
use Rattle.ng_meaning.specs.Compute.{everything}
use Rattle.ng_rows.proofs.holding.held_events_bubble.Goals as goal

pub returns-clause-every : goal.returns-clause-every
unfolding everything
returns-clause-every c = refl

pub returns-clause-due : goal.returns-clause-due
unfolding everything
returns-clause-due c = refl
