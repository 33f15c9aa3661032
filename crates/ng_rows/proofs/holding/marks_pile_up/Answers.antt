use Rattle.std.proofs.Common.{refl}
use Rattle.ng_meaning.specs.Compute.{everything}
use Rattle.ng_rows.proofs.holding.marks_pile_up.Goals as goal

pub returns-clause-set_back : goal.returns-clause-set_back
unfolding everything
returns-clause-set_back c = refl

pub returns-clause-faults : goal.returns-clause-faults
unfolding everything
returns-clause-faults c = refl
