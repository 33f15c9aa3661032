use Rattle.std.proofs.Common.{refl}
use Rattle.ng_meaning.specs.Compute.{everything}
use Rattle.ng_rows.proofs.holding.inputs_are_compared_at_the_pass.Goals as goal

pub returns-clause-set_back : goal.returns-clause-set_back
unfolding everything
returns-clause-set_back c = refl

pub returns-clause-set : goal.returns-clause-set
unfolding everything
returns-clause-set c = refl
