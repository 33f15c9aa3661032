use Rattle.std.proofs.Common.{refl}
use Rattle.ng_meaning.specs.Compute.{everything}
use Rattle.ng_rows.proofs.holding.faulted_calls_ask_for_a_pass.Goals as goal

pub returns-clause-member : goal.returns-clause-member
unfolding everything
returns-clause-member c = refl

pub returns-clause-provider : goal.returns-clause-provider
unfolding everything
returns-clause-provider c = refl
