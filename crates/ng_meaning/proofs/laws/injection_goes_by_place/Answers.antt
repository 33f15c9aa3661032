use Rattle.ng_meaning.specs.Laws.Injection.{resolved-provided, resolved-refused}
use Rattle.ng_meaning.proofs.laws.injection_goes_by_place.Goals as goal

pub returns : goal.returns
returns c = record { given = resolved-provided; refused = resolved-refused }
