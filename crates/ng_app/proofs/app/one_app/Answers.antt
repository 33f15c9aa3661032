use Rattle.ng_app.proofs.Public.{one_reading_of_app}
use Rattle.ng_app.proofs.app.one_app.Goals as goal

pub returns : goal.returns
returns c = one_reading_of_app
