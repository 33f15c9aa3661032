use Rattle.ng_app.proofs.Public.{templates_keep_limits}
use Rattle.ng_app.proofs.app.templates_keep_the_limits.Goals as goal

pub returns : goal.returns
returns c = templates_keep_limits
