use Rattle.std.proofs.Common.{ap, Err}
use Rattle.ng_cli.proofs.Told.{if_some_weaker}
use Rattle.ng_cli.specs.Refusals.{events_too_long}
use Rattle.ng_cli.proofs.inputs.fetch_clicks.Goals as goal

pub returns-in-Err-TooLong-clause-err : goal.returns-in-Err-TooLong-clause-err
returns-in-Err-TooLong-clause-err g c = if_some_weaker _ _ _ (λ bytes h. events_too_long h) (c.in-Err-TooLong.ensures.too_long_told (ap Err c.in-Err-TooLong.field-0-is))
