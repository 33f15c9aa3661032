use Rattle.ng_cli.specs.Words.{Runs}
use Rattle.ng_cli.proofs.Told.{if_some_weaker}
use Rattle.ng_cli.proofs.Finish.{any_task}
use Rattle.ng_cli.proofs.Stopping.{unbuilt_refused}
use Rattle.ng_cli.proofs.inputs.fetch_built.Goals as goal

pub returns-in-Err-clause-err : goal.returns-in-Err-clause-err
returns-in-Err-clause-err g c = λ events. any_task (Runs c.args.name.now events) _ _ _ c.in-Err.stop c.in-Err.ensures.err

pub returns-in-Err-built-clause-err : goal.returns-in-Err-built-clause-err
returns-in-Err-built-clause-err g c = λ events. if_some_weaker _ _ _ (λ bytes sound. unbuilt_refused c.args.name.now events bytes c.in-Ok.app c.in-Err-built.refusal sound c.in-Err-built.ensures.err) c.in-Ok.ensures.ok
