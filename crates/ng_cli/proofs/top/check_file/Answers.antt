use Rattle.ng_cli.specs.Words.{Checks}
use Rattle.ng_cli.proofs.Finish.{ends_at_app, ends_at_check, any_task}
use Rattle.ng_cli.proofs.top.check_file.Goals as goal

pub returns-in-Err : goal.returns-in-Err
returns-in-Err g c = λ words accepted. ends_at_app words _ _ _ _ _ _ _ (Checks c.args.app.now) c.in-Err.stop c.stopped.result accepted (any_task (Checks c.args.app.now) _ _ _ c.in-Err.stop c.in-Err.ensures.err) c.stopped.ensures

pub returns-in-Ok-quiet : goal.returns-in-Ok-quiet
returns-in-Ok-quiet g c = λ words accepted.
    ends_at_check words _ _ _ _ _ _ _ c.args.app.now c.in-Ok.app c.in-Ok-quiet.quiet c.put_end.result accepted c.in-Ok.ensures.ok c.in-Ok-quiet.ensures (rw c.says.ensures at (rw c.as_bytes.ensures.value at c.put_end.ensures))
