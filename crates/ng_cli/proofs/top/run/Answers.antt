use Rattle.ng_cli.proofs.Finish.{put_ends, whole_run_is}
use Rattle.ng_cli.specs.declared.status.Status.TheVariants as status
use Rattle.ng_cli.proofs.top.run.Goals as goal

pub returns-in-Ok : goal.returns-in-Ok
returns-in-Ok g c = λ root alone.
    put_ends status.Done _ _ _ _ _ _ c.session.result (whole_run_is c.in-Ok.engine root c.args.tags.now (c.in-Ok.ensures.ok root alone)) c.unless_stopped.result c.unless_stopped.ensures
    c.session.ensures.whole c.session.ensures.part c.session.ensures.failed
