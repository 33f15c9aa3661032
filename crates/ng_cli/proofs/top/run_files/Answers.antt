use Rattle.std.proofs.Common.{subst}
use Rattle.ng_semantics.specs.Text.{Text}
use Rattle.std.proofs.Common.{Option, IfSome}
use Rattle.ng_cli.specs.Words.{Runs}
use Rattle.ng_cli.specs.Refusals.{AreClicks}
use Rattle.ng_cli.proofs.Finish.{ends_at_app, ends_at_events, ends_at_run, events_stop_since}
use Rattle.ng_cli.proofs.top.run_files.Goals as goal

pub returns-in-Err : goal.returns-in-Err
returns-in-Err g c = λ words accepted. ends_at_app words _ _ _ _ _ _ _ (Runs c.args.app.now c.args.events.now) c.in-Err.stop c.stopped.result accepted (c.in-Err.ensures.err c.args.events.now) c.stopped.ensures

pub returns-in-Err-fetch_clicks : goal.returns-in-Err-fetch_clicks
returns-in-Err-fetch_clicks g c = λ words accepted.
    ends_at_events words _ _ _ _ _ _ _ c.args.app.now c.args.events.now c.in-Ok.app c.in-Err-fetch_clicks.stop c.stopped-in-Err-fetch_clicks.result accepted c.in-Ok.ensures.ok
    (events_stop_since _ _ _ _ _ c.in-Err-fetch_clicks.stop (c.in-Ok.ensures.same_told c.args.events.now) (c.in-Ok.ensures.faults_grow c.args.events.now) c.in-Err-fetch_clicks.ensures.err) c.stopped-in-Err-fetch_clicks.ensures

pub returns : goal.returns
returns g c = λ words accepted.
    let form = c.in-Ok.ensures.form in
    let clicks = subst (λ (told : Option Text). IfSome told (λ bytes. AreClicks bytes c.in-Ok-fetch_clicks.tags.items)) (c.in-Ok.ensures.same_told c.args.events.now) c.in-Ok-fetch_clicks.ensures.ok in
    let tags = c.deref.ensures.value in
    ends_at_run words _ _ _ _ _ _ _ c.args.app.now c.args.events.now c.in-Ok.app form.0 c.in-Ok-fetch_clicks.tags.items c.run.result accepted form.1 c.in-Ok.ensures.ok clicks (rw tags at (c.run.ensures form.0 form.1))
