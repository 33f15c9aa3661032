use Rattle.ng_tags.proofs.AttributeSteps.{behind_lone, behind_unvalued, behind_broken, behind_said, behind_unsaid}
use Rattle.ng_tags.proofs.attributes.behind.Goals as goal

pub assignment-requires : goal.assignment-requires
assignment-requires c = c.requires

pub valued-requires : goal.valued-requires
valued-requires c = c.in-Value.ensures.1.inside

pub returns-in-Ok : goal.returns-in-Ok
returns-in-Ok c = behind_lone c.args.place c.args.form.now c.args.rest c.requires c.in-Nothing.ensures c.in-Ok.one c.in-Ok.ensures.0

pub returns-in-Err : goal.returns-in-Err
returns-in-Err c = behind_unvalued c.args.place c.args.form.now c.args.rest c.in-Nothing.ensures c.in-Err.stop c.in-Err.ensures

pub returns-in-Broken : goal.returns-in-Broken
returns-in-Broken c = behind_broken c.args.place c.args.form.now c.args.rest c.in-Broken.place c.in-Broken.ensures

pub returns-in-Ok-valued : goal.returns-in-Ok-valued
returns-in-Ok-valued c = behind_said c.args.place c.args.form.now c.args.rest c.in-Value.inside c.in-Value.after c.in-Value.ensures c.in-Ok-valued.one c.in-Ok-valued.ensures.0 c.in-Ok-valued.ensures.1

pub returns-in-Err-valued : goal.returns-in-Err-valued
returns-in-Err-valued c = behind_unsaid c.args.place c.args.form.now c.args.rest c.in-Value.inside c.in-Value.after c.in-Value.ensures c.in-Err-valued.stop c.in-Err-valued.ensures
