use Rattle.ng_templates.proofs.Turns.{leads_on, not_taken}
use Rattle.ng_templates.proofs.nodes.after.Goals as goal

pub returns-in-Ok : goal.returns-in-Ok
returns-in-Ok c =
    leads_on c.args.builder c.in-Ok.builder c.args.place c.steps.result c.args.rest.now c.as_bytes.result.now c.range_from.result.now c.args.part c.args.len c.requires.fits c.requires.part c.in-Ok.ensures.read (rw c.as_bytes.ensures.value c.range.ensures.value)
    c.range_from.ensures.value c.steps.ensures.value c.steps.ensures.bounds

pub returns-in-Err : goal.returns-in-Err
returns-in-Err c = λ base t far. not_taken base t c.args.builder c.args.place c.args.rest.now far c.args.part c.args.len c.in-Err.halt c.requires.part c.in-Err.ensures.refused
