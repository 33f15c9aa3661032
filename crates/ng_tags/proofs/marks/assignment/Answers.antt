use Rattle.std.proofs.Common.{refl}
use Rattle.ng_tags.proofs.MarkLaws.{no_sign, assign_value, assign_broken}
use Rattle.ng_tags.proofs.marks.assignment.Goals as goal

pub take-requires : goal.take-requires
take-requires c = c.requires

pub strip-requires-clause-fits : goal.strip-requires-clause-fits
strip-requires-clause-fits c = c.take.ensures.fits

pub strip-requires-clause-ascii : goal.strip-requires-clause-ascii
strip-requires-clause-ascii c = refl

pub take-requires-2 : goal.take-requires-2
take-requires-2 c = c.in-Some.ensures.2

pub marked-requires : goal.marked-requires
marked-requires c = c.take-2.ensures.fits

pub returns-in_default : goal.returns-in_default
returns-in_default c = no_sign c.args.at.text.now c.take.result.0.now c.take.result.1.text.now c.take.ensures.run c.in_default.ensures

pub returns-in-Some-marked : goal.returns-in-Some-marked
returns-in-Some-marked c =
    assign_value c.args.at c.take.result.1 c.in-Some.behind c.take-2.result.1 c.take.result.0.now c.take-2.result.0.now c.take.ensures.run c.take.ensures.place c.in-Some.ensures.0 c.in-Some.ensures.1 c.take-2.ensures.run c.take-2.ensures.place
    c.in-Some-marked.inside c.in-Some-marked.rest c.in-Some-marked.ensures

pub returns-in-None : goal.returns-in-None
returns-in-None c =
    assign_broken c.args.at c.take.result.1 c.in-Some.behind c.take-2.result.1 c.take.result.0.now c.take-2.result.0.now c.take.ensures.run c.take.ensures.place c.in-Some.ensures.0 c.in-Some.ensures.1 c.take-2.ensures.run c.take-2.ensures.place
    c.take-2.result.1.place c.in-None.ensures
