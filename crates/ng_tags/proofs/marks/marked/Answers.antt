use Rattle.std.proofs.Common.{refl}
use Rattle.ng_tags.proofs.MarkLaws.{double_marked, single_marked, bare_marked}
use Rattle.ng_tags.proofs.marks.marked.Goals as goal

pub strip-requires-clause-fits : goal.strip-requires-clause-fits
strip-requires-clause-fits c = c.requires

pub strip-requires-clause-ascii : goal.strip-requires-clause-ascii
strip-requires-clause-ascii c = refl

pub closed-requires-clause-fits : goal.closed-requires-clause-fits
closed-requires-clause-fits c = c.in-Some.ensures.2

pub closed-requires-clause-ascii : goal.closed-requires-clause-ascii
closed-requires-clause-ascii c = refl

pub closed-requires-clause-ends : goal.closed-requires-clause-ends
closed-requires-clause-ends c = λ r. refl

pub strip-requires-in_default-clause-fits : goal.strip-requires-in_default-clause-fits
strip-requires-in_default-clause-fits c = c.requires

pub strip-requires-in_default-clause-ascii : goal.strip-requires-in_default-clause-ascii
strip-requires-in_default-clause-ascii c = refl

pub closed-requires-in-Some-strip-clause-fits : goal.closed-requires-in-Some-strip-clause-fits
closed-requires-in-Some-strip-clause-fits c = c.in-Some-strip.ensures.2

pub closed-requires-in-Some-strip-clause-ascii : goal.closed-requires-in-Some-strip-clause-ascii
closed-requires-in-Some-strip-clause-ascii c = refl

pub closed-requires-in-Some-strip-clause-ends : goal.closed-requires-in-Some-strip-clause-ends
closed-requires-in-Some-strip-clause-ends c = λ r. refl

pub bare-requires : goal.bare-requires
bare-requires c = c.requires

pub returns-in-Some : goal.returns-in-Some
returns-in-Some c = double_marked c.args.at c.in-Some.inside _ c.in-Some.ensures.0 c.in-Some.ensures.1 c.closed.ensures

pub returns-in-Some-strip : goal.returns-in-Some-strip
returns-in-Some-strip c = single_marked c.args.at c.in-Some-strip.inside _ c.in-Some-strip.ensures.0 c.in-Some-strip.ensures.1 c.closed-in-Some-strip.ensures

pub returns-in_default-strip : goal.returns-in_default-strip
returns-in_default-strip c = bare_marked c.args.at _ c.in_default.ensures c.in_default-strip.ensures c.bare.ensures
