use Rattle.std.proofs.Common.{refl, subst}
use Rattle.ng_rules.specs.Found.{IsFound}
use Rattle.ng_rules.proofs.Laws.{found_least, found_none}
use Rattle.ng_rules.proofs.checker.check.Goals as goal

pub invariant_of-result : goal.invariant_of-result
invariant_of-result c = found_none c.args.app (subst (IsFound c.args.app) c.in-Ok-None.field-0-is c.in-Ok-None.ensures)

pub returns-in-Ok-Some : goal.returns-in-Ok-Some
returns-in-Ok-Some c = (refl, found_least c.args.app c.in-Ok-Some.refusal (subst (IsFound c.args.app) c.in-Ok-Some.field-0-is c.in-Ok-Some.ensures))

pub returns-in-Ok-None : goal.returns-in-Ok-None
returns-in-Ok-None c = (refl, found_none c.args.app (subst (IsFound c.args.app) c.in-Ok-None.field-0-is c.in-Ok-None.ensures))
