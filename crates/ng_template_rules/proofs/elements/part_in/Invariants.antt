use Rattle.std.proofs.Common.{◌≡◌, length}
use Rattle.ng_template_rules.specs.ElementRules.{part_in}
use Rattle.ng_template_rules.proofs.elements.part_in.Given as goal

abbrev pub invariant-loop-members : goal.invariant-loop-members
invariant-loop-members l = part_in l.members l.name ≡ part_in l.initial.members l.name

abbrev pub decreases-loop-members : goal.decreases-loop-members
decreases-loop-members l = length l.members
