use Rattle.std.proofs.Common.{◌≡◌, take}
use Rattle.std.specs.List.{flat_map}
use Rattle.ng_breaks.specs.Least.{least_of}
use Rattle.ng_template_rules.specs.ElementRules.{wanted_breaks}
use Rattle.ng_template_rules.proofs.elements.judge_wanted.Given as goal

abbrev pub invariant-loop-member : goal.invariant-loop-member
invariant-loop-member l = l.best ≡ least_of l.initial.best (flat_map (wanted_breaks l.place l.giving) (take l.member-index l.members))
