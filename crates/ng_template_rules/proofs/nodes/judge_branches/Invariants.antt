use Rattle.std.proofs.Common.{◌≡◌, take}
use Rattle.std.specs.List.{flat_map}
use Rattle.ng_breaks.specs.Least.{least_of}
use Rattle.ng_template_rules.specs.TemplateRules.{branch_breaks}
use Rattle.ng_template_rules.proofs.nodes.judge_branches.Given as goal

abbrev pub invariant-loop-branch : goal.invariant-loop-branch
invariant-loop-branch l = l.best ≡ least_of l.initial.best (flat_map branch_breaks (take l.branch-index l.branches))
