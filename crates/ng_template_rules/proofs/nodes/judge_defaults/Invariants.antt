use Rattle.std.proofs.Common.{◌≡◌, false, drop}
use Rattle.ng_breaks.specs.Least.{least_of}
use Rattle.ng_template_rules.specs.TemplateRules.{default_breaks}
use Rattle.ng_template_rules.proofs.nodes.judge_defaults.Given as goal

abbrev pub invariant-loop-branch : goal.invariant-loop-branch
invariant-loop-branch l = least_of l.best (default_breaks l.owner l.met (drop l.branch-index l.branches)) ≡ least_of l.initial.best (default_breaks l.owner false l.branches)
