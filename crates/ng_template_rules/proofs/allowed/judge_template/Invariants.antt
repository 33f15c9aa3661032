use Rattle.std.proofs.Common.{◌≡◌, false, drop}
use Rattle.ng_breaks.specs.Least.{least_of}
use Rattle.ng_template_rules.specs.ElementRules.{template_breaks}
use Rattle.ng_template_rules.proofs.allowed.judge_template.Given as goal

abbrev pub invariant-loop-attr : goal.invariant-loop-attr
invariant-loop-attr l = least_of l.best (template_breaks l.tag l.referred (drop l.attr-index l.attrs)) ≡ least_of l.initial.best (template_breaks l.tag false l.attrs)
