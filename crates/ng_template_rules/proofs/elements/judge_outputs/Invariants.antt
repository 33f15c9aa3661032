use Rattle.std.proofs.Common.{◌≡◌, take}
use Rattle.std.specs.Option.{option_copied}
use Rattle.ng_breaks.specs.Least.{least_of}
use Rattle.ng_template_rules.specs.ElementRules.{output_breaks}
use Rattle.ng_template_rules.proofs.elements.judge_outputs.Given as goal

abbrev pub invariant-loop-attr : goal.invariant-loop-attr
invariant-loop-attr l = l.best ≡ least_of l.initial.best (output_breaks (option_copied l.host) (take l.attr-index l.attrs))
