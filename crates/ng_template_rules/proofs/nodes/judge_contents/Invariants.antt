use Rattle.std.proofs.Common.{◌≡◌, take}
use Rattle.std.specs.List.{flat_map}
use Rattle.ng_breaks.specs.Least.{least_of}
use Rattle.ng_parts.specs.Flat.{pointed}
use Rattle.ng_template_rules.specs.TemplateRules.{content_breaks}
use Rattle.ng_template_rules.proofs.nodes.judge_contents.Given as goal

abbrev pub invariant-loop-node : goal.invariant-loop-node
invariant-loop-node l = l.best ≡ least_of l.initial.best (flat_map content_breaks (pointed (take l.node-index l.nodes)))
