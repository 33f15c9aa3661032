use Rattle.std.proofs.Common.{◌≡◌, map, take}
use Rattle.std.specs.List.{flat_map}
use Rattle.ng_breaks.specs.Least.{least_of}
use Rattle.ng_parts.specs.Flat.{pointed}
use Rattle.ng_template_rules.specs.TemplateRules.{node_breaks}
use Rattle.ng_template_rules.proofs.nodes.judge_each.Given as goal

abbrev pub invariant-loop-node : goal.invariant-loop-node
invariant-loop-node l = l.best ≡ least_of l.initial.best (flat_map (node_breaks (map (λ c. c.now) l.components) l.owner) (pointed (take l.node-index l.nodes)))
