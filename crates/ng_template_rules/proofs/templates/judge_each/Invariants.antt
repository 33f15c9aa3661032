use Rattle.std.proofs.Common.{◌≡◌, map, take}
use Rattle.std.specs.List.{flat_map}
use Rattle.ng_breaks.specs.Least.{least_of}
use Rattle.ng_template_rules.specs.TemplateRules.{component_breaks}
use Rattle.ng_template_rules.proofs.templates.judge_each.Given as goal

abbrev pub invariant-loop-component : goal.invariant-loop-component
invariant-loop-component l = l.best ≡ least_of l.initial.best (flat_map (component_breaks (map (λ c. c.now) l.components)) (map (λ c. c.now) (take l.component-index l.components)))
