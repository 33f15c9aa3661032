use Rattle.std.proofs.Common.{◌≡◌, ◌||◌, take, not}
use Rattle.std.specs.List.{flat_map}
use Rattle.std.specs.Option.{option_copied}
use Rattle.ng_ast.specs.declared.refusals.Rule.TheVariants as rule
use Rattle.ng_breaks.specs.Least.{broken, least_of}
use Rattle.ng_template_rules.specs.ElementRules.{has_input}
use Rattle.ng_template_rules.specs.Tables.{is_property}
use Rattle.ng_template_rules.proofs.elements.judge_bound.Given as goal

abbrev pub invariant-loop-site : goal.invariant-loop-site
invariant-loop-site l = l.best ≡ least_of l.initial.best (flat_map (λ s. broken (not (has_input (option_copied l.host) s.name || is_property s.name)) rule.N05 s.place s.name) (take l.site-index l.bound))
