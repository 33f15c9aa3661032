use Rattle.std.proofs.Common.{◌≡◌, take, not}
use Rattle.std.specs.List.{flat_map}
use Rattle.ng_ast.specs.declared.refusals.Rule.TheVariants as rule
use Rattle.ng_breaks.specs.Least.{broken, least_of}
use Rattle.ng_template_rules.specs.ElementRules.{is_allowed}
use Rattle.ng_template_rules.proofs.allowed.judge_others.Given as goal

abbrev pub invariant-loop-attr : goal.invariant-loop-attr
invariant-loop-attr l = l.best ≡ least_of l.initial.best (flat_map (λ a. broken (not (is_allowed l.tag a)) rule.N25 a.place l.tag) (take l.attr-index l.attrs))
