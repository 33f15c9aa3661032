use Rattle.std.proofs.Common.{◌≡◌, take}
use Rattle.std.specs.List.{flat_map}
use Rattle.ng_template_rules.specs.TemplateRules.{selects}
use Rattle.ng_template_rules.proofs.slots.selects.Given as goal

abbrev pub invariant-loop-attr : goal.invariant-loop-attr
invariant-loop-attr l = l.selects.items ≡ flat_map (λ a. selects a.name a.form) (take l.attr-index l.attrs)
