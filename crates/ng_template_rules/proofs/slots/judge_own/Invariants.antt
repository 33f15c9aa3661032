use Rattle.std.proofs.Common.{◌≡◌, take}
use Rattle.ng_breaks.specs.Least.{least_of}
use Rattle.ng_template_rules.specs.TemplateRules.{slot_breaks}
use Rattle.ng_template_rules.proofs.slots.judge_own.Given as goal

abbrev pub invariant-loop-name : goal.invariant-loop-name
invariant-loop-name l = l.best ≡ least_of l.initial.best (slot_breaks l.place l.seen (take l.name-index l.own))
