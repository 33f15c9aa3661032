use Rattle.std.proofs.Common.{◌≡◌, ◌++◌, take}
use Rattle.ng_template_rules.proofs.slots.push_all.Given as goal

abbrev pub invariant-loop-name : goal.invariant-loop-name
invariant-loop-name l = l.seen.items ≡ l.initial.seen.items ++ take l.name-index l.names
