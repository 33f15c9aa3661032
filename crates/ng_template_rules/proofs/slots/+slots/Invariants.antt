use Rattle.std.proofs.Common.{◌≡◌, ◌++◌, take, drop}
use Rattle.std.specs.List.{flat_map}
use Rattle.ng_breaks.specs.Least.{least_of}
use Rattle.ng_template_rules.specs.TemplateRules.{slots, twice_in}
use Rattle.ng_template_rules.proofs.slots.+slots.Given as goal

abbrev pub invariant-judge_nodes-loop-node : goal.invariant-judge_nodes-loop-node
invariant-judge_nodes-loop-node l = record { seen : l.seen.items ≡ l.initial.seen.items ++ flat_map slots (take l.node-index l.nodes); best : least_of l.best (twice_in l.seen.items (drop l.node-index l.nodes)) ≡ least_of l.initial.best (twice_in l.initial.seen.items l.nodes) }

abbrev pub invariant-judge_branches-loop-branch : goal.invariant-judge_branches-loop-branch
invariant-judge_branches-loop-branch l = record { seen : l.seen.items ≡ l.initial.seen.items; later : l.later.items ≡ flat_map (λ b. flat_map slots b.nodes) (take l.branch-index l.branches); best : l.best ≡ least_of l.initial.best (flat_map (λ b. twice_in l.initial.seen.items b.nodes) (take l.branch-index l.branches)) }
