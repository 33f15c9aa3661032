use Rattle.std.specs.Option.{option_copied}
use Rattle.ng_template_rules.specs.ElementRules.{output_break}
use Rattle.ng_breaks.specs.LeastLaws.{least_next}
use Rattle.ng_template_rules.proofs.elements.judge_outputs.Goals as goal

pub loop-attr-preserved : goal.loop-attr-preserved
loop-attr-preserved c = least_next (λ a. output_break (option_copied c.args.host) a.place a.name a.form) c.args.attrs.now c.loop-attr.attr-index c.attr-item.result c.args.best.now c.loop-attr.best c.judge_output.new.best
    c.loop-attr-test.true c.attr-item.is c.loop-attr.invariant c.in_ok-judge_output.ensures
