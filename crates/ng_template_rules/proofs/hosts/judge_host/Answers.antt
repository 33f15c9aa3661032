use Rattle.std.proofs.Common.{◌∙◌, ap}
use Rattle.ng_breaks.specs.Least.{least_of}
use Rattle.ng_template_rules.specs.ElementRules.{element_breaks}
use Rattle.ng_template_rules.proofs.LeastNext.{targets}
use Rattle.ng_template_rules.proofs.hosts.judge_host.Goals as goal

pub returns : goal.returns
returns c = c.in_ok-judge_element.ensures
    ∙ ap (λ hs. least_of c.args.best.now (element_breaks hs c.args.place c.args.tag.now c.args.attrs.now)) (ap targets c.as_slice.ensures.value ∙ c.in_ok-hosts.ensures)
