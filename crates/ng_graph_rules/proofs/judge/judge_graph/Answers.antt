use Rattle.std.proofs.Common.{◌∙◌, ap, refl}
use Rattle.ng_breaks.specs.Least.{least_of}
use Rattle.ng_graph_rules.specs.CycleRules.{told_from}
use Rattle.ng_graph_rules.proofs.judge.judge_graph.Goals as goal

pub returns : goal.returns
returns c = (
  told_from c.args.rule c.in_ok-answers.answers.items 0 c.args.sites.now,
  (c.in_ok-answers.answers.items, c.in_ok-answers.ensures, refl),
  c.in_ok-offer_told.ensures ∙ ap (λ xs. least_of c.args.best.now (told_from c.args.rule xs 0 c.args.sites.now)) c.as_slice.ensures.value,
)
