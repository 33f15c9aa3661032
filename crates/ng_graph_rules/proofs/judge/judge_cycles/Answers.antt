use Rattle.std.proofs.Common.{◌≡◌, ◌∙◌, ap, bytes_eq}
use Rattle.std.specs.HashMap.{get}
use Rattle.ng_parts.specs.Entries.{named}
use Rattle.ng_graph_rules.specs.CycleRules.{Names, pipe_graph, environment_graph}
use Rattle.ng_graph_rules.proofs.Laws.{names_of, taken_at, takes_all}
use Rattle.ng_graph_rules.proofs.judge.judge_cycles.Goals as goal

pub returns : goal.returns
returns c =
    let e : get bytes_eq c.in_ok-index.index ≡ named c.args.decls.now = names_of c.in_ok-index.index c.args.decls.now c.in_ok-index.ensures in
    takes_all c.args.decls.now c.args.best.now c.judge_pipes.new.best c.judge_getters.new.best c.judge_environments.new.best
    (taken_at _ _ _ _ _ _ _ (ap (λ (n : Names). pipe_graph n c.args.decls.now) e) (c.as_slice.ensures.value ∙ c.in_ok-sites.ensures) c.in_ok-judge_pipes.ensures)
    c.in_ok-judge_getters.ensures
    (taken_at _ _ _ _ _ _ _ (ap (λ (n : Names). environment_graph n c.args.decls.now) e) (c.as_slice-2.ensures.value ∙ c.in_ok-sites.ensures) c.in_ok-judge_environments.ensures)
