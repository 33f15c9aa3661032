use Rattle.ng_rules.proofs.Laws.{found_at}
use Rattle.ng_rules.proofs.checker.find.Goals as goal

pub returns : goal.returns
returns c = found_at c.args.app.now c.as_slice-decls.result.now c.judge_declarations.new.best c.judge_cycles.new.best c.judge_templates.new.best
    c.as_slice-decls.ensures c.in_ok-judge_declarations.ensures c.in_ok-judge_cycles.ensures c.in_ok-judge_templates.ensures
