use Rattle.std.proofs.Common.{arith, length-drop}
use Rattle.ng_cli.proofs.Writing.{wrote_more, wrote_front, on_err}
use Rattle.ng_cli.proofs.put.put_all.Goals as goal

pub returns-in_err-done-clause-part : goal.returns-in_err-done-clause-part
returns-in_err-done-clause-part g c = on_err c.from_residual.result (wrote_front _ _ _ c.args.text.now c.loop-done.done c.loop-done.invariant.wrote c.in_err-done.ensures.nothing)

pub loop-done-preserved : goal.loop-done-preserved
loop-done-preserved g c =
    record {
      within = omega (arith, length-drop c.loop-done.done c.args.text.now, c.in_ok-done.ensures.within);
      wrote = wrote_more _ _ _ c.args.text.now c.loop-done.done c.in_ok-done.field-0 c.loop-done.invariant.wrote c.in_ok-done.ensures.appends;
      grows = omega (arith, c.in_ok-done.ensures.faults_grow);
    }
