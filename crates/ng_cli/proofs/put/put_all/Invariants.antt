-- What was taken so far is the text up to `done`.
use Rattle.std.proofs.Common.{length, take, ◌-◌, ◌≤◌}
use Rattle.ng_cli.specs.Causes.{Wrote}
use Rattle.ng_cli.proofs.put.put_all.Given as goal

abbrev pub invariant-loop-done : goal.invariant-loop-done
invariant-loop-done g l = record {
  within : l.done ≤ length l.text;
  wrote : Wrote (g.K.Sink.taken l.fn.sink) (g.K.Sink.taken l.sink) (take l.done l.text);
  grows : g.K.Sink.faults l.fn.sink ≤ g.K.Sink.faults l.sink;
}

abbrev pub decreases-loop-done : goal.decreases-loop-done
decreases-loop-done g l = length l.text - l.done
