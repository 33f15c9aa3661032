-- So far the turns of the clicks up to `index` were written.
use Rattle.std.proofs.Common.{◌≤◌, ◌+◌, drop, length}
use Rattle.ng_cli.specs.Steps.{whole_run}
use Rattle.ng_cli.proofs.Turns.{Progress}
use Rattle.ng_cli.proofs.session.session.Given as goal

abbrev pub invariant-loop-index : goal.invariant-loop-index
invariant-loop-index g l = record {
  progress : Progress (g.K.Sink.taken l.fn.sink) (g.K.Sink.taken l.sink) l.engine (l.index + 1) (drop l.index l.tags) (length l.tags) (whole_run l.fn.engine l.tags);
  grows : g.K.Sink.faults l.fn.sink ≤ g.K.Sink.faults l.sink;
}
