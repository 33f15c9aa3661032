use Rattle.std.proofs.Common.{◌≡◌, take}
use Rattle.ng_quiet.specs.Quiet.{own_calls}
use Rattle.ng_quiet.proofs.fields.own_calls.Given as goal

abbrev pub invariant-loop-usage : goal.invariant-loop-usage
invariant-loop-usage l = l.row.items ≡ own_calls (take l.usage-index l.usages)
