use Rattle.std.proofs.Common.{◌≡◌, take, bytes_eq, ◌||◌}
use Rattle.std.specs.List.{list_any}
use Rattle.std.specs.HashSet.{contains}
use Rattle.ng_hosts.specs.Hosts.{Name}
use Rattle.ng_quiet.specs.Quiet.{is_sent}
use Rattle.ng_quiet.proofs.survey.push_all_sent.Given as goal

abbrev pub invariant-loop-usage : goal.invariant-loop-usage
invariant-loop-usage l = (n : Name) → contains bytes_eq l.called n ≡ (contains bytes_eq l.initial.called n || list_any (is_sent n) (take l.usage-index l.usages))
