use Rattle.std.proofs.Common.{◌≡◌, map, take, bytes_eq}
use Rattle.std.specs.HashSet.{contains}
use Rattle.ng_hosts.specs.Hosts.{Name, components}
use Rattle.ng_quiet.specs.Quiet.{reads_steadily, is_called}
use Rattle.ng_quiet.proofs.survey.survey_of.Given as goal

abbrev pub invariant-loop-decl : goal.invariant-loop-decl
invariant-loop-decl l = record {
  steady : l.steady.items ≡ map reads_steadily (components (take l.decl-index l.decls));
  called : (n : Name) → contains bytes_eq l.called n ≡ is_called (take l.decl-index l.decls) n;
}
