use Rattle.std.proofs.Common.{◌≡◌, take, bytes_eq}
use Rattle.ng_breaks.specs.Least.{least_of}
use Rattle.std.specs.HashMap.{get}
use Rattle.ng_decl_rules.specs.DeclRules.{provide_breaks}
use Rattle.ng_decl_rules.proofs.decl_rules.judge_provides.Given as goal

abbrev pub invariant-loop-provide : goal.invariant-loop-provide
invariant-loop-provide l = l.best ≡ least_of l.initial.best (provide_breaks (get bytes_eq l.index) (take l.provide-index l.provides))
