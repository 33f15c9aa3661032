use Rattle.std.proofs.Common.{◌≡◌, drop}
use Rattle.ng_tokens.specs.Lexis.{all}
use Rattle.ng_attributes.specs.Runs.{passes}
use Rattle.ng_attributes.proofs.classes.Class.holds_each.Given as goal

abbrev pub invariant-loop-b : goal.invariant-loop-b
invariant-loop-b l = all (passes l.fn.self) (drop l.b-index l.z) ≡ all (passes l.fn.self) l.z
