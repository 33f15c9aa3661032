use Rattle.std.proofs.Common.{◌≡◌, take}
use Rattle.ng_semantics.specs.Declared.{initial_fields}
use Rattle.ng_semantics.specs.First.{names_of}
use Rattle.ng_update.specs.Fields.{world_of, names_in}
use Rattle.ng_update.proofs.fields.initial.Given as goal

abbrev pub invariant-loop-member : goal.invariant-loop-member
invariant-loop-member l = record {
  values : world_of l.fields.items ≡ initial_fields (take l.member-index l.members);
  names : names_in l.fields.items ≡ names_of (take l.member-index l.members);
}
