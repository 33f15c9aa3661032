use Rattle.std.proofs.Common.{◌≡◌, drop}
use Rattle.ng_semantics.specs.Text.{look}
use Rattle.ng_update.specs.Fields.{world_of}
use Rattle.ng_update.proofs.fields.value_of.Given as goal

abbrev pub invariant-loop-field : goal.invariant-loop-field
invariant-loop-field l = look l.name (world_of (drop l.field-index l.fields)) ≡ look l.name (world_of l.fields)
