use Rattle.std.proofs.Common.{◌≡◌, take, None}
use Rattle.ng_semantics.specs.Text.{look}
use Rattle.ng_update.specs.Fields.{world_of}
use Rattle.ng_update.proofs.fields.put.Given as goal

abbrev pub invariant-loop-i : goal.invariant-loop-i
invariant-loop-i l = record { same : l.fields ≡ l.initial.fields; none : look l.name (world_of (take l.i l.fields)) ≡ None }
