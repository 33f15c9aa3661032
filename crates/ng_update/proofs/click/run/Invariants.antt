use Rattle.std.proofs.Common.{◌≡◌, drop}
use Rattle.ng_semantics.specs.Events.{statements}
use Rattle.ng_update.specs.Fields.{world_of, names_in}
use Rattle.ng_update.proofs.click.run.Given as goal

abbrev pub invariant-loop-statement : goal.invariant-loop-statement
invariant-loop-statement l = record {
  values : statements (drop l.statement-index l.statements) (world_of l.fields) ≡ statements l.statements (world_of l.initial.fields);
  names : names_in l.fields ≡ names_in l.initial.fields;
}
