-- How many declarations there are of each kind that has a limit.
use Rattle.std.specs.Prelude.{◌+◌, ◌≤◌, nat_le, ◌&&◌, Bool, List, count_by}
use Rattle.ng_declare.specs.declared.entries.Entry.{Entry}
use Rattle.ng_declare.specs.declared.entries.Entry.TheVariants as entry
use Rattle.ng_declare.specs.declared.limits.Counts.{Counts}
use Rattle.ng_declare.specs.Grammar.{is_component, is_service, is_pipe, is_environment}

abbrev pub counted : List Entry → Counts
counted es = record { components = count_by is_component es; services = count_by is_service es; pipes = count_by is_pipe es; environments = count_by is_environment es }

-- the counts with a further declaration
abbrev pub with_entry : Counts → Entry → Counts
with_entry c (entry.Component e) = record c { components = c.components + 1 }
with_entry c (entry.Service e) = record c { services = c.services + 1 }
with_entry c (entry.Pipe e) = record c { pipes = c.pipes + 1 }
with_entry c (entry.Environment e) = record c { environments = c.environments + 1 }
with_entry c _ = c

abbrev pub are_few : Counts → Bool
are_few c = nat_le c.components 256 && nat_le c.services 256 && nat_le c.pipes 256 && nat_le c.environments 256

abbrev pub IsSmall : Counts → Type 0
IsSmall c = (c.components ≤ 256) × (c.services ≤ 256) × (c.pipes ≤ 256) × (c.environments ≤ 256)
