-- What fields hold, and what a computation over them gives.
use Rattle.std.specs.Prelude.{ℤ, List, map, Option, Some, None, Result, Ok, Err}
use Rattle.ng_values.specs.declared.value.Value.TheVariants as value
use Rattle.ng_values.specs.declared.value.Value.{Value}
use Rattle.ng_values.specs.declared.fault.Fault.{Fault}
use Rattle.ng_semantics.specs.Text.{Text}
use Rattle.ng_semantics.specs.Meaning.{World, Answer}
use Rattle.ng_update.specs.declared.fields.Field.{Field}

-- a field under its name
abbrev pub entry : Field → Text × Value
entry f = (f.name, value.Int f.value)

-- what the fields hold, in their order
abbrev pub world_of : List Field → World
world_of = map entry

abbrev pub names_in : List Field → List Text
names_in = map (λ f. f.name)

-- a whole number as a value, or the fault
abbrev pub answer_of : Result ℤ Fault → Answer
answer_of (Ok n) = Ok (value.Int n)
answer_of (Err fault) = Err fault

-- the fault that ended statements
abbrev pub fault_in : Result (Unit {0}) Fault → Option Fault
fault_in (Ok done) = None
fault_in (Err fault) = Some fault
