-- What an expression means.
use Rattle.std.specs.Prelude.{Option, Some, None, Result, Ok, Err}
use Rattle.ng_values.specs.declared.value.Value.{Value}
use Rattle.ng_values.specs.declared.fault.Fault.{Fault}
use Rattle.ng_values.specs.declared.fault.Fault.TheVariants.{NoMember, WrongKind}
use Rattle.ng_values.specs.Add.{add}
use Rattle.ng_ast.specs.declared.Expr.{Expr, fold-Expr}
use Rattle.ng_ast.specs.declared.Expr.TheOpen.{Expr-F}
use Rattle.ng_ast.specs.declared.Binary.{Binary}
use Rattle.ng_ast.specs.declared.Binary.TheVariants as binary
use Rattle.ng_semantics.specs.Text.{Text, look}
use Rattle.std.specs.Prelude.{List}

-- What the fields of the root instance hold, by name.
abbrev pub World : Type 0
World = List (Text × Value)

-- A value, or the first fault.
abbrev pub Answer : Type 0
Answer = Result Value Fault

abbrev pub and_then : Answer → (Value → Answer) → Answer
and_then (Ok value) f = f value
and_then (Err fault) f = Err fault

-- A name means what the field of that name holds.
abbrev pub named : Option Value → Answer
named None = Err NoMember
named (Some value) = Ok value

-- Operands are taken from left to right, then comes the operation.
abbrev pub operated : Binary → Answer → Answer → Answer
operated binary.Add a b = and_then a (λ x. and_then b (λ y. add x y))
operated _ a b = Err WrongKind

-- One level of an expression, with the meaning of each part in its place.
abbrev pub mean_step : World → Expr-F Answer → Answer
mean_step world (Expr-F.Literal place value) = Ok value
mean_step world (Expr-F.Name place name) = named (look name world)
mean_step world (Expr-F.Binary place op a b) = operated op a b
mean_step world _ = Err WrongKind

-- The meaning of an expression over what the fields hold.
abbrev pub mean : World → Expr → Answer
mean world = fold-Expr Answer (mean_step world)
