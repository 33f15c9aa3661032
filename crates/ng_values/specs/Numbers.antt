-- The operators that need numbers, and `<`.
use Rattle.std.specs.Prelude.{pos, ◌-ℤ◌, ◌*ℤ◌, int_div, int_rem, int_lt, Result, Ok, Err, if◌then◌else◌}
use Rattle.std.specs.Ordering.{int_eq, is_lt, nat_cmp}
use Rattle.std.specs.Cmp.Lexicographic.{slice_cmp}
use Rattle.ng_values.specs.declared.value.Value.{Value}
use Rattle.ng_values.specs.declared.value.Value.TheVariants.{Bool, Int, Text}
use Rattle.ng_values.specs.declared.fault.Fault.{Fault}
use Rattle.ng_values.specs.declared.fault.Fault.TheVariants.{DivideByZero, WrongKind}
use Rattle.ng_values.specs.Add.{number}

-- `-` takes two numbers
abbrev pub difference : Value → Value → Result Value Fault
difference (Int x) (Int y) = number (x -ℤ y)
difference _ _ = Err WrongKind

-- `*` takes two numbers
abbrev pub product : Value → Value → Result Value Fault
product (Int x) (Int y) = number (x *ℤ y)
product _ _ = Err WrongKind

-- `/` takes two numbers and rounds towards zero; it overflows at the least number by -1 alone
abbrev pub quotient : Value → Value → Result Value Fault
quotient (Int x) (Int y) = if int_eq y (pos 0) then Err DivideByZero else number (int_div x y)
quotient _ _ = Err WrongKind

-- `%` takes two numbers and has the sign of the first; it never overflows
abbrev pub remainder : Value → Value → Result Value Fault
remainder (Int x) (Int y) = if int_eq y (pos 0) then Err DivideByZero else Ok (Int (int_rem x y))
remainder _ _ = Err WrongKind

-- `<` takes two numbers, or two texts, which compare by their bytes
abbrev pub precedes : Value → Value → Result Value Fault
precedes (Int x) (Int y) = Ok (Bool (int_lt x y))
precedes (Text s) (Text t) = Ok (Bool (is_lt (slice_cmp nat_cmp s t)))
precedes _ _ = Err WrongKind
