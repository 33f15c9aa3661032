-- What `[..]` and `.name` read of a value.
use Rattle.std.specs.Prelude.{ℕ, ℤ, pos, negsuc, nat_eq, List, length, slice_get, codes, Option, Some, None, Result, Ok, Err, Bool, if◌then◌else◌}
use Rattle.std.specs.Cmp.Lexicographic.{pointwise}
use Rattle.std.specs.Map.{lookup}
use Rattle.std.specs.Str.{chars}
use Rattle.ng_values.specs.declared.plain.Plain.{Plain}
use Rattle.ng_values.specs.declared.value.Value.{Value}
use Rattle.ng_values.specs.declared.value.Value.TheVariants as v
use Rattle.ng_values.specs.declared.fault.Fault.{Fault}
use Rattle.ng_values.specs.declared.fault.Fault.TheVariants.{NullRead, NoMember, WrongKind}
use Rattle.ng_values.specs.View.{value_of}

-- what is found, and null where nothing is
abbrev pub or_null : Option Plain → Value
or_null None = v.Null
or_null (Some d) = value_of d

-- whether two texts are one text
abbrev pub is_text : List ℕ → List ℕ → Bool
is_text = pointwise nat_eq

-- the item at a number, counted from 0
abbrev pub item_at : List Plain → ℤ → Value
item_at ds (pos n) = or_null (slice_get ds n)
item_at ds (negsuc n) = v.Null

-- what a record has at a key
abbrev pub found_at : {A : Type 0} → List (List ℕ × A) → List ℕ → Option A
found_at ps k = lookup (is_text k) ps

-- the value at a key
abbrev pub value_at : List (List ℕ × Plain) → List ℕ → Value
value_at ps k = or_null (found_at ps k)

-- `a[b]` takes a list and a number, or a record and a text
abbrev pub indexed : Value → Value → Result Value Fault
indexed v.Null at = Err NullRead
indexed (v.List ds) (v.Int z) = Ok (item_at ds z)
indexed (v.Rec ps) (v.Text k) = Ok (value_at ps k)
indexed _ _ = Err WrongKind

-- a count as a number
abbrev pub count : ℕ → Value
count n = v.Int (pos n)

-- `.length` is all that a list and a text have
abbrev pub length_alone : List ℕ → ℕ → Result Value Fault
length_alone name n = if is_text name (codes "length") then Ok (count n) else Err NoMember

-- `a.name`: a record's value at the name, a list's items and a text's characters
abbrev pub part : Value → List ℕ → Result Value Fault
part v.Null name = Err NullRead
part (v.Rec ps) name = Ok (value_at ps name)
part (v.List ds) name = length_alone name (length ds)
part (v.Text t) name = length_alone name (length (chars t))
part _ name = Err NoMember
