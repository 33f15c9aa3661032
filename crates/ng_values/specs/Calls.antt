-- The methods of lists and records. Surplus arguments are dropped, and missing ones are null.
use Rattle.std.specs.Prelude.{ℕ, ◌+◌, pos, negsuc, nat_lt, List, [], ◌∷◌, ◌++◌, length, take, drop, slice_index_or, codes, is_some, Option, Some, None, Result, Ok, Err, if◌then◌else◌}
use Rattle.std.specs.List.{position_from}
use Rattle.ng_values.specs.declared.plain.Plain.{Plain}
use Rattle.ng_values.specs.declared.value.Value.{Value}
use Rattle.ng_values.specs.declared.value.Value.TheVariants as v
use Rattle.ng_values.specs.declared.fault.Fault.{Fault}
use Rattle.ng_values.specs.declared.fault.Fault.TheVariants.{NullRead, NoMember, WrongKind}
use Rattle.ng_values.specs.Make.{list_of, rec_of}
use Rattle.ng_values.specs.Parts.{is_text}
use Rattle.ng_values.specs.Same.{is_same}
use Rattle.ng_values.specs.View.{plain, value_of}

-- the argument at a place
abbrev pub argument : ℕ → List Value → Value
argument n args = slice_index_or args n v.Null

-- an argument that has to be a number from 0 on
abbrev pub natural : Value → Result ℕ Fault
natural (v.Int (pos n)) = Ok n
natural _ = Err WrongKind

-- the same, where null stands for a number of its own
abbrev pub natural_or : ℕ → Value → Result ℕ Fault
natural_or n v.Null = Ok n
natural_or n w = natural w

-- what follows where an argument is good
abbrev pub if_good : Result ℕ Fault → (ℕ → Result Value Fault) → Result Value Fault
if_good (Ok n) f = f n
if_good (Err e) f = Err e

-- `concat(l)`: the items of both lists
abbrev pub concatenated : List Plain → Value → Result Value Fault
concatenated ds (v.List es) = list_of (ds ++ es)
concatenated ds _ = Err WrongKind

-- `slice(a, b)`: the items from a up to before b, where null for b is the length
abbrev pub sliced : List Plain → Value → Value → Result Value Fault
sliced ds a b = if_good (natural a) (λ from. if_good (natural_or (length ds) b) (λ to. list_of (drop from (take to ds))))

-- `with(i, w)`: the item at i is w, and i has to be in range
abbrev pub with_item : List Plain → Value → Value → Result Value Fault
with_item ds i w = if_good (natural i) (λ at. if nat_lt at (length ds) then list_of (take at ds ++ plain w ∷ drop (at + 1) ds) else Err WrongKind)

-- `toSpliced(i, n)`: n items are taken out at i, where null for n is all that follow
abbrev pub spliced : List Plain → Value → Value → Result Value Fault
spliced ds i n = if_good (natural i) (λ at. if_good (natural_or (length ds) n) (λ gone. list_of (take at ds ++ drop gone (drop at ds))))

-- the first place of a value among items, counted from n
abbrev pub place_of : ℕ → Value → List Plain → Option ℕ
place_of n w ds = position_from (λ d. is_same (value_of d) w) n ds

-- a place as a number, and -1 for none
abbrev pub place_or_none : Option ℕ → Value
place_or_none (Some n) = v.Int (pos n)
place_or_none None = v.Int (negsuc 0)

-- the methods of a list
abbrev pub list_call : List ℕ → List Plain → Value → Value → Result Value Fault
list_call name ds a b =
    if is_text name (codes "concat") then concatenated ds a else (if is_text name (codes "slice") then sliced ds a b
    else (if is_text name (codes "with") then with_item ds a b else (if is_text name (codes "toSpliced") then spliced ds a b
    else (if is_text name (codes "indexOf") then Ok (place_or_none (place_of 0 a ds)) else (if is_text name (codes "includes") then Ok (v.Bool (is_some (place_of 0 a ds)))
    else Err NoMember)))))

-- `with(k, w)` of a record: the value at the key k is w
abbrev pub with_key : List (List ℕ × Plain) → Value → Value → Result Value Fault
with_key ps (v.Text k) w = rec_of (ps ++ (k, plain w) ∷ [])
with_key ps _ w = Err WrongKind

-- a call of a method: null has none that may be read, and other values have none
abbrev pub invoked : Value → List ℕ → List Value → Result Value Fault
invoked v.Null name args = Err NullRead
invoked (v.List ds) name args = list_call name ds (argument 0 args) (argument 1 args)
invoked (v.Rec ps) name args = if is_text name (codes "with") then with_key ps (argument 0 args) (argument 1 args) else Err NoMember
invoked _ name args = Err NoMember
