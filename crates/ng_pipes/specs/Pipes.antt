-- The pipes that every template has.
use Rattle.std.specs.Prelude.{ℕ, nat_lt, List, length, map, take, drop, encode_utf8_all, Result, Ok, Err, if◌then◌else◌}
use Rattle.std.specs.Char.{to_ascii_uppercase, to_ascii_lowercase}
use Rattle.std.specs.Str.{chars}
use Rattle.ng_values.specs.declared.value.Value.{Value}
use Rattle.ng_values.specs.declared.value.Value.TheVariants as v
use Rattle.ng_values.specs.declared.fault.Fault.{Fault}
use Rattle.ng_values.specs.declared.fault.Fault.TheVariants.{WrongKind, ValueTooLarge}
use Rattle.ng_values.specs.Calls.{argument, natural, natural_or, if_good, sliced}
use Rattle.ng_values.specs.Json.{json}
use Rattle.ng_values.specs.Parts.{count}
use Rattle.ng_values.specs.View.{plain}
use Rattle.ng_pipes.specs.declared.builtin.PipeId.{PipeId}
use Rattle.ng_pipes.specs.declared.builtin.PipeId.TheVariants as pipe

-- `uppercase` and `lowercase`: each byte of a text as f has it
abbrev pub cased : (ℕ → ℕ) → Value → Result Value Fault
cased f v.Null = Ok v.Null
cased f (v.Text t) = Ok (v.Text (map f t))
cased f _ = Err WrongKind

-- the characters of a text from a up to before b, where null for b is their number
abbrev pub text_part : List ℕ → Value → Value → Result Value Fault
text_part t a b = if_good (natural a) (λ from. if_good (natural_or (length (chars t)) b) (λ to. Ok (v.Text (encode_utf8_all (drop from (take to (chars t)))))))

-- `slice : a : b`
abbrev pub part_of : Value → Value → Value → Result Value Fault
part_of v.Null a b = Ok v.Null
part_of (v.List ds) a b = sliced ds a b
part_of (v.Text t) a b = text_part t a b
part_of _ a b = Err WrongKind

-- a text, unless it has more than 65,535 bytes
abbrev pub made_text : List ℕ → Result Value Fault
made_text t = if nat_lt 65535 (length t) then Err ValueTooLarge else Ok (v.Text t)

-- `length`
abbrev pub measured : Value → Result Value Fault
measured v.Null = Ok v.Null
measured (v.List ds) = Ok (count (length ds))
measured (v.Text t) = Ok (count (length (chars t)))
measured _ = Err WrongKind

-- what each pipe makes of the value that its arguments begin with
abbrev pub applied : PipeId → List Value → Result Value Fault
applied pipe.Uppercase args = cased to_ascii_uppercase (argument 0 args)
applied pipe.Lowercase args = cased to_ascii_lowercase (argument 0 args)
applied pipe.Slice args = part_of (argument 0 args) (argument 1 args) (argument 2 args)
applied pipe.Json args = made_text (json (plain (argument 0 args)))
applied pipe.Length args = measured (argument 0 args)
