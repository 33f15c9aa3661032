-- The JSON form of a value.
use Rattle.std.specs.Prelude.{ℕ, ◌+◌, ◌/◌, ◌%◌, ◌==◌, nat_lt, List, [], ◌∷◌, ◌++◌, map, codes, encode_utf8, if◌then◌else◌}
use Rattle.std.specs.Fmt.{signed_decimal}
use Rattle.std.specs.List.{flat_map}
use Rattle.std.specs.Str.{chars}
use Rattle.ng_values.specs.declared.plain.Plain.{Plain}
use Rattle.ng_values.specs.declared.plain.Plain.TheOpen.{Plain-F}
use Rattle.ng_values.specs.Folded.{folded}
use Rattle.ng_values.specs.Text.{with_commas}

-- a number below 16 as a lower-case hexadecimal digit
abbrev pub hex_digit : ℕ → ℕ
hex_digit n = if nat_lt n 10 then 48 + n else 87 + n

-- a character below U+0020 that has no short escape
abbrev pub json_control : ℕ → List ℕ
json_control c = codes "\\u00" ++ hex_digit (c / 16) ∷ hex_digit (c % 16) ∷ []

-- how a character stands in a text of JSON
abbrev pub json_char : ℕ → List ℕ
json_char c =
    if c == 34 then codes "\\\"" else (if c == 92 then codes "\\\\" else (if c == 8 then codes "\\b" else (if c == 9 then codes "\\t"
    else (if c == 10 then codes "\\n" else (if c == 12 then codes "\\f" else (if c == 13 then codes "\\r" else (if nat_lt c 32 then json_control c else encode_utf8 c)))))))

-- a text in quotes
abbrev pub json_text : List ℕ → List ℕ
json_text t = 34 ∷ flat_map json_char (chars t) ++ 34 ∷ []

-- one level, with the JSON form of each value inside in its place
abbrev pub json_step : Plain-F (List ℕ) → List ℕ
json_step Plain-F.Null = codes "null"
json_step (Plain-F.Bool b) = if b then codes "true" else codes "false"
json_step (Plain-F.Int z) = signed_decimal z
json_step (Plain-F.Text t) = json_text t
json_step (Plain-F.List ts) = 91 ∷ with_commas ts ++ 93 ∷ []
json_step (Plain-F.Rec ts) = 123 ∷ with_commas (map (λ q. json_text q.0 ++ 58 ∷ q.1) ts) ++ 125 ∷ []

-- the JSON form, with no white space and the keys of a record in their order
abbrev pub json : Plain → List ℕ
json = folded [] json_step

-- a key with its value
abbrev pub json_pair : List ℕ × Plain → List ℕ
json_pair q = json_text q.0 ++ 58 ∷ json q.1
