-- What a search for a key among the pairs of a record answers.
use Rattle.std.specs.Prelude.{◌≡◌, ℕ, ◌<◌, List, [], length, slice_index_or, Some, None, Result, Ok, Err}
use Rattle.ng_values.specs.declared.value.Value.{Value}
use Rattle.ng_values.specs.declared.value.Value.TheVariants as v
use Rattle.ng_values.specs.Parts.{found_at}

-- the place of the key, or that no pair has it
abbrev pub FindsKey : List ℕ → List (List ℕ × Value) → Result ℕ ℕ → Type 0
FindsKey k ps (Ok at) = (at < length ps) × (found_at ps k ≡ Some (slice_index_or ps at ([], v.Null)).1)
FindsKey k ps (Err at) = found_at ps k ≡ None
