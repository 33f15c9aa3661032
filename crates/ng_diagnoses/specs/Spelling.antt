-- How near names are to a word.
use Rattle.std.specs.Prelude.{ℕ, ◌-◌, ◌/◌, ◌<◌, ◌≤◌, min, max, List, length}
use Rattle.std.specs.Str.{chars}
use Rattle.strsim.specs.Edits.{osa_table}

-- how many edits lead from a name to a word: a letter more or less, another letter, or two neighbours exchanged
abbrev pub edits : List ℕ → List ℕ → ℕ
edits name word = (osa_table (chars name) (chars word)).last_row (length (chars word))

-- how many edits may lead to a word of so many bytes: a third of them, one at least, and fewer than all
abbrev pub reach : ℕ → ℕ
reach n = min (max (n / 3) 1) (n - 1)

-- A name differs from a word and is near it.
abbrev pub IsNear : List ℕ → List ℕ → Type 0
IsNear word name = (0 < edits name word) × (edits name word ≤ reach (length word))
