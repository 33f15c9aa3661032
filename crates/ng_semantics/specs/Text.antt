-- Texts, and what stands under a name.
use Rattle.std.specs.Prelude.{ℕ, Bool, true, false, List, [], ◌∷◌, Option, Some, None}
use Rattle.std.specs.Str.{bytes_eq}

-- A text is its UTF-8 bytes.
abbrev pub Text : Type 0
Text = List ℕ

-- The first that stands under a name.
abbrev pub look : {A : Type 0} → Text → List (Text × A) → Option A
look name [] = None
look name (entry ∷ entries) = elim (bytes_eq name entry.0) [ true ↦ Some entry.1 | false ↦ look name entries ]

-- The same list with another value under a name, where one stands there.
abbrev pub put_at : {A : Type 0} → Text → A → List (Text × A) → List (Text × A)
put_at name value [] = []
put_at name value (entry ∷ entries) = elim (bytes_eq name entry.0) [ true ↦ (entry.0, value) ∷ entries | false ↦ entry ∷ put_at name value entries ]

-- The first element that passes a test.
abbrev pub first_that : {A : Type 0} → (A → Bool) → List A → Option A
first_that test [] = None
first_that test (a ∷ rest) = elim (test a) [ true ↦ Some a | false ↦ first_that test rest ]

-- The first element.
abbrev pub head_of : {A : Type 0} → List A → Option A
head_of [] = None
head_of (a ∷ rest) = Some a
