-- Texts, and what is looked up in lists.
use Rattle.std.specs.Prelude.{ℕ, Bool, true, false, List, [], ◌∷◌, ◌++◌, Option, Some, None, bytes_eq}
use Rattle.std.specs.List.{list_any}
use Rattle.std.specs.Map.{lookup}

-- a text is its UTF-8 bytes
abbrev pub Text : Type 0
Text = List ℕ

-- what stands first under a name
abbrev pub look : {A : Type 0} → Text → List (Text × A) → Option A
look name = lookup (bytes_eq name)

-- what stands first under a key changed, where anything does
abbrev pub change_at : {K A : Type 0} → (K → Bool) → (A → A) → List (K × A) → List (K × A)
change_at is f [] = []
change_at is f (q ∷ qs) = elim (is q.0) [ true ↦ (q.0, f q.1) ∷ qs | false ↦ q ∷ change_at is f qs ]

-- whether a text is among texts
abbrev pub has_text : Text → List Text → Bool
has_text t = list_any (bytes_eq t)

-- the texts, and then each further one that isn't among them yet
abbrev pub distinct_onto : List Text → List Text → List Text
distinct_onto seen [] = seen
distinct_onto seen (t ∷ ts) = elim (has_text t seen) [ true ↦ distinct_onto seen ts | false ↦ distinct_onto (seen ++ t ∷ []) ts ]

-- the texts without repeats, each where it stands first
abbrev pub distinct : List Text → List Text
distinct = distinct_onto []

-- the first item
abbrev pub first : {A : Type 0} → List A → Option A
first [] = None
first (a ∷ rest) = Some a

-- the last item
abbrev pub last : {A : Type 0} → List A → Option A
last [] = None
last (a ∷ []) = Some a
last (a ∷ b ∷ rest) = last (b ∷ rest)

-- whether there are any items
abbrev pub has_any : {A : Type 0} → List A → Bool
has_any [] = false
has_any (a ∷ rest) = true
