-- Names, and what a list of them makes known.
use Rattle.std.specs.Prelude.{◌≡◌, ℕ, ◌+◌, Bool, true, false, ◌&&◌, nat_le, if◌then◌else◌, bytes_eq, List, [], ◌∷◌, Option, Some, None}
use Rattle.std.specs.HashMap.{HashMap, get}
use Rattle.ng_ast.specs.declared.Place.{Place}
use Rattle.ng_scopes.specs.declared.names.Meaning.{Meaning}
use Rattle.ng_scopes.specs.declared.names.Meaning.TheVariants as means
use Rattle.ng_scopes.specs.declared.names.Known.{Known}
use Rattle.ng_scopes.specs.declared.scope.Entry.{Entry}

-- a name, as its bytes
abbrev pub Name : Type 0
Name = List ℕ

-- what each name means, if it means something
abbrev pub Scope : Type 0
Scope = Name → Option Meaning

-- where nothing is known
abbrev pub nothing : Scope
nothing n = None

-- whether a meaning is an `@let`
abbrev pub is_let : Meaning → Bool
is_let means.Let = true
is_let means.Parameter = false
is_let means.Variable = false
is_let means.Ahead = false
is_let means.Reference = false
is_let means.Template = false
is_let (means.Member sort at) = false

-- 1 for an `@let`, 0 for all else
abbrev pub let_count : Meaning → ℕ
let_count m = if is_let m then 1 else 0

-- how many `@let`s are in a list
abbrev pub lets_of : List Known → ℕ
lets_of [] = 0
lets_of (k ∷ ks) = let_count k.meaning + lets_of ks

-- the first of the two that is there
abbrev pub first_some : {A : Type 0} → Option A → Option A → Option A
first_some (Some a) other = Some a
first_some None other = other

-- this name alone
abbrev pub only : Known → ℕ → Name → Option Entry
only k before n = if bytes_eq n k.name then Some (record { meaning = k.meaning; before = before }) else None

-- the first of a name in a list, and how many `@let`s stand before it in the list, after so many before the list
abbrev pub first_in : ℕ → List Known → Name → Option Entry
first_in before [] n = None
first_in before (k ∷ ks) n = first_some (only k before n) (first_in (before + let_count k.meaning) ks n)

-- the meaning of a name where so many `@let`s of its view stand before
abbrev pub seen : ℕ → Entry → Meaning
seen passed e = if is_let e.meaning && nat_le passed e.before then means.Ahead else e.meaning

abbrev pub seen_entry : ℕ → Option Entry → Option Meaning
seen_entry passed None = None
seen_entry passed (Some e) = Some (seen passed e)

-- What names mean inside a view with these names, where so many of its `@let`s stand before. The first of the view is meant.
abbrev pub inside : List Known → ℕ → Scope → Scope
inside names passed outer n = first_some (seen_entry passed (first_in 0 names n)) (outer n)

-- a variable of a head, if it has one
abbrev pub variable : Place → Option Name → List Known
variable p None = []
variable p (Some n) = record { place = p; name = n; meaning = means.Variable } ∷ []

-- a map that has the first of each name
abbrev pub IsTable : {S : Type 0} → HashMap Name Entry S → List Known → Type 0
IsTable table names = (n : Name) → get bytes_eq table n ≡ first_in 0 names n
