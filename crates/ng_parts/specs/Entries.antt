-- The names that an application declares. Components, services, pipes, environments and tokens share one space of names, and the
-- first of a name is meant.
use Rattle.std.specs.Prelude.{◌≡◌, ℕ, ◌+◌, if◌then◌else◌, bytes_eq, List, [], ◌∷◌, ◌++◌, length, Option, Some, None}
use Rattle.std.specs.HashMap.{HashMap, get}
use Rattle.ng_ast.specs.declared.Place.{Place}
use Rattle.ng_ast.specs.declared.Decl.{Decl}
use Rattle.ng_ast.specs.declared.Decl.TheVariants as decl
use Rattle.ng_parts.specs.declared.declared.Kind.{Kind}
use Rattle.ng_parts.specs.declared.declared.Kind.TheVariants as kind
use Rattle.ng_parts.specs.declared.declared.Declared.{Declared}
use Rattle.ng_parts.specs.Sites.{Name}

-- A declared name with what it names.
pub record Entry : Type 0 where
  pub place : Place
  pub name : Name
  pub declared : Declared

abbrev pub entry : Place → Name → Kind → ℕ → List Entry
entry p n k at = record { place = p; name = n; declared = record { kind = k; at = at } } ∷ []

-- The name of the declaration at this position. A `bootstrap` declares none.
abbrev pub decl_entry : ℕ → Decl → List Entry
decl_entry at (decl.Component c) = entry c.place c.name kind.Component at
decl_entry at (decl.Service s) = entry s.place s.name kind.Service at
decl_entry at (decl.Pipe p) = entry p.place p.name (kind.Pipe (length p.params)) at
decl_entry at (decl.Environment e) = entry e.place e.name kind.Environment at
decl_entry at (decl.Token p n) = entry p n kind.Token at
decl_entry at (decl.Bootstrap p n env) = []

-- the names of declarations, the first of which is at this position
abbrev pub entries_from : ℕ → List Decl → List Entry
entries_from at [] = []
entries_from at (d ∷ ds) = decl_entry at d ++ entries_from (at + 1) ds

-- the declared names
abbrev pub entries : List Decl → List Entry
entries = entries_from 0

-- the first of the two that is there
abbrev pub first_some : {A : Type 0} → Option A → Option A → Option A
first_some (Some a) other = Some a
first_some None other = other

-- this name alone
abbrev pub only : Name → Declared → Name → Option Declared
only m d n = if bytes_eq n m then Some d else None

-- what a name names
abbrev pub named_in : List Entry → Name → Option Declared
named_in [] n = None
named_in (e ∷ es) n = first_some (only e.name e.declared n) (named_in es n)

abbrev pub named : List Decl → Name → Option Declared
named ds = named_in (entries ds)

-- a map of the declared names
abbrev pub IsIndex : {S : Type 0} → HashMap Name Declared S → List Decl → Type 0
IsIndex index ds = (n : Name) → get bytes_eq index n ≡ named ds n
