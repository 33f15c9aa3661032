-- What the code's scopes stand for.
use Rattle.std.specs.Prelude.{ℕ, bytes_eq, None}
use Rattle.std.specs.HashMap.{HashMap, get}
use Rattle.std.specs.declared.hash.FoldHasher.{FoldHasher}
use Rattle.std.specs.declared.hash.BuildHasherDefault.{BuildHasherDefault}
use Rattle.ng_scopes.specs.declared.scope.Entry.{Entry}
use Rattle.ng_scopes.specs.declared.scope.View.{View}
use Rattle.ng_scopes.specs.declared.scope.Scope as code
use Rattle.ng_scopes.specs.declared.scope.Scope.TheOpen.{Scope-F}
use Rattle.ng_scopes.specs.Names.{Name, Scope, first_some, seen_entry}

abbrev pub scope_step : Scope-F Scope → Scope
scope_step Scope-F.Outside n = None
scope_step (Scope-F.View table passed outer) n = first_some (seen_entry passed (get bytes_eq table.now n)) (outer.now n)

-- what names mean where this scope is that of the code
unfoldable pub meaning_of : code.Scope → Scope
meaning_of = code.fold-Scope Scope scope_step

-- what names mean inside the view of a table, where so many of its `@let`s have passed
abbrev pub kept_in : HashMap Name Entry (BuildHasherDefault FoldHasher) → Scope → ℕ → Scope
kept_in table outer passed n = first_some (seen_entry passed (get bytes_eq table n)) (outer n)

abbrev pub names_at : View → ℕ → Scope
names_at v = kept_in v.table.now (meaning_of v.outer.now)
