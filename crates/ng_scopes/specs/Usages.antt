-- The names that stand in a part, each with its meaning there.
use Rattle.std.specs.Prelude.{Bool, true, false, ◌&&◌, if◌then◌else◌, bytes_eq, codes, List, map, Option, Some}
use Rattle.ng_ast.specs.declared.Expr.{Expr}
use Rattle.ng_ast.specs.declared.Stmt.{Stmt}
use Rattle.ng_ast.specs.declared.OutletForm.{OutletForm}
use Rattle.ng_scopes.specs.declared.names.Meaning.{Meaning}
use Rattle.ng_scopes.specs.declared.names.Meaning.TheVariants as means
use Rattle.ng_scopes.specs.declared.usage.Part.{Part}
use Rattle.ng_scopes.specs.declared.usage.Part.TheVariants as part
use Rattle.ng_scopes.specs.declared.usage.Spot.{Spot}
use Rattle.ng_scopes.specs.declared.usage.Usage.{Usage}
use Rattle.ng_scopes.specs.Names.{Name, Scope}
use Rattle.ng_scopes.specs.Mentions.{Mention, mentions, stmt_mentions, outlet_mentions}

abbrev pub is_listener : Part → Bool
is_listener part.Listener = true
is_listener part.Binding = false
is_listener part.Getter = false
is_listener part.Method = false
is_listener part.Init = false
is_listener part.Pipe = false

-- the meaning of a name in a part: `$event` is the innermost name of a listener
abbrev pub meaning_at : Part → Scope → Name → Option Meaning
meaning_at p scope n = if is_listener p && bytes_eq n (codes "$event") then Some means.Parameter else scope n

abbrev pub use_of : Spot → Scope → Mention → Usage
use_of spot scope m = record { spot = spot; name = m.name; act = m.act; meaning = meaning_at spot.part scope m.name }

abbrev pub uses_of : Spot → Scope → List Mention → List Usage
uses_of spot scope = map (use_of spot scope)

-- the names in an expression of a part
unfoldable pub usages : Spot → Scope → Expr → List Usage
usages spot scope e = uses_of spot scope (mentions e)

-- the names in a statement of a part
unfoldable pub stmt_usages : Spot → Scope → Stmt → List Usage
stmt_usages spot scope s = uses_of spot scope (stmt_mentions s)

-- the names in an outlet
unfoldable pub outlet_usages : Spot → Scope → OutletForm → List Usage
outlet_usages spot scope o = uses_of spot scope (outlet_mentions o)
