-- The methods of a component as a graph, whose nodes are its members by their positions.
use Rattle.std.specs.Prelude.{ℕ, ◌+◌, Bool, ◌&&◌, List, [], ◌∷◌, ◌++◌, map}
use Rattle.ng_graph.specs.Walk.{Graph}
use Rattle.ng_ast.specs.declared.Member.{Member}
use Rattle.ng_scopes.specs.Names.{Scope}
use Rattle.ng_scopes.specs.Declarations.{member_usages}
use Rattle.ng_hosts.specs.Hosts.{Name, when_at}
use Rattle.ng_quiet.specs.Quiet.{own_calls, assigns_itself, is_method}

-- an edge leads from a member to each own method that its statements call
abbrev pub call_graph : Scope → List Member → Graph
call_graph scope = map (λ m. own_calls (member_usages scope m))

-- whether the statements of each member assign a field themselves
abbrev pub assigning : Scope → List Member → List Bool
assigning scope = map (λ m. assigns_itself (member_usages scope m))

-- the positions of the methods whose names are called, of members of which the first is at this position
abbrev pub called_methods : (Name → Bool) → ℕ → List Member → List ℕ
called_methods called at [] = []
called_methods called at (m ∷ ms) = when_at (is_method m && called m.name) at ++ called_methods called (at + 1) ms
