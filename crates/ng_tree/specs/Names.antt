-- The names of tokens and environments, by their numbers.
use Rattle.std.specs.Prelude.{ℕ, Bool, if◌then◌else◌, List, [], ◌∷◌, ◌++◌, Option, Some, None, codes, bytes_eq}
use Rattle.std.specs.List.{filter_map, list_any}
use Rattle.ng_ast.specs.declared.App.{App}
use Rattle.ng_ast.specs.declared.Decl.{Decl}
use Rattle.ng_ast.specs.declared.Decl.TheVariants as decl

-- a service, a component or a token is a token
abbrev pub token_in : Decl → Option (List ℕ)
token_in (decl.Component c) = Some c.name
token_in (decl.Service s) = Some s.name
token_in (decl.Pipe p) = None
token_in (decl.Environment e) = None
token_in (decl.Token p n) = Some n
token_in (decl.Bootstrap p n e) = None

-- the tokens, numbered from 0 in the order of the file
abbrev pub tokens : App → List (List ℕ)
tokens app = filter_map token_in app.decls

-- the name of the environment that a declaration makes
abbrev pub environment_in : Decl → Option (List ℕ)
environment_in (decl.Component c) = None
environment_in (decl.Service s) = None
environment_in (decl.Pipe p) = None
environment_in (decl.Environment e) = Some e.name
environment_in (decl.Token p n) = None
environment_in (decl.Bootstrap p n e) = None

-- the environments that are declared, in the order of the file
abbrev pub declared_environments : App → List (List ℕ)
declared_environments app = filter_map environment_in app.decls

-- whether a name is `root`
abbrev pub is_root : List ℕ → Bool
is_root name = bytes_eq name (codes "root")

-- names, and then `root` where it isn't among them
abbrev pub with_root : List (List ℕ) → List (List ℕ)
with_root names = if list_any is_root names then names else names ++ codes "root" ∷ []

-- the environments, numbered from 0: those that are declared, and then `root` where it isn't declared
abbrev pub environments : App → List (List ℕ)
environments app = with_root (declared_environments app)
