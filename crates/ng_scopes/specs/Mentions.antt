-- The names that stand in an expression or a statement, in the order of the text, and what is done with each.
use Rattle.std.specs.Prelude.{ℕ, ◌==◌, if◌then◌else◌, true, false, List, [], ◌∷◌, ◌++◌, length, Option, Some, None}
use Rattle.std.specs.List.{flat_map}
use Rattle.ng_ast.specs.declared.Expr.{Expr, fold-Expr}
use Rattle.ng_ast.specs.declared.Expr.TheOpen.{Expr-F}
use Rattle.ng_ast.specs.declared.Owner.{Owner}
use Rattle.ng_ast.specs.declared.Owner.TheVariants as owner
use Rattle.ng_ast.specs.declared.Stmt.{Stmt, fold-Stmt}
use Rattle.ng_ast.specs.declared.Stmt.TheOpen.{Stmt-F}
use Rattle.ng_ast.specs.declared.OutletForm.{OutletForm, fold-OutletForm}
use Rattle.ng_ast.specs.declared.OutletForm.TheOpen.{OutletForm-F}
use Rattle.ng_scopes.specs.declared.usage.Act.{Act}
use Rattle.ng_scopes.specs.declared.usage.Act.TheVariants as act
use Rattle.ng_scopes.specs.Names.{Name}

-- A name, and what is done with it.
pub record Mention : Type 0 where
  pub name : Name
  pub act : Act

abbrev pub one : Name → Act → List Mention
one n a = record { name = n; act = a } ∷ []

-- What an expression says: the names in it; its name, where it is a name alone; x, where it is `x.s`.
pub record Told : Type 0 where
  pub mentions : List Mention
  pub name : Option Name
  pub owner : Option Name

-- an expression that is no name and no member
abbrev pub other : List Mention → Told
other ms = record { mentions = ms; name = None; owner = None }

-- What a call says of its callee: a name is called, and x of `x.s()` is asked.
abbrev pub callee : Option Name → Option Name → ℕ → List Mention → List Mention
callee (Some f) x n ms = one f (act.Called n)
callee None (Some x) n ms = if n == 0 then one x act.Asked else ms
callee None None n ms = ms

abbrev pub all_mentions : List Told → List Mention
all_mentions = flat_map (λ t. t.mentions)

abbrev pub told_step : Expr-F Told → Told
told_step (Expr-F.Literal p v) = other []
told_step (Expr-F.Name p n) = record { mentions = one n act.Read; name = Some n; owner = None }
told_step (Expr-F.Group p a) = other a.mentions
told_step (Expr-F.List p items) = other (all_mentions items)
told_step (Expr-F.Rec p pairs) = other (flat_map (λ q. q.1.mentions) pairs)
told_step (Expr-F.Unary p op a) = other a.mentions
told_step (Expr-F.Binary p op a b) = other (a.mentions ++ b.mentions)
told_step (Expr-F.Choose p test a b) = other (test.mentions ++ (a.mentions ++ b.mentions))
told_step (Expr-F.Member p a s) = record { mentions = a.mentions; name = None; owner = a.name }
told_step (Expr-F.Safe p a s) = other a.mentions
told_step (Expr-F.Index p a b) = other (a.mentions ++ b.mentions)
told_step (Expr-F.Call p f args) = other (callee f.name f.owner (length args) f.mentions ++ all_mentions args)
told_step (Expr-F.Pipe p a n args) = other (a.mentions ++ (one n (act.Piped (length args)) ++ all_mentions args))

abbrev pub told : Expr → Told
told = fold-Expr Told told_step

-- the names in an expression
unfoldable pub mentions : Expr → List Mention
mentions e = (told e).mentions

-- the name that an expression is
unfoldable pub name_of : Expr → Option Name
name_of e = (told e).name

-- x of `x.s`
unfoldable pub owner_of : Expr → Option Name
owner_of e = (told e).owner

-- the owner of a method that a statement calls with so many arguments
abbrev pub owner_mentions : Name → ℕ → Owner → List Mention
owner_mentions m n (owner.Name p x) = one x (act.Sent true m n)
owner_mentions m n (owner.Safe p x) = one x (act.Sent false m n)
owner_mentions m n (owner.Item p x e) = one x (act.Sent false m n) ++ mentions e

abbrev pub stmt_step : Stmt-F (List Mention) → List Mention
stmt_step (Stmt-F.Set p n e) = one n act.Set ++ mentions e
stmt_step (Stmt-F.Do p n args) = one n (act.Done (length args)) ++ flat_map mentions args
stmt_step (Stmt-F.Send p o m args) = owner_mentions m (length args) o ++ flat_map mentions args
stmt_step (Stmt-F.If p test chosen others) = mentions test ++ (flat_map (λ ms. ms) chosen ++ flat_map (λ ms. ms) others)

-- the names in a statement
unfoldable pub stmt_mentions : Stmt → List Mention
stmt_mentions = fold-Stmt (List Mention) stmt_step

abbrev pub outlet_step : OutletForm-F (List Mention) → List Mention
outlet_step OutletForm-F.Null = []
outlet_step (OutletForm-F.Name p n) = one n act.Outlet
outlet_step (OutletForm-F.Choose p test a b) = mentions test ++ (a ++ b)

-- the names in an outlet
unfoldable pub outlet_mentions : OutletForm → List Mention
outlet_mentions = fold-OutletForm (List Mention) outlet_step
