-- One level of a statement that a constructor made.
use Rattle.std.specs.Prelude.{◌≡◌, ℕ, List}
use Rattle.std.proofs.Common.{ap, sym, ◌∙◌}
use Rattle.ng_ast.specs.declared.Place.{Place}
use Rattle.ng_ast.specs.declared.Expr.{Expr}
use Rattle.ng_ast.specs.declared.Owner.{Owner}
use Rattle.ng_ast.specs.declared.Stmt.{Stmt, out-Stmt}
use Rattle.ng_ast.specs.declared.Stmt.TheVariants as variant
use Rattle.ng_ast.specs.declared.Stmt.TheViews.{out-roll-Stmt}
use Rattle.ng_ast.specs.declared.Stmt.TheOpen.{Stmt-F}

pub out_Set : (p : Place) (name : List ℕ) (e : Expr) → out-Stmt (variant.Set p name e) ≡ Stmt-F.Set p name e
out_Set p name e = ap out-Stmt (sym (variant.rolls-Set p name e)) ∙ out-roll-Stmt (Stmt-F.Set p name e)

pub out_Do : (p : Place) (name : List ℕ) (args : List Expr) → out-Stmt (variant.Do p name args) ≡ Stmt-F.Do p name args
out_Do p name args = ap out-Stmt (sym (variant.rolls-Do p name args)) ∙ out-roll-Stmt (Stmt-F.Do p name args)

pub out_Send : (p : Place) (owner : Owner) (name : List ℕ) (args : List Expr) → out-Stmt (variant.Send p owner name args) ≡ Stmt-F.Send p owner name args
out_Send p owner name args = ap out-Stmt (sym (variant.rolls-Send p owner name args)) ∙ out-roll-Stmt (Stmt-F.Send p owner name args)

pub out_If : (p : Place) (test : Expr) (then : List Stmt) (other : List Stmt) → out-Stmt (variant.If p test then other) ≡ Stmt-F.If p test then other
out_If p test then other = ap out-Stmt (sym (variant.rolls-If p test then other)) ∙ out-roll-Stmt (Stmt-F.If p test then other)
