-- One level of an expression that a constructor made.
use Rattle.std.specs.Prelude.{◌≡◌, ℕ, List}
use Rattle.std.proofs.Common.{ap, sym, ◌∙◌}
use Rattle.ng_values.specs.declared.value.Value.{Value}
use Rattle.ng_ast.specs.declared.Place.{Place}
use Rattle.ng_ast.specs.declared.Unary.{Unary}
use Rattle.ng_ast.specs.declared.Binary.{Binary}
use Rattle.ng_ast.specs.declared.Expr.{Expr, out-Expr}
use Rattle.ng_ast.specs.declared.Expr.TheVariants as variant
use Rattle.ng_ast.specs.declared.Expr.TheViews.{out-roll-Expr}
use Rattle.ng_ast.specs.declared.Expr.TheOpen.{Expr-F}

pub out_Literal : (p : Place) (v : Value) → out-Expr (variant.Literal p v) ≡ Expr-F.Literal p v
out_Literal p v = ap out-Expr (sym (variant.rolls-Literal p v)) ∙ out-roll-Expr (Expr-F.Literal p v)

pub out_Name : (p : Place) (name : List ℕ) → out-Expr (variant.Name p name) ≡ Expr-F.Name p name
out_Name p name = ap out-Expr (sym (variant.rolls-Name p name)) ∙ out-roll-Expr (Expr-F.Name p name)

pub out_Group : (p : Place) (a : Expr) → out-Expr (variant.Group p a) ≡ Expr-F.Group p a
out_Group p a = ap out-Expr (sym (variant.rolls-Group p a)) ∙ out-roll-Expr (Expr-F.Group p a)

pub out_List : (p : Place) (items : List Expr) → out-Expr (variant.List p items) ≡ Expr-F.List p items
out_List p items = ap out-Expr (sym (variant.rolls-List p items)) ∙ out-roll-Expr (Expr-F.List p items)

pub out_Rec : (p : Place) (pairs : List (List ℕ × Expr)) → out-Expr (variant.Rec p pairs) ≡ Expr-F.Rec p pairs
out_Rec p pairs = ap out-Expr (sym (variant.rolls-Rec p pairs)) ∙ out-roll-Expr (Expr-F.Rec p pairs)

pub out_Unary : (p : Place) (op : Unary) (a : Expr) → out-Expr (variant.Unary p op a) ≡ Expr-F.Unary p op a
out_Unary p op a = ap out-Expr (sym (variant.rolls-Unary p op a)) ∙ out-roll-Expr (Expr-F.Unary p op a)

pub out_Binary : (p : Place) (op : Binary) (a : Expr) (b : Expr) → out-Expr (variant.Binary p op a b) ≡ Expr-F.Binary p op a b
out_Binary p op a b = ap out-Expr (sym (variant.rolls-Binary p op a b)) ∙ out-roll-Expr (Expr-F.Binary p op a b)

pub out_Choose : (p : Place) (test : Expr) (a : Expr) (b : Expr) → out-Expr (variant.Choose p test a b) ≡ Expr-F.Choose p test a b
out_Choose p test a b = ap out-Expr (sym (variant.rolls-Choose p test a b)) ∙ out-roll-Expr (Expr-F.Choose p test a b)

pub out_Member : (p : Place) (a : Expr) (name : List ℕ) → out-Expr (variant.Member p a name) ≡ Expr-F.Member p a name
out_Member p a name = ap out-Expr (sym (variant.rolls-Member p a name)) ∙ out-roll-Expr (Expr-F.Member p a name)

pub out_Safe : (p : Place) (a : Expr) (name : List ℕ) → out-Expr (variant.Safe p a name) ≡ Expr-F.Safe p a name
out_Safe p a name = ap out-Expr (sym (variant.rolls-Safe p a name)) ∙ out-roll-Expr (Expr-F.Safe p a name)

pub out_Index : (p : Place) (a : Expr) (b : Expr) → out-Expr (variant.Index p a b) ≡ Expr-F.Index p a b
out_Index p a b = ap out-Expr (sym (variant.rolls-Index p a b)) ∙ out-roll-Expr (Expr-F.Index p a b)

pub out_Call : (p : Place) (a : Expr) (args : List Expr) → out-Expr (variant.Call p a args) ≡ Expr-F.Call p a args
out_Call p a args = ap out-Expr (sym (variant.rolls-Call p a args)) ∙ out-roll-Expr (Expr-F.Call p a args)

pub out_Pipe : (p : Place) (a : Expr) (name : List ℕ) (args : List Expr) → out-Expr (variant.Pipe p a name args) ≡ Expr-F.Pipe p a name args
out_Pipe p a name args = ap out-Expr (sym (variant.rolls-Pipe p a name args)) ∙ out-roll-Expr (Expr-F.Pipe p a name args)
