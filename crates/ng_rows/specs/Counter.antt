-- A counter.
use Rattle.std.specs.Prelude.{[], ◌∷◌, pos, false, Some, None, codes}
use Rattle.ng_values.specs.declared.value.Value.TheVariants as val
use Rattle.ng_ast.specs.declared.App.{App}
use Rattle.ng_ast.specs.declared.Component.{Component}
use Rattle.ng_ast.specs.declared.Expr.TheVariants as expr
use Rattle.ng_ast.specs.declared.Stmt.TheVariants as stmt
use Rattle.ng_ast.specs.declared.Piece.TheVariants as piece
use Rattle.ng_ast.specs.declared.AttrForm.TheVariants as form
use Rattle.ng_ast.specs.declared.TNode.TheVariants as node
use Rattle.ng_ast.specs.declared.MemberKind.TheVariants as kind
use Rattle.ng_ast.specs.declared.Decl.TheVariants as decl
use Rattle.ng_ast.specs.declared.Binary.TheVariants as binary
use Rattle.ng_rows.specs.Build.{at, attribute, one, selector, member, component}

-- a component that counts clicks, at the beginning of a file:
--     component C {
--       selector 'c-c';
--       field n = 0;
--       template `<b (click)="n = n + 1">{{ n }}</b>`;
--     }
abbrev pub counting : Component
counting =
    component (at 1 1 0) (codes "C") (selector (one (Some (codes "c-c")) [] ∷ [])) false
    (member (at 3 3 34) (codes "n") (kind.Field (val.Int (pos 0))) ∷ []) (at 4 13 59)
    (node.Element (at 4 13 59) (codes "b")
    (attribute (at 4 16 62) (codes "click")
    (form.Listener
    (stmt.Set (at 4 25 71) (codes "n")
    (expr.Binary (at 4 29 75) binary.Add (expr.Name (at 4 29 75) (codes "n"))
    (expr.Literal (at 4 33 79) (val.Int (pos 1))))
    ∷ []))
    ∷ [])
    (node.Text (at 4 36 82) (piece.Value (at 4 36 82) (expr.Name (at 4 39 85) (codes "n")) ∷ []) ∷ [])
    ∷ [])

-- a button that counts its clicks:
--     component Counter {
--       selector 'app-counter';
--       field n = 0;
--       template `<button (click)="n = n + 1">Clicked {{ n }}</button>`;
--     }
--     bootstrap Counter;
abbrev pub counter : App
counter = record {
  decls =
      decl.Component
      (component (at 1 1 0) (codes "Counter") (selector (one (Some (codes "app-counter")) [] ∷ [])) false
      (member (at 3 3 48) (codes "n") (kind.Field (val.Int (pos 0))) ∷ []) (at 4 13 73)
      (node.Element (at 4 13 73) (codes "button")
      (attribute (at 4 21 81) (codes "click")
      (form.Listener
      (stmt.Set (at 4 30 90) (codes "n")
      (expr.Binary (at 4 34 94) binary.Add (expr.Name (at 4 34 94) (codes "n"))
      (expr.Literal (at 4 38 98) (val.Int (pos 1))))
      ∷ []))
      ∷ [])
      (node.Text (at 4 41 101)
      (piece.Text (codes "Clicked ") ∷ piece.Value (at 4 49 109) (expr.Name (at 4 52 112) (codes "n")) ∷ [])
      ∷ [])
      ∷ []))
      ∷ decl.Bootstrap (at 6 1 130) (codes "Counter") None
      ∷ [];
}
