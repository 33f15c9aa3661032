-- Templates that outlets show.
use Rattle.std.specs.Prelude.{[], ◌∷◌, pos, false, Some, None, codes}
use Rattle.ng_values.specs.declared.value.Value.TheVariants as val
use Rattle.ng_ast.specs.declared.App.{App}
use Rattle.ng_ast.specs.declared.AttrForm.TheVariants as form
use Rattle.ng_ast.specs.declared.Decl.TheVariants as decl
use Rattle.ng_ast.specs.declared.Expr.TheVariants as expr
use Rattle.ng_ast.specs.declared.OutletForm.TheVariants as outlet
use Rattle.ng_ast.specs.declared.Piece.TheVariants as piece
use Rattle.ng_ast.specs.declared.TNode.TheVariants as node
use Rattle.ng_rows.specs.Build.{at, attribute, one, selector, component}

-- a template with two variables, shown with a context and without one:
--     component R {
--       selector 'r-r';
--       template `<ng-template #t let-x let-n="name">{{ x }}{{ n }}</ng-template><ng-container [ngTemplateOutlet]="t" [ngTemplateOutletContext]="{'$implicit': 7, name: 'a'}"><b></b></ng-container><ng-container [ngTemplateOutlet]="t"></ng-container>`;
--     }
--     bootstrap R;
abbrev pub contexts : App
contexts = record {
  decls =
      decl.Component
      (component (at 1 1 0) (codes "R") (selector (one (Some (codes "r-r")) [] ∷ [])) false
      [] (at 3 13 44)
      (node.Element (at 3 13 44) (codes "ng-template") (attribute (at 3 26 57) (codes "t") form.Reference ∷ attribute (at 3 29 60) (codes "x") (form.Variable None) ∷ attribute (at 3 35 66) (codes "n") (form.Variable (Some (codes "name"))) ∷ []) (node.Text (at 3 48 79) (piece.Value (at 3 48 79) (expr.Name (at 3 51 82) (codes "x")) ∷ piece.Value (at 3 55 86) (expr.Name (at 3 58 89) (codes "n")) ∷ []) ∷ []) ∷ node.Element (at 3 76 107) (codes "ng-container") (attribute (at 3 90 121) (codes "ngTemplateOutlet") (form.Outlet (outlet.Name (at 3 110 141) (codes "t"))) ∷ attribute (at 3 113 144) (codes "ngTemplateOutletContext") (form.Context (expr.Rec (at 3 140 171) ((codes "$implicit", expr.Literal (at 3 154 185) (val.Int (pos 7))) ∷ (codes "name", expr.Literal (at 3 163 194) (val.Text (codes "a"))) ∷ []))) ∷ []) (node.Element (at 3 169 200) (codes "b") [] [] ∷ []) ∷ node.Element (at 3 191 222) (codes "ng-container") (attribute (at 3 205 236) (codes "ngTemplateOutlet") (form.Outlet (outlet.Name (at 3 225 256) (codes "t"))) ∷ []) [] ∷ []))
      ∷ decl.Bootstrap (at 5 1 279) (codes "R") None
      ∷ [];
}
