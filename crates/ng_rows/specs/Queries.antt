-- Queries.
use Rattle.std.specs.Prelude.{[], ◌∷◌, true, false, Some, None, codes}
use Rattle.ng_values.specs.declared.value.Value.TheVariants as val
use Rattle.ng_ast.specs.declared.App.{App}
use Rattle.ng_ast.specs.declared.Expr.TheVariants as expr
use Rattle.ng_ast.specs.declared.OutletForm.TheVariants as outlet
use Rattle.ng_ast.specs.declared.AttrForm.TheVariants as form
use Rattle.ng_ast.specs.declared.TNode.TheVariants as node
use Rattle.ng_ast.specs.declared.Aim.TheVariants as aim
use Rattle.ng_ast.specs.declared.MemberKind.TheVariants as kind
use Rattle.ng_ast.specs.declared.Decl.TheVariants as decl
use Rattle.ng_ast.specs.declared.QueryKind.TheVariants as query
use Rattle.ng_rows.specs.Build.{at, attribute, branch, one, selector, member, component}
use Rattle.ng_rows.specs.Counter.{counting}

-- queries of content, and of an outlet:
--     component C {
--       selector 'c-c';
--       field n = 0;
--       template `<b (click)="n = n + 1">{{ n }}</b>`;
--     }
--     component Q {
--       selector 'q-q';
--       contentchildren a = C;
--       contentchildren d = C descendants;
--       template `<ng-content></ng-content>`;
--     }
--     component R {
--       selector 'r-r';
--       field on = true;
--       viewchildren v = #z;
--       template `<q-q><ng-container><c-c></c-c></ng-container>@if (on) {<c-c></c-c>}<div><c-c></c-c></div></q-q><ng-template #t><i #z></i></ng-template><ng-container [ngTemplateOutlet]="t"></ng-container><b #z></b>`;
--     }
--     bootstrap R;
abbrev pub queried : App
queried = record {
  decls =
      decl.Component counting
      ∷ decl.Component
      (component (at 6 1 98) (codes "Q") (selector (one (Some (codes "q-q")) [] ∷ [])) false
      (member (at 8 3 132) (codes "a") (kind.Query query.ContentChildren (aim.Component (codes "C")) false)
      ∷ member (at 9 3 157) (codes "d") (kind.Query query.ContentChildren (aim.Component (codes "C")) true)
      ∷ [])
      (at 10 13 204) (node.Element (at 10 13 204) (codes "ng-content") [] [] ∷ []))
      ∷ decl.Component
      (component (at 12 1 234) (codes "R") (selector (one (Some (codes "r-r")) [] ∷ [])) false
      (member (at 14 3 268) (codes "on") (kind.Field (val.Bool true))
      ∷ member (at 15 3 287) (codes "v") (kind.Query query.ViewChildren (aim.Reference (codes "z")) false)
      ∷ [])
      (at 16 13 320)
      (node.Element (at 16 13 320) (codes "q-q") []
      (node.Element (at 16 18 325) (codes "ng-container") [] (node.Element (at 16 32 339) (codes "c-c") [] [] ∷ [])
      ∷ node.If (at 16 58 365)
      (branch (at 16 58 365) (Some (expr.Name (at 16 63 370) (codes "on"))) None
      (node.Element (at 16 68 375) (codes "c-c") [] [] ∷ [])
      ∷ [])
      ∷ node.Element (at 16 80 387) (codes "div") [] (node.Element (at 16 85 392) (codes "c-c") [] [] ∷ [])
      ∷ [])
      ∷ node.Element (at 16 108 415) (codes "ng-template") (attribute (at 16 121 428) (codes "t") form.Reference ∷ [])
      (node.Element (at 16 124 431) (codes "i") (attribute (at 16 127 434) (codes "z") form.Reference ∷ []) [] ∷ [])
      ∷ node.Element (at 16 148 455) (codes "ng-container")
      (attribute (at 16 162 469) (codes "ngTemplateOutlet") (form.Outlet (outlet.Name (at 16 182 489) (codes "t"))) ∷ [])
      []
      ∷ node.Element (at 16 200 507) (codes "b") (attribute (at 16 203 510) (codes "z") form.Reference ∷ []) []
      ∷ []))
      ∷ decl.Bootstrap (at 18 1 522) (codes "R") None
      ∷ [];
}
