-- Content handed to components.
use Rattle.std.specs.Prelude.{[], ◌∷◌, true, false, Some, None, codes}
use Rattle.ng_values.specs.declared.value.Value.TheVariants as val
use Rattle.ng_ast.specs.declared.App.{App}
use Rattle.ng_ast.specs.declared.Expr.TheVariants as expr
use Rattle.ng_ast.specs.declared.Stmt.TheVariants as stmt
use Rattle.ng_ast.specs.declared.Piece.TheVariants as piece
use Rattle.ng_ast.specs.declared.AttrForm.TheVariants as form
use Rattle.ng_ast.specs.declared.TNode.TheVariants as node
use Rattle.ng_ast.specs.declared.MemberKind.TheVariants as kind
use Rattle.ng_ast.specs.declared.Decl.TheVariants as decl
use Rattle.ng_ast.specs.declared.Unary.TheVariants as unary
use Rattle.ng_rows.specs.Build.{at, attribute, branch, one, selector, member, component}
use Rattle.ng_rows.specs.Counter.{counting}

-- a block handed to a component that is `onpush`:
--     component P {
--       selector 'p-p';
--       onpush;
--       template `<div><ng-content></ng-content></div>`;
--     }
--     component R {
--       selector 'r-r';
--       field on = false;
--       template `<u (click)="on = !on">x</u><p-p>@if (on) {<i>in</i>}</p-p>`;
--     }
--     bootstrap R;
abbrev pub handed_block : App
handed_block = record {
  decls =
      decl.Component
      (component (at 1 1 0) (codes "P") (selector (one (Some (codes "p-p")) [] ∷ [])) true [] (at 4 13 54)
      (node.Element (at 4 13 54) (codes "div") [] (node.Element (at 4 18 59) (codes "ng-content") [] [] ∷ []) ∷ []))
      ∷ decl.Component
      (component (at 6 1 95) (codes "R") (selector (one (Some (codes "r-r")) [] ∷ [])) false
      (member (at 8 3 129) (codes "on") (kind.Field (val.Bool false)) ∷ []) (at 9 13 159)
      (node.Element (at 9 13 159) (codes "u")
      (attribute (at 9 16 162) (codes "click")
      (form.Listener
      (stmt.Set (at 9 25 171) (codes "on") (expr.Unary (at 9 30 176) unary.Not (expr.Name (at 9 31 177) (codes "on")))
      ∷ []))
      ∷ [])
      (node.Text (at 9 35 181) (piece.Text (codes "x") ∷ []) ∷ [])
      ∷ node.Element (at 9 40 186) (codes "p-p") []
      (node.If (at 9 45 191)
      (branch (at 9 45 191) (Some (expr.Name (at 9 50 196) (codes "on"))) None
      (node.Element (at 9 55 201) (codes "i") [] (node.Text (at 9 58 204) (piece.Text (codes "in") ∷ []) ∷ []) ∷ [])
      ∷ [])
      ∷ [])
      ∷ []))
      ∷ decl.Bootstrap (at 11 1 222) (codes "R") None
      ∷ [];
}

-- a component handed to a slot that may be hidden:
--     component C {
--       selector 'c-c';
--       field n = 0;
--       template `<b (click)="n = n + 1">{{ n }}</b>`;
--     }
--     component X {
--       selector 'x-x';
--       field on = true;
--       template `<u (click)="on = !on">t</u>@if (on) {<ng-content></ng-content>}`;
--     }
--     component R {
--       selector 'r-r';
--       template `<x-x><c-c></c-c></x-x>`;
--     }
--     bootstrap R;
abbrev pub hidden_content : App
hidden_content = record {
  decls =
      decl.Component counting
      ∷ decl.Component
      (component (at 6 1 98) (codes "X") (selector (one (Some (codes "x-x")) [] ∷ [])) false
      (member (at 8 3 132) (codes "on") (kind.Field (val.Bool true)) ∷ []) (at 9 13 161)
      (node.Element (at 9 13 161) (codes "u")
      (attribute (at 9 16 164) (codes "click")
      (form.Listener
      (stmt.Set (at 9 25 173) (codes "on") (expr.Unary (at 9 30 178) unary.Not (expr.Name (at 9 31 179) (codes "on")))
      ∷ []))
      ∷ [])
      (node.Text (at 9 35 183) (piece.Text (codes "t") ∷ []) ∷ [])
      ∷ node.If (at 9 40 188)
      (branch (at 9 40 188) (Some (expr.Name (at 9 45 193) (codes "on"))) None
      (node.Element (at 9 50 198) (codes "ng-content") [] [] ∷ [])
      ∷ [])
      ∷ []))
      ∷ decl.Component
      (component (at 11 1 229) (codes "R") (selector (one (Some (codes "r-r")) [] ∷ [])) false [] (at 13 13 273)
      (node.Element (at 13 13 273) (codes "x-x") [] (node.Element (at 13 18 278) (codes "c-c") [] [] ∷ []) ∷ []))
      ∷ decl.Bootstrap (at 15 1 300) (codes "R") None
      ∷ [];
}

-- content for two slots, and none:
--     component P {
--       selector 'p-p';
--       template `<h1><ng-content select=".t"></ng-content></h1><ng-content>none</ng-content>`;
--     }
--     component R {
--       selector 'r-r';
--       template `<p-p><i class="t">a</i>b</p-p><p-p></p-p>`;
--     }
--     bootstrap R;
abbrev pub slots : App
slots = record {
  decls =
      decl.Component
      (component (at 1 1 0) (codes "P") (selector (one (Some (codes "p-p")) [] ∷ [])) false [] (at 3 13 44)
      (node.Element (at 3 13 44) (codes "h1") []
      (node.Element (at 3 17 48) (codes "ng-content") (attribute (at 3 29 60) (codes "select") (form.Static (codes ".t")) ∷ []) []
      ∷ [])
      ∷ node.Element (at 3 59 90) (codes "ng-content") [] (node.Text (at 3 71 102) (piece.Text (codes "none") ∷ []) ∷ [])
      ∷ []))
      ∷ decl.Component
      (component (at 5 1 124) (codes "R") (selector (one (Some (codes "r-r")) [] ∷ [])) false [] (at 7 13 168)
      (node.Element (at 7 13 168) (codes "p-p") []
      (node.Element (at 7 18 173) (codes "i") (attribute (at 7 21 176) (codes "class") (form.Static (codes "t")) ∷ [])
      (node.Text (at 7 31 186) (piece.Text (codes "a") ∷ []) ∷ [])
      ∷ node.Text (at 7 36 191) (piece.Text (codes "b") ∷ [])
      ∷ [])
      ∷ node.Element (at 7 43 198) (codes "p-p") [] []
      ∷ []))
      ∷ decl.Bootstrap (at 9 1 214) (codes "R") None
      ∷ [];
}
