-- Bound attributes.
use Rattle.std.specs.Prelude.{[], ◌∷◌, pos, true, false, Some, None, codes}
use Rattle.ng_values.specs.declared.value.Value.TheVariants as val
use Rattle.ng_ast.specs.declared.App.{App}
use Rattle.ng_ast.specs.declared.Expr.TheVariants as expr
use Rattle.ng_ast.specs.declared.Stmt.TheVariants as stmt
use Rattle.ng_ast.specs.declared.Piece.TheVariants as piece
use Rattle.ng_ast.specs.declared.AttrForm.TheVariants as form
use Rattle.ng_ast.specs.declared.TNode.TheVariants as node
use Rattle.ng_ast.specs.declared.MemberKind.TheVariants as kind
use Rattle.ng_ast.specs.declared.Decl.TheVariants as decl
use Rattle.ng_ast.specs.declared.Unary.TheVariants as unary
use Rattle.ng_rows.specs.Build.{at, attribute, one, selector, member, component}

-- an address that is a script:
--     component R {
--       selector 'r-r';
--       field u = 'JaVaScript:x';
--       template `<a [href]="u" title="1 &lt; 2">&amp;</a>`;
--     }
--     bootstrap R;
abbrev pub address : App
address = record {
  decls =
      decl.Component
      (component (at 1 1 0) (codes "R") (selector (one (Some (codes "r-r")) [] ∷ [])) false
      (member (at 3 3 34) (codes "u") (kind.Field (val.Text (codes "JaVaScript:x"))) ∷ []) (at 4 13 72)
      (node.Element (at 4 13 72) (codes "a")
      (attribute (at 4 16 75) (codes "href") (form.Property (expr.Name (at 4 24 83) (codes "u")))
      ∷ attribute (at 4 27 86) (codes "title") (form.Static (codes "1 < 2"))
      ∷ [])
      (node.Text (at 4 44 103) (piece.Text (codes "&") ∷ []) ∷ [])
      ∷ []))
      ∷ decl.Bootstrap (at 6 1 117) (codes "R") None
      ∷ [];
}

-- classes, styles and properties:
--     component R {
--       selector 'r-r';
--       field v = null;
--       field d = false;
--       field w = 5;
--       template `<input [value]="v" [disabled]="d" class="a on" [class.on]="d" [style.width.px]="w">`;
--     }
--     bootstrap R;
abbrev pub classes : App
classes = record {
  decls =
      decl.Component
      (component (at 1 1 0) (codes "R") (selector (one (Some (codes "r-r")) [] ∷ [])) false
      (member (at 3 3 34) (codes "v") (kind.Field val.Null)
      ∷ member (at 4 3 52) (codes "d") (kind.Field (val.Bool false))
      ∷ member (at 5 3 71) (codes "w") (kind.Field (val.Int (pos 5)))
      ∷ [])
      (at 6 13 96)
      (node.Element (at 6 13 96) (codes "input")
      (attribute (at 6 20 103) (codes "value") (form.Property (expr.Name (at 6 29 112) (codes "v")))
      ∷ attribute (at 6 32 115) (codes "disabled") (form.Property (expr.Name (at 6 44 127) (codes "d")))
      ∷ attribute (at 6 47 130) (codes "class") (form.Static (codes "a on"))
      ∷ attribute (at 6 60 143) (codes "on") (form.Class (expr.Name (at 6 72 155) (codes "d")))
      ∷ attribute (at 6 75 158) (codes "width") (form.Style (Some (codes "px")) (expr.Name (at 6 93 176) (codes "w")))
      ∷ [])
      []
      ∷ []))
      ∷ decl.Bootstrap (at 8 1 184) (codes "R") None
      ∷ [];
}

-- a truth property:
--     component R {
--       selector 'r-r';
--       field d = true;
--       template `<b [hidden]="d" (click)="d = !d">x</b>`;
--     }
--     bootstrap R;
abbrev pub hidden : App
hidden = record {
  decls =
      decl.Component
      (component (at 1 1 0) (codes "R") (selector (one (Some (codes "r-r")) [] ∷ [])) false
      (member (at 3 3 34) (codes "d") (kind.Field (val.Bool true)) ∷ []) (at 4 13 62)
      (node.Element (at 4 13 62) (codes "b")
      (attribute (at 4 16 65) (codes "hidden") (form.Property (expr.Name (at 4 26 75) (codes "d")))
      ∷ attribute (at 4 29 78) (codes "click")
      (form.Listener
      (stmt.Set (at 4 38 87) (codes "d") (expr.Unary (at 4 42 91) unary.Not (expr.Name (at 4 43 92) (codes "d"))) ∷ []))
      ∷ [])
      (node.Text (at 4 46 95) (piece.Text (codes "x") ∷ []) ∷ [])
      ∷ []))
      ∷ decl.Bootstrap (at 6 1 105) (codes "R") None
      ∷ [];
}
