-- Branches, rows and lists without rows.
use Rattle.std.specs.Prelude.{[], ◌∷◌, pos, true, false, Some, None, codes}
use Rattle.ng_values.specs.declared.value.Value.TheVariants as val
use Rattle.ng_values.specs.View.{plain}
use Rattle.ng_ast.specs.declared.App.{App}
use Rattle.ng_ast.specs.declared.Expr.TheVariants as expr
use Rattle.ng_ast.specs.declared.Stmt.TheVariants as stmt
use Rattle.ng_ast.specs.declared.Piece.TheVariants as piece
use Rattle.ng_ast.specs.declared.AttrForm.TheVariants as form
use Rattle.ng_ast.specs.declared.TNode.TheVariants as node
use Rattle.ng_ast.specs.declared.MemberKind.TheVariants as kind
use Rattle.ng_ast.specs.declared.Decl.TheVariants as decl
use Rattle.ng_ast.specs.declared.Unary.TheVariants as unary
use Rattle.ng_rows.specs.Build.{at, attribute, branch, for_head, one, selector, member, component}
use Rattle.ng_rows.specs.Counter.{counting}

-- a component in an `@if`:
--     component C {
--       selector 'c-c';
--       field n = 0;
--       template `<b (click)="n = n + 1">{{ n }}</b>`;
--     }
--     component R {
--       selector 'r-r';
--       field on = true;
--       template `<u (click)="on = !on">x</u>@if (on) {<c-c></c-c>}`;
--     }
--     bootstrap R;
abbrev pub toggle : App
toggle = record {
  decls =
      decl.Component counting
      ∷ decl.Component
      (component (at 6 1 98) (codes "R") (selector (one (Some (codes "r-r")) [] ∷ [])) false
      (member (at 8 3 132) (codes "on") (kind.Field (val.Bool true)) ∷ []) (at 9 13 161)
      (node.Element (at 9 13 161) (codes "u")
      (attribute (at 9 16 164) (codes "click")
      (form.Listener
      (stmt.Set (at 9 25 173) (codes "on") (expr.Unary (at 9 30 178) unary.Not (expr.Name (at 9 31 179) (codes "on")))
      ∷ []))
      ∷ [])
      (node.Text (at 9 35 183) (piece.Text (codes "x") ∷ []) ∷ [])
      ∷ node.If (at 9 40 188)
      (branch (at 9 40 188) (Some (expr.Name (at 9 45 193) (codes "on"))) None
      (node.Element (at 9 50 198) (codes "c-c") [] [] ∷ [])
      ∷ [])
      ∷ []))
      ∷ decl.Bootstrap (at 11 1 215) (codes "R") None
      ∷ [];
}

-- a component in each row of a `@for`:
--     component C {
--       selector 'c-c';
--       field n = 0;
--       template `<b (click)="n = n + 1">{{ n }}</b>`;
--     }
--     component R {
--       selector 'r-r';
--       field xs = ['a', 'a', 'b'];
--       template `<u (click)="xs = ['b', 'a']">x</u>@for (x of xs; track x) {<p>{{ $index }}{{ x }}<c-c></c-c></p>}`;
--     }
--     bootstrap R;
abbrev pub rows : App
rows = record {
  decls =
      decl.Component counting
      ∷ decl.Component
      (component (at 6 1 98) (codes "R") (selector (one (Some (codes "r-r")) [] ∷ [])) false
      (member (at 8 3 132) (codes "xs")
      (kind.Field (val.List (plain (val.Text (codes "a")) ∷ plain (val.Text (codes "a")) ∷ plain (val.Text (codes "b")) ∷ [])))
      ∷ [])
      (at 9 13 172)
      (node.Element (at 9 13 172) (codes "u")
      (attribute (at 9 16 175) (codes "click")
      (form.Listener
      (stmt.Set (at 9 25 184) (codes "xs")
      (expr.List (at 9 30 189)
      (expr.Literal (at 9 31 190) (val.Text (codes "b"))
      ∷ expr.Literal (at 9 36 195) (val.Text (codes "a"))
      ∷ []))
      ∷ []))
      ∷ [])
      (node.Text (at 9 42 201) (piece.Text (codes "x") ∷ []) ∷ [])
      ∷ node.For (at 9 47 206)
      (for_head (codes "x") (expr.Name (at 9 58 217) (codes "xs")) (Some (expr.Name (at 9 68 227) (codes "x"))) [])
      (node.Element (at 9 72 231) (codes "p") []
      (node.Text (at 9 75 234)
      (piece.Value (at 9 75 234) (expr.Name (at 9 78 237) (codes "$index"))
      ∷ piece.Value (at 9 87 246) (expr.Name (at 9 90 249) (codes "x"))
      ∷ [])
      ∷ node.Element (at 9 94 253) (codes "c-c") [] []
      ∷ [])
      ∷ [])
      None
      ∷ []))
      ∷ decl.Bootstrap (at 11 1 274) (codes "R") None
      ∷ [];
}

-- a component in an `@empty`:
--     component C {
--       selector 'c-c';
--       field n = 0;
--       template `<b (click)="n = n + 1">{{ n }}</b>`;
--     }
--     component R {
--       selector 'r-r';
--       field xs = null;
--       template `<u (click)="xs = []">a</u><u (click)="xs = [7]">b</u>@for (x of xs; track x) {<i>{{ x }}</i>} @empty {<c-c></c-c>}`;
--     }
--     bootstrap R;
abbrev pub emptied : App
emptied = record {
  decls =
      decl.Component counting
      ∷ decl.Component
      (component (at 6 1 98) (codes "R") (selector (one (Some (codes "r-r")) [] ∷ [])) false
      (member (at 8 3 132) (codes "xs") (kind.Field val.Null) ∷ []) (at 9 13 161)
      (node.Element (at 9 13 161) (codes "u")
      (attribute (at 9 16 164) (codes "click")
      (form.Listener (stmt.Set (at 9 25 173) (codes "xs") (expr.List (at 9 30 178) []) ∷ []))
      ∷ [])
      (node.Text (at 9 34 182) (piece.Text (codes "a") ∷ []) ∷ [])
      ∷ node.Element (at 9 39 187) (codes "u")
      (attribute (at 9 42 190) (codes "click")
      (form.Listener
      (stmt.Set (at 9 51 199) (codes "xs")
      (expr.List (at 9 56 204) (expr.Literal (at 9 57 205) (val.Int (pos 7)) ∷ []))
      ∷ []))
      ∷ [])
      (node.Text (at 9 61 209) (piece.Text (codes "b") ∷ []) ∷ [])
      ∷ node.For (at 9 66 214)
      (for_head (codes "x") (expr.Name (at 9 77 225) (codes "xs")) (Some (expr.Name (at 9 87 235) (codes "x"))) [])
      (node.Element (at 9 91 239) (codes "i") []
      (node.Text (at 9 94 242) (piece.Value (at 9 94 242) (expr.Name (at 9 97 245) (codes "x")) ∷ []) ∷ [])
      ∷ [])
      (Some (branch (at 9 107 255) None None (node.Element (at 9 115 263) (codes "c-c") [] [] ∷ [])))
      ∷ []))
      ∷ decl.Bootstrap (at 11 1 280) (codes "R") None
      ∷ [];
}
