-- Components that are `onpush`, and signals.
use Rattle.std.specs.Prelude.{[], ◌∷◌, pos, true, false, Some, None, codes}
use Rattle.ng_values.specs.declared.value.Value.TheVariants as val
use Rattle.ng_ast.specs.declared.App.{App}
use Rattle.ng_ast.specs.declared.Expr.TheVariants as expr
use Rattle.ng_ast.specs.declared.Stmt.TheVariants as stmt
use Rattle.ng_ast.specs.declared.Owner.TheVariants as owner
use Rattle.ng_ast.specs.declared.Piece.TheVariants as piece
use Rattle.ng_ast.specs.declared.AttrForm.TheVariants as form
use Rattle.ng_ast.specs.declared.TNode.TheVariants as node
use Rattle.ng_ast.specs.declared.MemberKind.TheVariants as kind
use Rattle.ng_ast.specs.declared.Decl.TheVariants as decl
use Rattle.ng_ast.specs.declared.Binary.TheVariants as binary
use Rattle.ng_rows.specs.Build.{at, attribute, one, selector, member, component, service}

-- a method called on a child that is `onpush`:
--     component K {
--       selector 'k-k';
--       onpush;
--       field n = 0;
--       method inc() { n = n + 1; }
--       template `{{ n }}`;
--     }
--     component R {
--       selector 'r-r';
--       template `<u (click)="k.inc()">x</u><k-k #k></k-k>`;
--     }
--     bootstrap R;
abbrev pub called_child : App
called_child = record {
  decls =
      decl.Component
      (component (at 1 1 0) (codes "K") (selector (one (Some (codes "k-k")) [] ∷ [])) true
      (member (at 4 3 44) (codes "n") (kind.Field (val.Int (pos 0)))
      ∷ member (at 5 3 59) (codes "inc")
      (kind.Method []
      (stmt.Set (at 5 18 74) (codes "n")
      (expr.Binary (at 5 22 78) binary.Add (expr.Name (at 5 22 78) (codes "n"))
      (expr.Literal (at 5 26 82) (val.Int (pos 1))))
      ∷ []))
      ∷ [])
      (at 6 13 99) (node.Text (at 6 13 99) (piece.Value (at 6 13 99) (expr.Name (at 6 16 102) (codes "n")) ∷ []) ∷ []))
      ∷ decl.Component
      (component (at 8 1 111) (codes "R") (selector (one (Some (codes "r-r")) [] ∷ [])) false [] (at 10 13 155)
      (node.Element (at 10 13 155) (codes "u")
      (attribute (at 10 16 158) (codes "click")
      (form.Listener (stmt.Send (at 10 25 167) (owner.Name (at 10 25 167) (codes "k")) (codes "inc") [] ∷ []))
      ∷ [])
      (node.Text (at 10 34 176) (piece.Text (codes "x") ∷ []) ∷ [])
      ∷ node.Element (at 10 39 181) (codes "k-k") (attribute (at 10 44 186) (codes "k") form.Reference ∷ []) []
      ∷ []))
      ∷ decl.Bootstrap (at 12 1 200) (codes "R") None
      ∷ [];
}

-- a signal that two components read:
--     service Store root { signal n = 0; method up() { n.set(n() + 1); } }
--     component A {
--       selector 'a-a';
--       onpush;
--       inject s = Store;
--       get g = s.n() + 1;
--       template `{{ g }}`;
--     }
--     component B {
--       selector 'b-b';
--       onpush;
--       inject s = Store;
--       template `{{ s.n() }}`;
--     }
--     component M {
--       selector 'm-m';
--       onpush;
--       template `<a-a></a-a>`;
--     }
--     component R {
--       selector 'r-r';
--       onpush;
--       template `<m-m></m-m><b-b></b-b>`;
--     }
--     bootstrap R;
abbrev pub shared_signal : App
shared_signal = record {
  decls =
      decl.Service
      (service (at 1 1 0) (codes "Store") true
      (member (at 1 22 21) (codes "n") (kind.Signal (val.Int (pos 0)))
      ∷ member (at 1 36 35) (codes "up")
      (kind.Method []
      (stmt.Send (at 1 50 49) (owner.Name (at 1 50 49) (codes "n")) (codes "set")
      (expr.Binary (at 1 56 55) binary.Add (expr.Call (at 1 56 55) (expr.Name (at 1 56 55) (codes "n")) [])
      (expr.Literal (at 1 62 61) (val.Int (pos 1)))
      ∷ [])
      ∷ []))
      ∷ []))
      ∷ decl.Component
      (component (at 2 1 69) (codes "A") (selector (one (Some (codes "a-a")) [] ∷ [])) true
      (member (at 5 3 113) (codes "s") (kind.Inject (codes "Store") [])
      ∷ member (at 6 3 133) (codes "g")
      (kind.Getter
      (expr.Binary (at 6 11 141) binary.Add
      (expr.Call (at 6 11 141) (expr.Member (at 6 11 141) (expr.Name (at 6 11 141) (codes "s")) (codes "n")) [])
      (expr.Literal (at 6 19 149) (val.Int (pos 1)))))
      ∷ [])
      (at 7 13 164) (node.Text (at 7 13 164) (piece.Value (at 7 13 164) (expr.Name (at 7 16 167) (codes "g")) ∷ []) ∷ []))
      ∷ decl.Component
      (component (at 9 1 176) (codes "B") (selector (one (Some (codes "b-b")) [] ∷ [])) true
      (member (at 12 3 220) (codes "s") (kind.Inject (codes "Store") []) ∷ []) (at 13 13 250)
      (node.Text (at 13 13 250)
      (piece.Value (at 13 13 250)
      (expr.Call (at 13 16 253) (expr.Member (at 13 16 253) (expr.Name (at 13 16 253) (codes "s")) (codes "n")) [])
      ∷ [])
      ∷ []))
      ∷ decl.Component
      (component (at 15 1 266) (codes "M") (selector (one (Some (codes "m-m")) [] ∷ [])) true [] (at 18 13 320)
      (node.Element (at 18 13 320) (codes "a-a") [] [] ∷ []))
      ∷ decl.Component
      (component (at 20 1 336) (codes "R") (selector (one (Some (codes "r-r")) [] ∷ [])) true [] (at 23 13 390)
      (node.Element (at 23 13 390) (codes "m-m") [] [] ∷ node.Element (at 23 24 401) (codes "b-b") [] [] ∷ []))
      ∷ decl.Bootstrap (at 25 1 417) (codes "R") None
      ∷ [];
}
