-- Faults, events that reach nothing, and the order of a pass.
use Rattle.std.specs.Prelude.{[], ◌∷◌, pos, true, false, Some, None, codes}
use Rattle.ng_values.specs.declared.value.Value.TheVariants as val
use Rattle.ng_ast.specs.declared.App.{App}
use Rattle.ng_ast.specs.declared.AttrForm.TheVariants as form
use Rattle.ng_ast.specs.declared.Binary.TheVariants as binary
use Rattle.ng_ast.specs.declared.Decl.TheVariants as decl
use Rattle.ng_ast.specs.declared.Expr.TheVariants as expr
use Rattle.ng_ast.specs.declared.Flag.TheVariants as flag
use Rattle.ng_ast.specs.declared.MemberKind.TheVariants as kind
use Rattle.ng_ast.specs.declared.Piece.TheVariants as piece
use Rattle.ng_ast.specs.declared.Stmt.TheVariants as stmt
use Rattle.ng_ast.specs.declared.TNode.TheVariants as node
use Rattle.ng_rows.specs.Build.{at, attribute, branch, one, selector, member, component, service}

-- a quotient that a click makes impossible:
--     component R {
--       selector 'r-r';
--       field n = 1;
--       template `<i (click)="n = 0">{{ 1 / n }}</i>`;
--     }
--     bootstrap R;
abbrev pub zero_divisor : App
zero_divisor = record {
  decls =
      decl.Component
      (component (at 1 1 0) (codes "R") (selector (one (Some (codes "r-r")) [] ∷ [])) false
      (member (at 3 3 34) (codes "n") (kind.Field (val.Int (pos 1))) ∷ []) (at 4 13 59)
      (node.Element (at 4 13 59) (codes "i") (attribute (at 4 16 62) (codes "click") (form.Listener (stmt.Set (at 4 25 71) (codes "n") (expr.Literal (at 4 29 75) (val.Int (pos 0))) ∷ [])) ∷ []) (node.Text (at 4 32 78) (piece.Value (at 4 32 78) (expr.Binary (at 4 35 81) binary.Div (expr.Literal (at 4 35 81) (val.Int (pos 1))) (expr.Name (at 4 39 85) (codes "n"))) ∷ []) ∷ []) ∷ []))
      ∷ decl.Bootstrap (at 6 1 98) (codes "R") None
      ∷ [];
}

-- a sum that is too large:
--     component R {
--       selector 'r-r';
--       field n = 9223372036854775807;
--       field m = 0;
--       template `<button (click)="n = n + 1; m = 1">{{ m }}</button>`;
--     }
--     bootstrap R;
abbrev pub greatest_number : App
greatest_number = record {
  decls =
      decl.Component
      (component (at 1 1 0) (codes "R") (selector (one (Some (codes "r-r")) [] ∷ [])) false
      (member (at 3 3 34) (codes "n") (kind.Field (val.Int (pos 9223372036854775807))) ∷ member (at 4 3 67) (codes "m") (kind.Field (val.Int (pos 0))) ∷ []) (at 5 13 92)
      (node.Element (at 5 13 92) (codes "button") (attribute (at 5 21 100) (codes "click") (form.Listener (stmt.Set (at 5 30 109) (codes "n") (expr.Binary (at 5 34 113) binary.Add (expr.Name (at 5 34 113) (codes "n")) (expr.Literal (at 5 38 117) (val.Int (pos 1)))) ∷ stmt.Set (at 5 41 120) (codes "m") (expr.Literal (at 5 45 124) (val.Int (pos 1))) ∷ [])) ∷ []) (node.Text (at 5 48 127) (piece.Value (at 5 48 127) (expr.Name (at 5 51 130) (codes "m")) ∷ []) ∷ []) ∷ []))
      ∷ decl.Bootstrap (at 7 1 148) (codes "R") None
      ∷ [];
}

-- a service that nothing provides:
--     service S {
--     }
--     component R {
--       selector 'r-r';
--       inject s = S skipself;
--       template `x`;
--     }
--     bootstrap R;
abbrev pub missing_provider : App
missing_provider = record {
  decls =
      decl.Service (service (at 1 1 0) (codes "S") false [])
      ∷ decl.Component
      (component (at 3 1 14) (codes "R") (selector (one (Some (codes "r-r")) [] ∷ [])) false
      (member (at 5 3 48) (codes "s") (kind.Inject (codes "S") (flag.Skip ∷ [])) ∷ []) (at 6 13 83)
      (node.Text (at 6 13 83) (piece.Text (codes "x") ∷ []) ∷ []))
      ∷ decl.Bootstrap (at 8 1 89) (codes "R") None
      ∷ [];
}

-- a service that needs itself:
--     service S root { inject t = S; }
--     component R {
--       selector 'r-r';
--       inject s = S;
--       template `x`;
--     }
--     bootstrap R;
abbrev pub needs_itself : App
needs_itself = record {
  decls =
      decl.Service (service (at 1 1 0) (codes "S") true (member (at 1 18 17) (codes "t") (kind.Inject (codes "S") []) ∷ []))
      ∷ decl.Component
      (component (at 2 1 33) (codes "R") (selector (one (Some (codes "r-r")) [] ∷ [])) false
      (member (at 4 3 67) (codes "s") (kind.Inject (codes "S") []) ∷ []) (at 5 13 93)
      (node.Text (at 5 13 93) (piece.Text (codes "x") ∷ []) ∷ []))
      ∷ decl.Bootstrap (at 7 1 99) (codes "R") None
      ∷ [];
}

-- a component inside itself:
--     component A {
--       selector 'a-a';
--       template `<a-a></a-a>`;
--     }
--     bootstrap A;
abbrev pub inside_itself : App
inside_itself = record {
  decls =
      decl.Component
      (component (at 1 1 0) (codes "A") (selector (one (Some (codes "a-a")) [] ∷ [])) false
      [] (at 3 13 44)
      (node.Element (at 3 13 44) (codes "a-a") [] [] ∷ []))
      ∷ decl.Bootstrap (at 5 1 60) (codes "A") None
      ∷ [];
}

-- elements without listeners:
--     component R {
--       selector 'r-r';
--       template `<button>a</button><button>b</button><span>c</span>`;
--     }
--     bootstrap R;
abbrev pub unlistened : App
unlistened = record {
  decls =
      decl.Component
      (component (at 1 1 0) (codes "R") (selector (one (Some (codes "r-r")) [] ∷ [])) false
      [] (at 3 13 44)
      (node.Element (at 3 13 44) (codes "button") [] (node.Text (at 3 21 52) (piece.Text (codes "a") ∷ []) ∷ []) ∷ node.Element (at 3 31 62) (codes "button") [] (node.Text (at 3 39 70) (piece.Text (codes "b") ∷ []) ∷ []) ∷ node.Element (at 3 49 80) (codes "span") [] (node.Text (at 3 55 86) (piece.Text (codes "c") ∷ []) ∷ []) ∷ []))
      ∷ decl.Bootstrap (at 5 1 99) (codes "R") None
      ∷ [];
}

-- a method that calls itself:
--     component R {
--       selector 'r-r';
--       field n = 0;
--       method loop() { n = n + 1; loop(); }
--       template `<u (click)="loop()">{{ n }}</u>`;
--     }
--     bootstrap R;
abbrev pub endless_calls : App
endless_calls = record {
  decls =
      decl.Component
      (component (at 1 1 0) (codes "R") (selector (one (Some (codes "r-r")) [] ∷ [])) false
      (member (at 3 3 34) (codes "n") (kind.Field (val.Int (pos 0))) ∷ member (at 4 3 49) (codes "loop") (kind.Method [] (stmt.Set (at 4 19 65) (codes "n") (expr.Binary (at 4 23 69) binary.Add (expr.Name (at 4 23 69) (codes "n")) (expr.Literal (at 4 27 73) (val.Int (pos 1)))) ∷ stmt.Do (at 4 30 76) (codes "loop") [] ∷ [])) ∷ []) (at 5 13 98)
      (node.Element (at 5 13 98) (codes "u") (attribute (at 5 16 101) (codes "click") (form.Listener (stmt.Do (at 5 25 110) (codes "loop") [] ∷ [])) ∷ []) (node.Text (at 5 33 118) (piece.Value (at 5 33 118) (expr.Name (at 5 36 121) (codes "n")) ∷ []) ∷ []) ∷ []))
      ∷ decl.Bootstrap (at 7 1 134) (codes "R") None
      ∷ [];
}

-- content of a host, in a block and beside it:
--     component P {
--       selector 'p-p';
--       input v = 1;
--       template `<ng-content></ng-content>`;
--     }
--     component K {
--       selector 'k-k';
--       inject p = P;
--       template `{{ p.v }}`;
--     }
--     component R {
--       selector 'r-r';
--       template `<p-p v="2">@if (true) {<k-k></k-k>}<k-k></k-k></p-p>`;
--     }
--     bootstrap R;
abbrev pub early_content : App
early_content = record {
  decls =
      decl.Component
      (component (at 1 1 0) (codes "P") (selector (one (Some (codes "p-p")) [] ∷ [])) false
      (member (at 3 3 34) (codes "v") (kind.Input false (val.Int (pos 1))) ∷ []) (at 4 13 59)
      (node.Element (at 4 13 59) (codes "ng-content") [] [] ∷ []))
      ∷ decl.Component
      (component (at 6 1 89) (codes "K") (selector (one (Some (codes "k-k")) [] ∷ [])) false
      (member (at 8 3 123) (codes "p") (kind.Inject (codes "P") []) ∷ []) (at 9 13 149)
      (node.Text (at 9 13 149) (piece.Value (at 9 13 149) (expr.Member (at 9 16 152) (expr.Name (at 9 16 152) (codes "p")) (codes "v")) ∷ []) ∷ []))
      ∷ decl.Component
      (component (at 11 1 163) (codes "R") (selector (one (Some (codes "r-r")) [] ∷ [])) false
      [] (at 13 13 207)
      (node.Element (at 13 13 207) (codes "p-p") (attribute (at 13 18 212) (codes "v") (form.Static (codes "2")) ∷ []) (node.If (at 13 24 218) (branch (at 13 24 218) (Some (expr.Literal (at 13 29 223) (val.Bool true))) None (node.Element (at 13 36 230) (codes "k-k") [] [] ∷ []) ∷ []) ∷ node.Element (at 13 48 242) (codes "k-k") [] [] ∷ []) ∷ []))
      ∷ decl.Bootstrap (at 15 1 264) (codes "R") None
      ∷ [];
}
