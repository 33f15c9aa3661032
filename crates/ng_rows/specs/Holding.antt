-- Runs in which passes are held back.
use Rattle.std.specs.Prelude.{[], ◌∷◌, pos, true, false, Some, None, codes}
use Rattle.ng_values.specs.declared.value.Value.TheVariants as val
use Rattle.ng_ast.specs.declared.App.{App}
use Rattle.ng_ast.specs.declared.Expr.TheVariants as expr
use Rattle.ng_ast.specs.declared.Stmt.TheVariants as stmt
use Rattle.ng_ast.specs.declared.Owner.TheVariants as owner
use Rattle.ng_ast.specs.declared.Piece.TheVariants as piece
use Rattle.ng_ast.specs.declared.AttrForm.TheVariants as form
use Rattle.ng_ast.specs.declared.TNode.TheVariants as node
use Rattle.ng_ast.specs.declared.MemberKind.TheVariants as kind
use Rattle.ng_ast.specs.declared.Decl.TheVariants as decl
use Rattle.ng_ast.specs.declared.Binary.TheVariants as binary
use Rattle.ng_rows.specs.Build.{at, attribute, branch, one, selector, member, component, service}

-- a counter:
--     component R {
--       selector 'r-r';
--       field n = 0;
--       template `<b (click)="n = n + 1">{{ n }}</b>`;
--     }
--     bootstrap R;
abbrev pub held_counter : App
held_counter = record { decls = decl.Component (component (at 1 1 0) (codes "R") (selector (one (Some (codes "r-r")) [] ∷ [])) false (member (at 3 3 34) (codes "n") (kind.Field (val.Int (pos 0))) ∷ []) (at 4 13 59) (node.Element (at 4 13 59) (codes "b") (attribute (at 4 16 62) (codes "click") (form.Listener (stmt.Set (at 4 25 71) (codes "n") (expr.Binary (at 4 29 75) binary.Add (expr.Name (at 4 29 75) (codes "n")) (expr.Literal (at 4 33 79) (val.Int (pos 1)))) ∷ [])) ∷ []) (node.Text (at 4 36 82) (piece.Value (at 4 36 82) (expr.Name (at 4 39 85) (codes "n")) ∷ []) ∷ []) ∷ [])) ∷ decl.Bootstrap (at 6 1 98) (codes "R") None ∷ [] }

-- a signal that a component which is `onpush` reads:
--     service S root {
--       signal a = 0;
--       method put(v) { a.set(v); }
--     }
--     component R {
--       selector 'r-r';
--       onpush;
--       inject s = S;
--       template `{{ s.a() }}`;
--     }
--     bootstrap R;
abbrev pub held_signal : App
held_signal = record { decls = decl.Service (service (at 1 1 0) (codes "S") true (member (at 2 3 19) (codes "a") (kind.Signal (val.Int (pos 0))) ∷ member (at 3 3 35) (codes "put") (kind.Method (codes "v" ∷ []) (stmt.Send (at 3 19 51) (owner.Name (at 3 19 51) (codes "a")) (codes "set") (expr.Name (at 3 25 57) (codes "v") ∷ []) ∷ [])) ∷ [])) ∷ decl.Component (component (at 5 1 65) (codes "R") (selector (one (Some (codes "r-r")) [] ∷ [])) true (member (at 8 3 109) (codes "s") (kind.Inject (codes "S") []) ∷ []) (at 9 13 135) (node.Text (at 9 13 135) (piece.Value (at 9 13 135) (expr.Call (at 9 16 138) (expr.Member (at 9 16 138) (expr.Name (at 9 16 138) (codes "s")) (codes "a")) []) ∷ []) ∷ [])) ∷ decl.Bootstrap (at 11 1 151) (codes "R") None ∷ [] }

-- two components that are `onpush` and count:
--     component K {
--       selector 'k-k';
--       onpush;
--       field n = 0;
--       field z = 0;
--       template `<b (click)="n = n + 1">{{ n }}</b><i (click)="n = n - 1">-</i><u (click)="n = 1 / z">/</u>`;
--     }
--     component R {
--       selector 'r-r';
--       onpush;
--       template `<k-k></k-k><k-k></k-k>`;
--     }
--     bootstrap R;
abbrev pub held_marks : App
held_marks = record { decls = decl.Component (component (at 1 1 0) (codes "K") (selector (one (Some (codes "k-k")) [] ∷ [])) true (member (at 4 3 44) (codes "n") (kind.Field (val.Int (pos 0))) ∷ member (at 5 3 59) (codes "z") (kind.Field (val.Int (pos 0))) ∷ []) (at 6 13 84) (node.Element (at 6 13 84) (codes "b") (attribute (at 6 16 87) (codes "click") (form.Listener (stmt.Set (at 6 25 96) (codes "n") (expr.Binary (at 6 29 100) binary.Add (expr.Name (at 6 29 100) (codes "n")) (expr.Literal (at 6 33 104) (val.Int (pos 1)))) ∷ [])) ∷ []) (node.Text (at 6 36 107) (piece.Value (at 6 36 107) (expr.Name (at 6 39 110) (codes "n")) ∷ []) ∷ []) ∷ node.Element (at 6 47 118) (codes "i") (attribute (at 6 50 121) (codes "click") (form.Listener (stmt.Set (at 6 59 130) (codes "n") (expr.Binary (at 6 63 134) binary.Sub (expr.Name (at 6 63 134) (codes "n")) (expr.Literal (at 6 67 138) (val.Int (pos 1)))) ∷ [])) ∷ []) (node.Text (at 6 70 141) (piece.Text (codes "-") ∷ []) ∷ []) ∷ node.Element (at 6 75 146) (codes "u") (attribute (at 6 78 149) (codes "click") (form.Listener (stmt.Set (at 6 87 158) (codes "n") (expr.Binary (at 6 91 162) binary.Div (expr.Literal (at 6 91 162) (val.Int (pos 1))) (expr.Name (at 6 95 166) (codes "z"))) ∷ [])) ∷ []) (node.Text (at 6 98 169) (piece.Text (codes "/") ∷ []) ∷ []) ∷ [])) ∷ decl.Component (component (at 8 1 179) (codes "R") (selector (one (Some (codes "r-r")) [] ∷ [])) true [] (at 11 13 233) (node.Element (at 11 13 233) (codes "k-k") [] [] ∷ node.Element (at 11 24 244) (codes "k-k") [] [] ∷ [])) ∷ decl.Bootstrap (at 13 1 260) (codes "R") None ∷ [] }

-- a click that hides its own element:
--     component R {
--       selector 'r-r';
--       field on = true;
--       field n = 0;
--       template `@if (on) {<b (click)="on = false; n = n + 1">x</b>}{{ n }}`;
--     }
--     bootstrap R;
abbrev pub held_page : App
held_page = record { decls = decl.Component (component (at 1 1 0) (codes "R") (selector (one (Some (codes "r-r")) [] ∷ [])) false (member (at 3 3 34) (codes "on") (kind.Field (val.Bool true)) ∷ member (at 4 3 53) (codes "n") (kind.Field (val.Int (pos 0))) ∷ []) (at 5 13 78) (node.If (at 5 13 78) (branch (at 5 13 78) (Some (expr.Name (at 5 18 83) (codes "on"))) None (node.Element (at 5 23 88) (codes "b") (attribute (at 5 26 91) (codes "click") (form.Listener (stmt.Set (at 5 35 100) (codes "on") (expr.Literal (at 5 40 105) (val.Bool false)) ∷ stmt.Set (at 5 47 112) (codes "n") (expr.Binary (at 5 51 116) binary.Add (expr.Name (at 5 51 116) (codes "n")) (expr.Literal (at 5 55 120) (val.Int (pos 1)))) ∷ [])) ∷ []) (node.Text (at 5 58 123) (piece.Text (codes "x") ∷ []) ∷ []) ∷ []) ∷ []) ∷ node.Text (at 5 64 129) (piece.Value (at 5 64 129) (expr.Name (at 5 67 132) (codes "n")) ∷ []) ∷ [])) ∷ decl.Bootstrap (at 7 1 141) (codes "R") None ∷ [] }

-- a binding that divides by a field:
--     component R {
--       selector 'r-r';
--       field d = 1;
--       template `<b (click)="d = d - 1">{{ 6 / d }}</b>`;
--     }
--     bootstrap R;
abbrev pub held_fault : App
held_fault = record { decls = decl.Component (component (at 1 1 0) (codes "R") (selector (one (Some (codes "r-r")) [] ∷ [])) false (member (at 3 3 34) (codes "d") (kind.Field (val.Int (pos 1))) ∷ []) (at 4 13 59) (node.Element (at 4 13 59) (codes "b") (attribute (at 4 16 62) (codes "click") (form.Listener (stmt.Set (at 4 25 71) (codes "d") (expr.Binary (at 4 29 75) binary.Sub (expr.Name (at 4 29 75) (codes "d")) (expr.Literal (at 4 33 79) (val.Int (pos 1)))) ∷ [])) ∷ []) (node.Text (at 4 36 82) (piece.Value (at 4 36 82) (expr.Binary (at 4 39 85) binary.Div (expr.Literal (at 4 39 85) (val.Int (pos 6))) (expr.Name (at 4 43 89) (codes "d"))) ∷ []) ∷ []) ∷ [])) ∷ decl.Bootstrap (at 6 1 102) (codes "R") None ∷ [] }

-- a service that a component needs which is shown later:
--     service S root {
--       signal a = 0;
--       init { a.set(5); }
--       method up() { a.set(a() + 1); }
--     }
--     component K {
--       selector 'k-k';
--       inject s = S;
--       template `{{ s.a() }}`;
--     }
--     component R {
--       selector 'r-r';
--       field on = false;
--       template `<b (click)="on = true">x</b>@if (on) {<k-k></k-k>}`;
--     }
--     bootstrap R;
abbrev pub held_birth : App
held_birth = record { decls = decl.Service (service (at 1 1 0) (codes "S") true (member (at 2 3 19) (codes "a") (kind.Signal (val.Int (pos 0))) ∷ member (at 3 3 35) (codes "init") (kind.Init (stmt.Send (at 3 10 42) (owner.Name (at 3 10 42) (codes "a")) (codes "set") (expr.Literal (at 3 16 48) (val.Int (pos 5)) ∷ []) ∷ [])) ∷ member (at 4 3 56) (codes "up") (kind.Method [] (stmt.Send (at 4 17 70) (owner.Name (at 4 17 70) (codes "a")) (codes "set") (expr.Binary (at 4 23 76) binary.Add (expr.Call (at 4 23 76) (expr.Name (at 4 23 76) (codes "a")) []) (expr.Literal (at 4 29 82) (val.Int (pos 1))) ∷ []) ∷ [])) ∷ [])) ∷ decl.Component (component (at 6 1 90) (codes "K") (selector (one (Some (codes "k-k")) [] ∷ [])) false (member (at 8 3 124) (codes "s") (kind.Inject (codes "S") []) ∷ []) (at 9 13 150) (node.Text (at 9 13 150) (piece.Value (at 9 13 150) (expr.Call (at 9 16 153) (expr.Member (at 9 16 153) (expr.Name (at 9 16 153) (codes "s")) (codes "a")) []) ∷ []) ∷ [])) ∷ decl.Component (component (at 11 1 166) (codes "R") (selector (one (Some (codes "r-r")) [] ∷ [])) false (member (at 13 3 200) (codes "on") (kind.Field (val.Bool false)) ∷ []) (at 14 13 230) (node.Element (at 14 13 230) (codes "b") (attribute (at 14 16 233) (codes "click") (form.Listener (stmt.Set (at 14 25 242) (codes "on") (expr.Literal (at 14 30 247) (val.Bool true)) ∷ [])) ∷ []) (node.Text (at 14 36 253) (piece.Text (codes "x") ∷ []) ∷ []) ∷ node.If (at 14 41 258) (branch (at 14 41 258) (Some (expr.Name (at 14 46 263) (codes "on"))) None (node.Element (at 14 51 268) (codes "k-k") [] [] ∷ []) ∷ []) ∷ [])) ∷ decl.Bootstrap (at 16 1 285) (codes "R") None ∷ [] }

-- a component with an input, which is `onpush`:
--     component K {
--       selector 'k-k';
--       onpush;
--       input v;
--       template `{{ v }}`;
--     }
--     component R {
--       selector 'r-r';
--       field v = 1;
--       template `<b (click)="v = 2">x</b><i (click)="v = 1">y</i><k-k [v]="v"></k-k>`;
--     }
--     bootstrap R;
abbrev pub held_input : App
held_input = record { decls = decl.Component (component (at 1 1 0) (codes "K") (selector (one (Some (codes "k-k")) [] ∷ [])) true (member (at 4 3 44) (codes "v") (kind.Input false val.Null) ∷ []) (at 5 13 65) (node.Text (at 5 13 65) (piece.Value (at 5 13 65) (expr.Name (at 5 16 68) (codes "v")) ∷ []) ∷ [])) ∷ decl.Component (component (at 7 1 77) (codes "R") (selector (one (Some (codes "r-r")) [] ∷ [])) false (member (at 9 3 111) (codes "v") (kind.Field (val.Int (pos 1))) ∷ []) (at 10 13 136) (node.Element (at 10 13 136) (codes "b") (attribute (at 10 16 139) (codes "click") (form.Listener (stmt.Set (at 10 25 148) (codes "v") (expr.Literal (at 10 29 152) (val.Int (pos 2))) ∷ [])) ∷ []) (node.Text (at 10 32 155) (piece.Text (codes "x") ∷ []) ∷ []) ∷ node.Element (at 10 37 160) (codes "i") (attribute (at 10 40 163) (codes "click") (form.Listener (stmt.Set (at 10 49 172) (codes "v") (expr.Literal (at 10 53 176) (val.Int (pos 1))) ∷ [])) ∷ []) (node.Text (at 10 56 179) (piece.Text (codes "y") ∷ []) ∷ []) ∷ node.Element (at 10 61 184) (codes "k-k") (attribute (at 10 66 189) (codes "v") (form.Property (expr.Name (at 10 71 194) (codes "v"))) ∷ []) [] ∷ [])) ∷ decl.Bootstrap (at 12 1 208) (codes "R") None ∷ [] }

-- a component that is hidden and shown again:
--     component C {
--       selector 'c-c';
--       field n = 0;
--       template `<b (click)="n = n + 1">{{ n }}</b>`;
--     }
--     component R {
--       selector 'r-r';
--       field on = true;
--       template `<u (click)="on = false">-</u><i (click)="on = true">+</i>@if (on) {<c-c></c-c>}`;
--     }
--     bootstrap R;
abbrev pub held_view : App
held_view = record { decls = decl.Component (component (at 1 1 0) (codes "C") (selector (one (Some (codes "c-c")) [] ∷ [])) false (member (at 3 3 34) (codes "n") (kind.Field (val.Int (pos 0))) ∷ []) (at 4 13 59) (node.Element (at 4 13 59) (codes "b") (attribute (at 4 16 62) (codes "click") (form.Listener (stmt.Set (at 4 25 71) (codes "n") (expr.Binary (at 4 29 75) binary.Add (expr.Name (at 4 29 75) (codes "n")) (expr.Literal (at 4 33 79) (val.Int (pos 1)))) ∷ [])) ∷ []) (node.Text (at 4 36 82) (piece.Value (at 4 36 82) (expr.Name (at 4 39 85) (codes "n")) ∷ []) ∷ []) ∷ [])) ∷ decl.Component (component (at 6 1 98) (codes "R") (selector (one (Some (codes "r-r")) [] ∷ [])) false (member (at 8 3 132) (codes "on") (kind.Field (val.Bool true)) ∷ []) (at 9 13 161) (node.Element (at 9 13 161) (codes "u") (attribute (at 9 16 164) (codes "click") (form.Listener (stmt.Set (at 9 25 173) (codes "on") (expr.Literal (at 9 30 178) (val.Bool false)) ∷ [])) ∷ []) (node.Text (at 9 37 185) (piece.Text (codes "-") ∷ []) ∷ []) ∷ node.Element (at 9 42 190) (codes "i") (attribute (at 9 45 193) (codes "click") (form.Listener (stmt.Set (at 9 54 202) (codes "on") (expr.Literal (at 9 59 207) (val.Bool true)) ∷ [])) ∷ []) (node.Text (at 9 65 213) (piece.Text (codes "+") ∷ []) ∷ []) ∷ node.If (at 9 70 218) (branch (at 9 70 218) (Some (expr.Name (at 9 75 223) (codes "on"))) None (node.Element (at 9 80 228) (codes "c-c") [] [] ∷ []) ∷ []) ∷ [])) ∷ decl.Bootstrap (at 11 1 245) (codes "R") None ∷ [] }

-- a button inside a division, and both listen:
--     component R {
--       selector 'r-r';
--       field n = 0;
--       field m = 0;
--       template `<div (click)="m = m + 1"><b (click)="n = n + 1">{{ n }}{{ m }}</b></div>`;
--     }
--     bootstrap R;
abbrev pub held_bubbling : App
held_bubbling = record { decls = decl.Component (component (at 1 1 0) (codes "R") (selector (one (Some (codes "r-r")) [] ∷ [])) false (member (at 3 3 34) (codes "n") (kind.Field (val.Int (pos 0))) ∷ member (at 4 3 49) (codes "m") (kind.Field (val.Int (pos 0))) ∷ []) (at 5 13 74) (node.Element (at 5 13 74) (codes "div") (attribute (at 5 18 79) (codes "click") (form.Listener (stmt.Set (at 5 27 88) (codes "m") (expr.Binary (at 5 31 92) binary.Add (expr.Name (at 5 31 92) (codes "m")) (expr.Literal (at 5 35 96) (val.Int (pos 1)))) ∷ [])) ∷ []) (node.Element (at 5 38 99) (codes "b") (attribute (at 5 41 102) (codes "click") (form.Listener (stmt.Set (at 5 50 111) (codes "n") (expr.Binary (at 5 54 115) binary.Add (expr.Name (at 5 54 115) (codes "n")) (expr.Literal (at 5 58 119) (val.Int (pos 1)))) ∷ [])) ∷ []) (node.Text (at 5 61 122) (piece.Value (at 5 61 122) (expr.Name (at 5 64 125) (codes "n")) ∷ piece.Value (at 5 68 129) (expr.Name (at 5 71 132) (codes "m")) ∷ []) ∷ []) ∷ []) ∷ [])) ∷ decl.Bootstrap (at 7 1 151) (codes "R") None ∷ [] }

-- a service, and a component that reads its signal:
--     service S root {
--       signal a = 0;
--       method put(v) { a.set(v); }
--     }
--     component R {
--       selector 'r-r';
--       inject s = S;
--       template `{{ s.a() }}`;
--     }
--     bootstrap R;
abbrev pub held_call : App
held_call = record { decls = decl.Service (service (at 1 1 0) (codes "S") true (member (at 2 3 19) (codes "a") (kind.Signal (val.Int (pos 0))) ∷ member (at 3 3 35) (codes "put") (kind.Method (codes "v" ∷ []) (stmt.Send (at 3 19 51) (owner.Name (at 3 19 51) (codes "a")) (codes "set") (expr.Name (at 3 25 57) (codes "v") ∷ []) ∷ [])) ∷ [])) ∷ decl.Component (component (at 5 1 65) (codes "R") (selector (one (Some (codes "r-r")) [] ∷ [])) false (member (at 7 3 99) (codes "s") (kind.Inject (codes "S") []) ∷ []) (at 8 13 125) (node.Text (at 8 13 125) (piece.Value (at 8 13 125) (expr.Call (at 8 16 128) (expr.Member (at 8 16 128) (expr.Name (at 8 16 128) (codes "s")) (codes "a")) []) ∷ []) ∷ [])) ∷ decl.Bootstrap (at 10 1 141) (codes "R") None ∷ [] }
