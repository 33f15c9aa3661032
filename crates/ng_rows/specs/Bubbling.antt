-- Listeners on the way of an event.
use Rattle.std.specs.Prelude.{[], ◌∷◌, pos, true, false, Some, None, codes}
use Rattle.ng_values.specs.declared.plain.Plain.TheVariants as plain
use Rattle.ng_values.specs.declared.value.Value.TheVariants as val
use Rattle.ng_ast.specs.declared.App.{App}
use Rattle.ng_ast.specs.declared.Expr.TheVariants as expr
use Rattle.ng_ast.specs.declared.Stmt.TheVariants as stmt
use Rattle.ng_ast.specs.declared.Owner.TheVariants as owner
use Rattle.ng_ast.specs.declared.OutletForm.TheVariants as outlet
use Rattle.ng_ast.specs.declared.Piece.TheVariants as piece
use Rattle.ng_ast.specs.declared.AttrForm.TheVariants as form
use Rattle.ng_ast.specs.declared.TNode.TheVariants as node
use Rattle.ng_ast.specs.declared.MemberKind.TheVariants as kind
use Rattle.ng_ast.specs.declared.Decl.TheVariants as decl
use Rattle.ng_ast.specs.declared.Binary.TheVariants as binary
use Rattle.ng_rows.specs.Build.{at, attribute, branch, for_head, one, selector, member, component}

-- a button inside a division, and both listen:
--     component R {
--       selector 'r-r';
--       field n = 0;
--       field m = 0;
--       template `<div (click)="m = m + 1"><b (click)="n = n + 1">{{ n }}{{ m }}</b></div>`;
--     }
--     bootstrap R;
abbrev pub two_listeners : App
two_listeners = record { decls = decl.Component (component (at 1 1 0) (codes "R") (selector (one (Some (codes "r-r")) [] ∷ [])) false (member (at 3 3 34) (codes "n") (kind.Field (val.Int (pos 0))) ∷ member (at 4 3 49) (codes "m") (kind.Field (val.Int (pos 0))) ∷ []) (at 5 13 74) (node.Element (at 5 13 74) (codes "div") (attribute (at 5 18 79) (codes "click") (form.Listener (stmt.Set (at 5 27 88) (codes "m") (expr.Binary (at 5 31 92) binary.Add (expr.Name (at 5 31 92) (codes "m")) (expr.Literal (at 5 35 96) (val.Int (pos 1)))) ∷ [])) ∷ []) (node.Element (at 5 38 99) (codes "b") (attribute (at 5 41 102) (codes "click") (form.Listener (stmt.Set (at 5 50 111) (codes "n") (expr.Binary (at 5 54 115) binary.Add (expr.Name (at 5 54 115) (codes "n")) (expr.Literal (at 5 58 119) (val.Int (pos 1)))) ∷ [])) ∷ []) (node.Text (at 5 61 122) (piece.Value (at 5 61 122) (expr.Name (at 5 64 125) (codes "n")) ∷ piece.Value (at 5 68 129) (expr.Name (at 5 71 132) (codes "m")) ∷ []) ∷ []) ∷ []) ∷ [])) ∷ decl.Bootstrap (at 7 1 151) (codes "R") None ∷ [] }

-- an inner listener that divides by 0:
--     component R {
--       selector 'r-r';
--       field n = 0;
--       field m = 0;
--       template `<div (click)="m = m + 1"><b (click)="n = 1 / m">{{ n }}{{ m }}</b></div>`;
--     }
--     bootstrap R;
abbrev pub faulty_inside : App
faulty_inside = record { decls = decl.Component (component (at 1 1 0) (codes "R") (selector (one (Some (codes "r-r")) [] ∷ [])) false (member (at 3 3 34) (codes "n") (kind.Field (val.Int (pos 0))) ∷ member (at 4 3 49) (codes "m") (kind.Field (val.Int (pos 0))) ∷ []) (at 5 13 74) (node.Element (at 5 13 74) (codes "div") (attribute (at 5 18 79) (codes "click") (form.Listener (stmt.Set (at 5 27 88) (codes "m") (expr.Binary (at 5 31 92) binary.Add (expr.Name (at 5 31 92) (codes "m")) (expr.Literal (at 5 35 96) (val.Int (pos 1)))) ∷ [])) ∷ []) (node.Element (at 5 38 99) (codes "b") (attribute (at 5 41 102) (codes "click") (form.Listener (stmt.Set (at 5 50 111) (codes "n") (expr.Binary (at 5 54 115) binary.Div (expr.Literal (at 5 54 115) (val.Int (pos 1))) (expr.Name (at 5 58 119) (codes "m"))) ∷ [])) ∷ []) (node.Text (at 5 61 122) (piece.Value (at 5 61 122) (expr.Name (at 5 64 125) (codes "n")) ∷ piece.Value (at 5 68 129) (expr.Name (at 5 71 132) (codes "m")) ∷ []) ∷ []) ∷ []) ∷ [])) ∷ decl.Bootstrap (at 7 1 151) (codes "R") None ∷ [] }

-- a division that listens for `focus`:
--     component R {
--       selector 'r-r';
--       field n = 0;
--       field m = 0;
--       template `<div (focus)="m = m + 1"><b (click)="n = n + 1">{{ n }}{{ m }}</b></div>`;
--     }
--     bootstrap R;
abbrev pub focus_outside : App
focus_outside = record { decls = decl.Component (component (at 1 1 0) (codes "R") (selector (one (Some (codes "r-r")) [] ∷ [])) false (member (at 3 3 34) (codes "n") (kind.Field (val.Int (pos 0))) ∷ member (at 4 3 49) (codes "m") (kind.Field (val.Int (pos 0))) ∷ []) (at 5 13 74) (node.Element (at 5 13 74) (codes "div") (attribute (at 5 18 79) (codes "focus") (form.Listener (stmt.Set (at 5 27 88) (codes "m") (expr.Binary (at 5 31 92) binary.Add (expr.Name (at 5 31 92) (codes "m")) (expr.Literal (at 5 35 96) (val.Int (pos 1)))) ∷ [])) ∷ []) (node.Element (at 5 38 99) (codes "b") (attribute (at 5 41 102) (codes "click") (form.Listener (stmt.Set (at 5 50 111) (codes "n") (expr.Binary (at 5 54 115) binary.Add (expr.Name (at 5 54 115) (codes "n")) (expr.Literal (at 5 58 119) (val.Int (pos 1)))) ∷ [])) ∷ []) (node.Text (at 5 61 122) (piece.Value (at 5 61 122) (expr.Name (at 5 64 125) (codes "n")) ∷ piece.Value (at 5 68 129) (expr.Name (at 5 71 132) (codes "m")) ∷ []) ∷ []) ∷ []) ∷ [])) ∷ decl.Bootstrap (at 7 1 151) (codes "R") None ∷ [] }

-- three listeners that append a digit:
--     component R {
--       selector 'r-r';
--       field n = 0;
--       template `<p (click)="n = n * 10 + 3"><i (click)="n = n * 10 + 2"><b (click)="n = n * 10 + 1">{{ n }}</b></i></p>`;
--     }
--     bootstrap R;
abbrev pub three_listeners : App
three_listeners = record { decls = decl.Component (component (at 1 1 0) (codes "R") (selector (one (Some (codes "r-r")) [] ∷ [])) false (member (at 3 3 34) (codes "n") (kind.Field (val.Int (pos 0))) ∷ []) (at 4 13 59) (node.Element (at 4 13 59) (codes "p") (attribute (at 4 16 62) (codes "click") (form.Listener (stmt.Set (at 4 25 71) (codes "n") (expr.Binary (at 4 29 75) binary.Add (expr.Binary (at 4 29 75) binary.Mul (expr.Name (at 4 29 75) (codes "n")) (expr.Literal (at 4 33 79) (val.Int (pos 10)))) (expr.Literal (at 4 38 84) (val.Int (pos 3)))) ∷ [])) ∷ []) (node.Element (at 4 41 87) (codes "i") (attribute (at 4 44 90) (codes "click") (form.Listener (stmt.Set (at 4 53 99) (codes "n") (expr.Binary (at 4 57 103) binary.Add (expr.Binary (at 4 57 103) binary.Mul (expr.Name (at 4 57 103) (codes "n")) (expr.Literal (at 4 61 107) (val.Int (pos 10)))) (expr.Literal (at 4 66 112) (val.Int (pos 2)))) ∷ [])) ∷ []) (node.Element (at 4 69 115) (codes "b") (attribute (at 4 72 118) (codes "click") (form.Listener (stmt.Set (at 4 81 127) (codes "n") (expr.Binary (at 4 85 131) binary.Add (expr.Binary (at 4 85 131) binary.Mul (expr.Name (at 4 85 131) (codes "n")) (expr.Literal (at 4 89 135) (val.Int (pos 10)))) (expr.Literal (at 4 94 140) (val.Int (pos 1)))) ∷ [])) ∷ []) (node.Text (at 4 97 143) (piece.Value (at 4 97 143) (expr.Name (at 4 100 146) (codes "n")) ∷ []) ∷ []) ∷ []) ∷ []) ∷ [])) ∷ decl.Bootstrap (at 6 1 167) (codes "R") None ∷ [] }

-- the second of three listeners divides by 0:
--     component R {
--       selector 'r-r';
--       field n = 0;
--       field z = 0;
--       template `<p (click)="n = n + 100"><i (click)="n = n + 10; n = n / z"><b (click)="n = n + 1">{{ n }}</b></i></p>`;
--     }
--     bootstrap R;
abbrev pub faulty_middle : App
faulty_middle = record { decls = decl.Component (component (at 1 1 0) (codes "R") (selector (one (Some (codes "r-r")) [] ∷ [])) false (member (at 3 3 34) (codes "n") (kind.Field (val.Int (pos 0))) ∷ member (at 4 3 49) (codes "z") (kind.Field (val.Int (pos 0))) ∷ []) (at 5 13 74) (node.Element (at 5 13 74) (codes "p") (attribute (at 5 16 77) (codes "click") (form.Listener (stmt.Set (at 5 25 86) (codes "n") (expr.Binary (at 5 29 90) binary.Add (expr.Name (at 5 29 90) (codes "n")) (expr.Literal (at 5 33 94) (val.Int (pos 100)))) ∷ [])) ∷ []) (node.Element (at 5 38 99) (codes "i") (attribute (at 5 41 102) (codes "click") (form.Listener (stmt.Set (at 5 50 111) (codes "n") (expr.Binary (at 5 54 115) binary.Add (expr.Name (at 5 54 115) (codes "n")) (expr.Literal (at 5 58 119) (val.Int (pos 10)))) ∷ stmt.Set (at 5 62 123) (codes "n") (expr.Binary (at 5 66 127) binary.Div (expr.Name (at 5 66 127) (codes "n")) (expr.Name (at 5 70 131) (codes "z"))) ∷ [])) ∷ []) (node.Element (at 5 73 134) (codes "b") (attribute (at 5 76 137) (codes "click") (form.Listener (stmt.Set (at 5 85 146) (codes "n") (expr.Binary (at 5 89 150) binary.Add (expr.Name (at 5 89 150) (codes "n")) (expr.Literal (at 5 93 154) (val.Int (pos 1)))) ∷ [])) ∷ []) (node.Text (at 5 96 157) (piece.Value (at 5 96 157) (expr.Name (at 5 99 160) (codes "n")) ∷ []) ∷ []) ∷ []) ∷ []) ∷ [])) ∷ decl.Bootstrap (at 7 1 181) (codes "R") None ∷ [] }

-- only the outermost of three elements listens:
--     component R {
--       selector 'r-r';
--       field n = 0;
--       template `<p (click)="n = n + 1"><i><b>{{ n }}</b></i></p>`;
--     }
--     bootstrap R;
abbrev pub quiet_target : App
quiet_target = record { decls = decl.Component (component (at 1 1 0) (codes "R") (selector (one (Some (codes "r-r")) [] ∷ [])) false (member (at 3 3 34) (codes "n") (kind.Field (val.Int (pos 0))) ∷ []) (at 4 13 59) (node.Element (at 4 13 59) (codes "p") (attribute (at 4 16 62) (codes "click") (form.Listener (stmt.Set (at 4 25 71) (codes "n") (expr.Binary (at 4 29 75) binary.Add (expr.Name (at 4 29 75) (codes "n")) (expr.Literal (at 4 33 79) (val.Int (pos 1)))) ∷ [])) ∷ []) (node.Element (at 4 36 82) (codes "i") [] (node.Element (at 4 39 85) (codes "b") [] (node.Text (at 4 42 88) (piece.Value (at 4 42 88) (expr.Name (at 4 45 91) (codes "n")) ∷ []) ∷ []) ∷ []) ∷ []) ∷ [])) ∷ decl.Bootstrap (at 6 1 112) (codes "R") None ∷ [] }

-- a component with an output, inside a paragraph that listens for clicks and for the output's name:
--     component K {
--       selector 'k-k';
--       output change;
--       field n = 0;
--       template `<b (click)="n = n + 1; change.emit(n)">{{ n }}</b>`;
--     }
--     component R {
--       selector 'r-r';
--       field m = 0;
--       template `<p (click)="m = m + 10" (change)="m = m + 1000"><k-k (click)="m = m * 2" (change)="m = m + 1"></k-k>{{ m }}</p>`;
--     }
--     bootstrap R;
abbrev pub host_on_the_way : App
host_on_the_way = record { decls = decl.Component (component (at 1 1 0) (codes "K") (selector (one (Some (codes "k-k")) [] ∷ [])) false (member (at 3 3 34) (codes "change") kind.Output ∷ member (at 4 3 51) (codes "n") (kind.Field (val.Int (pos 0))) ∷ []) (at 5 13 76) (node.Element (at 5 13 76) (codes "b") (attribute (at 5 16 79) (codes "click") (form.Listener (stmt.Set (at 5 25 88) (codes "n") (expr.Binary (at 5 29 92) binary.Add (expr.Name (at 5 29 92) (codes "n")) (expr.Literal (at 5 33 96) (val.Int (pos 1)))) ∷ stmt.Send (at 5 36 99) (owner.Name (at 5 36 99) (codes "change")) (codes "emit") (expr.Name (at 5 48 111) (codes "n") ∷ []) ∷ [])) ∷ []) (node.Text (at 5 52 115) (piece.Value (at 5 52 115) (expr.Name (at 5 55 118) (codes "n")) ∷ []) ∷ []) ∷ [])) ∷ decl.Component (component (at 7 1 131) (codes "R") (selector (one (Some (codes "r-r")) [] ∷ [])) false (member (at 9 3 165) (codes "m") (kind.Field (val.Int (pos 0))) ∷ []) (at 10 13 190) (node.Element (at 10 13 190) (codes "p") (attribute (at 10 16 193) (codes "click") (form.Listener (stmt.Set (at 10 25 202) (codes "m") (expr.Binary (at 10 29 206) binary.Add (expr.Name (at 10 29 206) (codes "m")) (expr.Literal (at 10 33 210) (val.Int (pos 10)))) ∷ [])) ∷ attribute (at 10 37 214) (codes "change") (form.Listener (stmt.Set (at 10 47 224) (codes "m") (expr.Binary (at 10 51 228) binary.Add (expr.Name (at 10 51 228) (codes "m")) (expr.Literal (at 10 55 232) (val.Int (pos 1000)))) ∷ [])) ∷ []) (node.Element (at 10 61 238) (codes "k-k") (attribute (at 10 66 243) (codes "click") (form.Listener (stmt.Set (at 10 75 252) (codes "m") (expr.Binary (at 10 79 256) binary.Mul (expr.Name (at 10 79 256) (codes "m")) (expr.Literal (at 10 83 260) (val.Int (pos 2)))) ∷ [])) ∷ attribute (at 10 86 263) (codes "change") (form.Listener (stmt.Set (at 10 96 273) (codes "m") (expr.Binary (at 10 100 277) binary.Add (expr.Name (at 10 100 277) (codes "m")) (expr.Literal (at 10 104 281) (val.Int (pos 1)))) ∷ [])) ∷ []) [] ∷ node.Text (at 10 113 290) (piece.Value (at 10 113 290) (expr.Name (at 10 116 293) (codes "m")) ∷ []) ∷ []) ∷ [])) ∷ decl.Bootstrap (at 12 1 306) (codes "R") None ∷ [] }

-- a component that listens round the content that it shows:
--     component K {
--       selector 'k-k';
--       field n = 0;
--       template `<u (click)="n = n + 1"><ng-content></ng-content>{{ n }}</u>`;
--     }
--     component R {
--       selector 'r-r';
--       field m = 0;
--       template `<p (click)="m = m + 10"><k-k><b (click)="m = m + 1">{{ m }}</b></k-k></p>`;
--     }
--     bootstrap R;
abbrev pub shown_content : App
shown_content = record { decls = decl.Component (component (at 1 1 0) (codes "K") (selector (one (Some (codes "k-k")) [] ∷ [])) false (member (at 3 3 34) (codes "n") (kind.Field (val.Int (pos 0))) ∷ []) (at 4 13 59) (node.Element (at 4 13 59) (codes "u") (attribute (at 4 16 62) (codes "click") (form.Listener (stmt.Set (at 4 25 71) (codes "n") (expr.Binary (at 4 29 75) binary.Add (expr.Name (at 4 29 75) (codes "n")) (expr.Literal (at 4 33 79) (val.Int (pos 1)))) ∷ [])) ∷ []) (node.Element (at 4 36 82) (codes "ng-content") [] [] ∷ node.Text (at 4 61 107) (piece.Value (at 4 61 107) (expr.Name (at 4 64 110) (codes "n")) ∷ []) ∷ []) ∷ [])) ∷ decl.Component (component (at 6 1 123) (codes "R") (selector (one (Some (codes "r-r")) [] ∷ [])) false (member (at 8 3 157) (codes "m") (kind.Field (val.Int (pos 0))) ∷ []) (at 9 13 182) (node.Element (at 9 13 182) (codes "p") (attribute (at 9 16 185) (codes "click") (form.Listener (stmt.Set (at 9 25 194) (codes "m") (expr.Binary (at 9 29 198) binary.Add (expr.Name (at 9 29 198) (codes "m")) (expr.Literal (at 9 33 202) (val.Int (pos 10)))) ∷ [])) ∷ []) (node.Element (at 9 37 206) (codes "k-k") [] (node.Element (at 9 42 211) (codes "b") (attribute (at 9 45 214) (codes "click") (form.Listener (stmt.Set (at 9 54 223) (codes "m") (expr.Binary (at 9 58 227) binary.Add (expr.Name (at 9 58 227) (codes "m")) (expr.Literal (at 9 62 231) (val.Int (pos 1)))) ∷ [])) ∷ []) (node.Text (at 9 65 234) (piece.Value (at 9 65 234) (expr.Name (at 9 68 237) (codes "m")) ∷ []) ∷ []) ∷ []) ∷ []) ∷ [])) ∷ decl.Bootstrap (at 11 1 260) (codes "R") None ∷ [] }

-- a component without a listener, and one with one, both `onpush` and both on the way:
--     component A {
--       selector 'a-a';
--       onpush;
--       template `<u><ng-content></ng-content></u>`;
--     }
--     component B {
--       selector 'b-b';
--       onpush;
--       field n = 0;
--       template `<s (click)="n = n + 1">{{ n }}<ng-content></ng-content></s>`;
--     }
--     component R {
--       selector 'r-r';
--       onpush;
--       template `<a-a><b-b><b>x</b></b-b></a-a>`;
--     }
--     bootstrap R;
abbrev pub marked_on_the_way : App
marked_on_the_way = record { decls = decl.Component (component (at 1 1 0) (codes "A") (selector (one (Some (codes "a-a")) [] ∷ [])) true [] (at 4 13 54) (node.Element (at 4 13 54) (codes "u") [] (node.Element (at 4 16 57) (codes "ng-content") [] [] ∷ []) ∷ [])) ∷ decl.Component (component (at 6 1 91) (codes "B") (selector (one (Some (codes "b-b")) [] ∷ [])) true (member (at 9 3 135) (codes "n") (kind.Field (val.Int (pos 0))) ∷ []) (at 10 13 160) (node.Element (at 10 13 160) (codes "s") (attribute (at 10 16 163) (codes "click") (form.Listener (stmt.Set (at 10 25 172) (codes "n") (expr.Binary (at 10 29 176) binary.Add (expr.Name (at 10 29 176) (codes "n")) (expr.Literal (at 10 33 180) (val.Int (pos 1)))) ∷ [])) ∷ []) (node.Text (at 10 36 183) (piece.Value (at 10 36 183) (expr.Name (at 10 39 186) (codes "n")) ∷ []) ∷ node.Element (at 10 43 190) (codes "ng-content") [] [] ∷ []) ∷ [])) ∷ decl.Component (component (at 12 1 224) (codes "R") (selector (one (Some (codes "r-r")) [] ∷ [])) true [] (at 15 13 278) (node.Element (at 15 13 278) (codes "a-a") [] (node.Element (at 15 18 283) (codes "b-b") [] (node.Element (at 15 23 288) (codes "b") [] (node.Text (at 15 26 291) (piece.Text (codes "x") ∷ []) ∷ []) ∷ []) ∷ []) ∷ [])) ∷ decl.Bootstrap (at 17 1 313) (codes "R") None ∷ [] }

-- an inner listener that hides its own element:
--     component R {
--       selector 'r-r';
--       field on = true;
--       field n = 0;
--       template `<p (click)="n = n + 1">@if (on) {<b (click)="on = false">x</b>}{{ n }}</p>`;
--     }
--     bootstrap R;
abbrev pub hidden_on_the_way : App
hidden_on_the_way = record { decls = decl.Component (component (at 1 1 0) (codes "R") (selector (one (Some (codes "r-r")) [] ∷ [])) false (member (at 3 3 34) (codes "on") (kind.Field (val.Bool true)) ∷ member (at 4 3 53) (codes "n") (kind.Field (val.Int (pos 0))) ∷ []) (at 5 13 78) (node.Element (at 5 13 78) (codes "p") (attribute (at 5 16 81) (codes "click") (form.Listener (stmt.Set (at 5 25 90) (codes "n") (expr.Binary (at 5 29 94) binary.Add (expr.Name (at 5 29 94) (codes "n")) (expr.Literal (at 5 33 98) (val.Int (pos 1)))) ∷ [])) ∷ []) (node.If (at 5 36 101) (branch (at 5 36 101) (Some (expr.Name (at 5 41 106) (codes "on"))) None (node.Element (at 5 46 111) (codes "b") (attribute (at 5 49 114) (codes "click") (form.Listener (stmt.Set (at 5 58 123) (codes "on") (expr.Literal (at 5 63 128) (val.Bool false)) ∷ [])) ∷ []) (node.Text (at 5 70 135) (piece.Text (codes "x") ∷ []) ∷ []) ∷ []) ∷ []) ∷ node.Text (at 5 76 141) (piece.Value (at 5 76 141) (expr.Name (at 5 79 144) (codes "n")) ∷ []) ∷ []) ∷ [])) ∷ decl.Bootstrap (at 7 1 157) (codes "R") None ∷ [] }

-- a division that listens for events that stay at their target, and for one that bubbles:
--     component R {
--       selector 'r-r';
--       field n = 0;
--       field m = 0;
--       template `<div (mouseenter)="m = 1" (mouseleave)="m = 2" (blur)="m = 3" (scroll)="m = 4" (input)="m = 5"><b>{{ n }}{{ m }}</b></div>`;
--     }
--     bootstrap R;
abbrev pub kin_of_focus : App
kin_of_focus = record { decls = decl.Component (component (at 1 1 0) (codes "R") (selector (one (Some (codes "r-r")) [] ∷ [])) false (member (at 3 3 34) (codes "n") (kind.Field (val.Int (pos 0))) ∷ member (at 4 3 49) (codes "m") (kind.Field (val.Int (pos 0))) ∷ []) (at 5 13 74) (node.Element (at 5 13 74) (codes "div") (attribute (at 5 18 79) (codes "mouseenter") (form.Listener (stmt.Set (at 5 32 93) (codes "m") (expr.Literal (at 5 36 97) (val.Int (pos 1))) ∷ [])) ∷ attribute (at 5 39 100) (codes "mouseleave") (form.Listener (stmt.Set (at 5 53 114) (codes "m") (expr.Literal (at 5 57 118) (val.Int (pos 2))) ∷ [])) ∷ attribute (at 5 60 121) (codes "blur") (form.Listener (stmt.Set (at 5 68 129) (codes "m") (expr.Literal (at 5 72 133) (val.Int (pos 3))) ∷ [])) ∷ attribute (at 5 75 136) (codes "scroll") (form.Listener (stmt.Set (at 5 85 146) (codes "m") (expr.Literal (at 5 89 150) (val.Int (pos 4))) ∷ [])) ∷ attribute (at 5 92 153) (codes "input") (form.Listener (stmt.Set (at 5 101 162) (codes "m") (expr.Literal (at 5 105 166) (val.Int (pos 5))) ∷ [])) ∷ []) (node.Element (at 5 108 169) (codes "b") [] (node.Text (at 5 111 172) (piece.Value (at 5 111 172) (expr.Name (at 5 114 175) (codes "n")) ∷ piece.Value (at 5 118 179) (expr.Name (at 5 121 182) (codes "m")) ∷ []) ∷ []) ∷ []) ∷ [])) ∷ decl.Bootstrap (at 7 1 201) (codes "R") None ∷ [] }

-- two listeners that keep the value of an event:
--     component R {
--       selector 'r-r';
--       field n = 0;
--       field m = 0;
--       template `<div (input)="m = $event"><b (input)="n = $event + 1">{{ n }}{{ m }}</b></div>`;
--     }
--     bootstrap R;
abbrev pub shared_value : App
shared_value = record { decls = decl.Component (component (at 1 1 0) (codes "R") (selector (one (Some (codes "r-r")) [] ∷ [])) false (member (at 3 3 34) (codes "n") (kind.Field (val.Int (pos 0))) ∷ member (at 4 3 49) (codes "m") (kind.Field (val.Int (pos 0))) ∷ []) (at 5 13 74) (node.Element (at 5 13 74) (codes "div") (attribute (at 5 18 79) (codes "input") (form.Listener (stmt.Set (at 5 27 88) (codes "m") (expr.Name (at 5 31 92) (codes "$event")) ∷ [])) ∷ []) (node.Element (at 5 39 100) (codes "b") (attribute (at 5 42 103) (codes "input") (form.Listener (stmt.Set (at 5 51 112) (codes "n") (expr.Binary (at 5 55 116) binary.Add (expr.Name (at 5 55 116) (codes "$event")) (expr.Literal (at 5 64 125) (val.Int (pos 1)))) ∷ [])) ∷ []) (node.Text (at 5 67 128) (piece.Value (at 5 67 128) (expr.Name (at 5 70 131) (codes "n")) ∷ piece.Value (at 5 74 135) (expr.Name (at 5 77 138) (codes "m")) ∷ []) ∷ []) ∷ []) ∷ [])) ∷ decl.Bootstrap (at 7 1 157) (codes "R") None ∷ [] }

-- a component that emits, inside a host whose listener divides by 0:
--     component K {
--       selector 'k-k';
--       output change;
--       field n = 0;
--       template `<b (click)="n = n + 1; change.emit(n); n = n + 10">{{ n }}</b>`;
--     }
--     component R {
--       selector 'r-r';
--       field m = 0;
--       template `<p (click)="m = m + 10"><k-k (change)="m = 1 / m"></k-k>{{ m }}</p>`;
--     }
--     bootstrap R;
abbrev pub faulty_output : App
faulty_output = record { decls = decl.Component (component (at 1 1 0) (codes "K") (selector (one (Some (codes "k-k")) [] ∷ [])) false (member (at 3 3 34) (codes "change") kind.Output ∷ member (at 4 3 51) (codes "n") (kind.Field (val.Int (pos 0))) ∷ []) (at 5 13 76) (node.Element (at 5 13 76) (codes "b") (attribute (at 5 16 79) (codes "click") (form.Listener (stmt.Set (at 5 25 88) (codes "n") (expr.Binary (at 5 29 92) binary.Add (expr.Name (at 5 29 92) (codes "n")) (expr.Literal (at 5 33 96) (val.Int (pos 1)))) ∷ stmt.Send (at 5 36 99) (owner.Name (at 5 36 99) (codes "change")) (codes "emit") (expr.Name (at 5 48 111) (codes "n") ∷ []) ∷ stmt.Set (at 5 52 115) (codes "n") (expr.Binary (at 5 56 119) binary.Add (expr.Name (at 5 56 119) (codes "n")) (expr.Literal (at 5 60 123) (val.Int (pos 10)))) ∷ [])) ∷ []) (node.Text (at 5 64 127) (piece.Value (at 5 64 127) (expr.Name (at 5 67 130) (codes "n")) ∷ []) ∷ []) ∷ [])) ∷ decl.Component (component (at 7 1 143) (codes "R") (selector (one (Some (codes "r-r")) [] ∷ [])) false (member (at 9 3 177) (codes "m") (kind.Field (val.Int (pos 0))) ∷ []) (at 10 13 202) (node.Element (at 10 13 202) (codes "p") (attribute (at 10 16 205) (codes "click") (form.Listener (stmt.Set (at 10 25 214) (codes "m") (expr.Binary (at 10 29 218) binary.Add (expr.Name (at 10 29 218) (codes "m")) (expr.Literal (at 10 33 222) (val.Int (pos 10)))) ∷ [])) ∷ []) (node.Element (at 10 37 226) (codes "k-k") (attribute (at 10 42 231) (codes "change") (form.Listener (stmt.Set (at 10 52 241) (codes "m") (expr.Binary (at 10 56 245) binary.Div (expr.Literal (at 10 56 245) (val.Int (pos 1))) (expr.Name (at 10 60 249) (codes "m"))) ∷ [])) ∷ []) [] ∷ node.Text (at 10 69 258) (piece.Value (at 10 69 258) (expr.Name (at 10 72 261) (codes "m")) ∷ []) ∷ []) ∷ [])) ∷ decl.Bootstrap (at 12 1 274) (codes "R") None ∷ [] }

-- a component that emits where content of it is clicked:
--     component K {
--       selector 'k-k';
--       output change;
--       field n = 0;
--       template `<u (click)="n = n + 1; change.emit(n)"><ng-content></ng-content>{{ n }}</u>`;
--     }
--     component R {
--       selector 'r-r';
--       field m = 0;
--       template `<p (click)="m = m + 5"><k-k (change)="m = m * 10"><b (click)="m = m + 1">{{ m }}</b></k-k></p>`;
--     }
--     bootstrap R;
abbrev pub emitting_content : App
emitting_content = record { decls = decl.Component (component (at 1 1 0) (codes "K") (selector (one (Some (codes "k-k")) [] ∷ [])) false (member (at 3 3 34) (codes "change") kind.Output ∷ member (at 4 3 51) (codes "n") (kind.Field (val.Int (pos 0))) ∷ []) (at 5 13 76) (node.Element (at 5 13 76) (codes "u") (attribute (at 5 16 79) (codes "click") (form.Listener (stmt.Set (at 5 25 88) (codes "n") (expr.Binary (at 5 29 92) binary.Add (expr.Name (at 5 29 92) (codes "n")) (expr.Literal (at 5 33 96) (val.Int (pos 1)))) ∷ stmt.Send (at 5 36 99) (owner.Name (at 5 36 99) (codes "change")) (codes "emit") (expr.Name (at 5 48 111) (codes "n") ∷ []) ∷ [])) ∷ []) (node.Element (at 5 52 115) (codes "ng-content") [] [] ∷ node.Text (at 5 77 140) (piece.Value (at 5 77 140) (expr.Name (at 5 80 143) (codes "n")) ∷ []) ∷ []) ∷ [])) ∷ decl.Component (component (at 7 1 156) (codes "R") (selector (one (Some (codes "r-r")) [] ∷ [])) false (member (at 9 3 190) (codes "m") (kind.Field (val.Int (pos 0))) ∷ []) (at 10 13 215) (node.Element (at 10 13 215) (codes "p") (attribute (at 10 16 218) (codes "click") (form.Listener (stmt.Set (at 10 25 227) (codes "m") (expr.Binary (at 10 29 231) binary.Add (expr.Name (at 10 29 231) (codes "m")) (expr.Literal (at 10 33 235) (val.Int (pos 5)))) ∷ [])) ∷ []) (node.Element (at 10 36 238) (codes "k-k") (attribute (at 10 41 243) (codes "change") (form.Listener (stmt.Set (at 10 51 253) (codes "m") (expr.Binary (at 10 55 257) binary.Mul (expr.Name (at 10 55 257) (codes "m")) (expr.Literal (at 10 59 261) (val.Int (pos 10)))) ∷ [])) ∷ []) (node.Element (at 10 63 265) (codes "b") (attribute (at 10 66 268) (codes "click") (form.Listener (stmt.Set (at 10 75 277) (codes "m") (expr.Binary (at 10 79 281) binary.Add (expr.Name (at 10 79 281) (codes "m")) (expr.Literal (at 10 83 285) (val.Int (pos 1)))) ∷ [])) ∷ []) (node.Text (at 10 86 288) (piece.Value (at 10 86 288) (expr.Name (at 10 89 291) (codes "m")) ∷ []) ∷ []) ∷ []) ∷ []) ∷ [])) ∷ decl.Bootstrap (at 12 1 314) (codes "R") None ∷ [] }

-- a template that stands in one element and is shown in another, both of which listen:
--     component R {
--       selector 'r-r';
--       field n = 0;
--       template `<i (click)="n = n + 100"><ng-template #t><b (click)="n = n + 1">{{ n }}</b></ng-template></i><p (click)="n = n + 10"><ng-container [ngTemplateOutlet]="t"></ng-container></p>`;
--     }
--     bootstrap R;
abbrev pub outlet_on_the_way : App
outlet_on_the_way = record { decls = decl.Component (component (at 1 1 0) (codes "R") (selector (one (Some (codes "r-r")) [] ∷ [])) false (member (at 3 3 34) (codes "n") (kind.Field (val.Int (pos 0))) ∷ []) (at 4 13 59) (node.Element (at 4 13 59) (codes "i") (attribute (at 4 16 62) (codes "click") (form.Listener (stmt.Set (at 4 25 71) (codes "n") (expr.Binary (at 4 29 75) binary.Add (expr.Name (at 4 29 75) (codes "n")) (expr.Literal (at 4 33 79) (val.Int (pos 100)))) ∷ [])) ∷ []) (node.Element (at 4 38 84) (codes "ng-template") (attribute (at 4 51 97) (codes "t") form.Reference ∷ []) (node.Element (at 4 54 100) (codes "b") (attribute (at 4 57 103) (codes "click") (form.Listener (stmt.Set (at 4 66 112) (codes "n") (expr.Binary (at 4 70 116) binary.Add (expr.Name (at 4 70 116) (codes "n")) (expr.Literal (at 4 74 120) (val.Int (pos 1)))) ∷ [])) ∷ []) (node.Text (at 4 77 123) (piece.Value (at 4 77 123) (expr.Name (at 4 80 126) (codes "n")) ∷ []) ∷ []) ∷ []) ∷ []) ∷ node.Element (at 4 106 152) (codes "p") (attribute (at 4 109 155) (codes "click") (form.Listener (stmt.Set (at 4 118 164) (codes "n") (expr.Binary (at 4 122 168) binary.Add (expr.Name (at 4 122 168) (codes "n")) (expr.Literal (at 4 126 172) (val.Int (pos 10)))) ∷ [])) ∷ []) (node.Element (at 4 130 176) (codes "ng-container") (attribute (at 4 144 190) (codes "ngTemplateOutlet") (form.Outlet (outlet.Name (at 4 164 210) (codes "t"))) ∷ []) [] ∷ []) ∷ [])) ∷ decl.Bootstrap (at 6 1 237) (codes "R") None ∷ [] }

-- rows inside a paragraph that listens:
--     component R {
--       selector 'r-r';
--       field xs = [7, 8, 9];
--       field n = 0;
--       template `<p (click)="n = n * 10">@for (x of xs; track x) {<b (click)="n = n + $index">{{ x }}</b>}</p>{{ n }}`;
--     }
--     bootstrap R;
abbrev pub rows_on_the_way : App
rows_on_the_way = record { decls = decl.Component (component (at 1 1 0) (codes "R") (selector (one (Some (codes "r-r")) [] ∷ [])) false (member (at 3 3 34) (codes "xs") (kind.Field (val.List (plain.Int (pos 7) ∷ plain.Int (pos 8) ∷ plain.Int (pos 9) ∷ []))) ∷ member (at 4 3 58) (codes "n") (kind.Field (val.Int (pos 0))) ∷ []) (at 5 13 83) (node.Element (at 5 13 83) (codes "p") (attribute (at 5 16 86) (codes "click") (form.Listener (stmt.Set (at 5 25 95) (codes "n") (expr.Binary (at 5 29 99) binary.Mul (expr.Name (at 5 29 99) (codes "n")) (expr.Literal (at 5 33 103) (val.Int (pos 10)))) ∷ [])) ∷ []) (node.For (at 5 37 107) (for_head (codes "x") (expr.Name (at 5 48 118) (codes "xs")) (Some (expr.Name (at 5 58 128) (codes "x"))) []) (node.Element (at 5 62 132) (codes "b") (attribute (at 5 65 135) (codes "click") (form.Listener (stmt.Set (at 5 74 144) (codes "n") (expr.Binary (at 5 78 148) binary.Add (expr.Name (at 5 78 148) (codes "n")) (expr.Name (at 5 82 152) (codes "$index"))) ∷ [])) ∷ []) (node.Text (at 5 90 160) (piece.Value (at 5 90 160) (expr.Name (at 5 93 163) (codes "x")) ∷ []) ∷ []) ∷ []) None ∷ []) ∷ node.Text (at 5 106 176) (piece.Value (at 5 106 176) (expr.Name (at 5 109 179) (codes "n")) ∷ []) ∷ [])) ∷ decl.Bootstrap (at 7 1 188) (codes "R") None ∷ [] }

-- an element inside one of its own tag:
--     component R {
--       selector 'r-r';
--       field n = 0;
--       template `<b (click)="n = n + 1"><b (click)="n = n * 10 + 2">x</b></b>{{ n }}`;
--     }
--     bootstrap R;
abbrev pub nested_tags : App
nested_tags = record { decls = decl.Component (component (at 1 1 0) (codes "R") (selector (one (Some (codes "r-r")) [] ∷ [])) false (member (at 3 3 34) (codes "n") (kind.Field (val.Int (pos 0))) ∷ []) (at 4 13 59) (node.Element (at 4 13 59) (codes "b") (attribute (at 4 16 62) (codes "click") (form.Listener (stmt.Set (at 4 25 71) (codes "n") (expr.Binary (at 4 29 75) binary.Add (expr.Name (at 4 29 75) (codes "n")) (expr.Literal (at 4 33 79) (val.Int (pos 1)))) ∷ [])) ∷ []) (node.Element (at 4 36 82) (codes "b") (attribute (at 4 39 85) (codes "click") (form.Listener (stmt.Set (at 4 48 94) (codes "n") (expr.Binary (at 4 52 98) binary.Add (expr.Binary (at 4 52 98) binary.Mul (expr.Name (at 4 52 98) (codes "n")) (expr.Literal (at 4 56 102) (val.Int (pos 10)))) (expr.Literal (at 4 61 107) (val.Int (pos 2)))) ∷ [])) ∷ []) (node.Text (at 4 64 110) (piece.Text (codes "x") ∷ []) ∷ []) ∷ []) ∷ node.Text (at 4 73 119) (piece.Value (at 4 73 119) (expr.Name (at 4 76 122) (codes "n")) ∷ []) ∷ [])) ∷ decl.Bootstrap (at 6 1 131) (codes "R") None ∷ [] }

-- two listeners that go down 63 calls:
--     component R {
--       selector 'r-r';
--       method m(k) { if (k > 0) { m(k - 1); } }
--       field n = 0;
--       template `<p (click)="m(62); n = n + 10"><b (click)="m(62); n = n + 1">{{ n }}</b></p>`;
--     }
--     bootstrap R;
abbrev pub deep_listeners : App
deep_listeners = record { decls = decl.Component (component (at 1 1 0) (codes "R") (selector (one (Some (codes "r-r")) [] ∷ [])) false (member (at 3 3 34) (codes "m") (kind.Method (codes "k" ∷ []) (stmt.If (at 3 17 48) (expr.Binary (at 3 21 52) binary.Gt (expr.Name (at 3 21 52) (codes "k")) (expr.Literal (at 3 25 56) (val.Int (pos 0)))) (stmt.Do (at 3 30 61) (codes "m") (expr.Binary (at 3 32 63) binary.Sub (expr.Name (at 3 32 63) (codes "k")) (expr.Literal (at 3 36 67) (val.Int (pos 1))) ∷ []) ∷ []) [] ∷ [])) ∷ member (at 4 3 77) (codes "n") (kind.Field (val.Int (pos 0))) ∷ []) (at 5 13 102) (node.Element (at 5 13 102) (codes "p") (attribute (at 5 16 105) (codes "click") (form.Listener (stmt.Do (at 5 25 114) (codes "m") (expr.Literal (at 5 27 116) (val.Int (pos 62)) ∷ []) ∷ stmt.Set (at 5 32 121) (codes "n") (expr.Binary (at 5 36 125) binary.Add (expr.Name (at 5 36 125) (codes "n")) (expr.Literal (at 5 40 129) (val.Int (pos 10)))) ∷ [])) ∷ []) (node.Element (at 5 44 133) (codes "b") (attribute (at 5 47 136) (codes "click") (form.Listener (stmt.Do (at 5 56 145) (codes "m") (expr.Literal (at 5 58 147) (val.Int (pos 62)) ∷ []) ∷ stmt.Set (at 5 63 152) (codes "n") (expr.Binary (at 5 67 156) binary.Add (expr.Name (at 5 67 156) (codes "n")) (expr.Literal (at 5 71 160) (val.Int (pos 1)))) ∷ [])) ∷ []) (node.Text (at 5 74 163) (piece.Value (at 5 74 163) (expr.Name (at 5 77 166) (codes "n")) ∷ []) ∷ []) ∷ []) ∷ [])) ∷ decl.Bootstrap (at 7 1 183) (codes "R") None ∷ [] }
