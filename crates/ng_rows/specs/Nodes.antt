-- Live nodes that the page doesn't tell of.
use Rattle.std.specs.Prelude.{List, [], ◌∷◌, map, false, Option, Some, None, codes}
use Rattle.ng_values.specs.declared.value.Value.TheVariants as val
use Rattle.ng_ast.specs.declared.App.{App}
use Rattle.ng_ast.specs.declared.Expr.TheVariants as expr
use Rattle.ng_ast.specs.declared.Stmt.TheVariants as stmt
use Rattle.ng_ast.specs.declared.Piece.TheVariants as piece
use Rattle.ng_ast.specs.declared.AttrForm.TheVariants as form
use Rattle.ng_ast.specs.declared.TNode.TheVariants as node
use Rattle.ng_ast.specs.declared.MemberKind.TheVariants as kind
use Rattle.ng_ast.specs.declared.Decl.TheVariants as decl
use Rattle.ng_tree.specs.declared.NodeId.{NodeId}
use Rattle.ng_turns.specs.declared.Event.{Event}
use Rattle.ng_meaning.specs.Lists.{Text}
use Rattle.ng_meaning.specs.Attributes.{Attributes}
use Rattle.ng_meaning.specs.Runs.{run}
use Rattle.ng_meaning.specs.Operations.{PageNode, MadeElement, live_node}
use Rattle.ng_rows.specs.Build.{at, attribute, one, selector, member, component}

-- an attribute that is absent at first:
--     component R {
--       selector 'r-r';
--       field t = null;
--       template `<b title="x" [id]="t" (click)="t = 'a'">z</b>`;
--     }
--     bootstrap R;
abbrev pub absent_attribute : App
absent_attribute = record { decls = decl.Component (component (at 1 1 0) (codes "R") (selector (one (Some (codes "r-r")) [] ∷ [])) false (member (at 3 3 34) (codes "t") (kind.Field val.Null) ∷ []) (at 4 13 62) (node.Element (at 4 13 62) (codes "b") (attribute (at 4 16 65) (codes "title") (form.Static (codes "x")) ∷ attribute (at 4 26 75) (codes "id") (form.Property (expr.Name (at 4 32 81) (codes "t"))) ∷ attribute (at 4 35 84) (codes "click") (form.Listener (stmt.Set (at 4 44 93) (codes "t") (expr.Literal (at 4 48 97) (val.Text (codes "a"))) ∷ [])) ∷ []) (node.Text (at 4 53 102) (piece.Text (codes "z") ∷ []) ∷ []) ∷ [])) ∷ decl.Bootstrap (at 6 1 112) (codes "R") None ∷ [] }

-- content that no slot shows:
--     component K {
--       selector 'k-k';
--       template `k`;
--     }
--     component R {
--       selector 'r-r';
--       template `<k-k><i>in</i></k-k>`;
--     }
--     bootstrap R;
abbrev pub unshown_content : App
unshown_content = record { decls = decl.Component (component (at 1 1 0) (codes "K") (selector (one (Some (codes "k-k")) [] ∷ [])) false [] (at 3 13 44) (node.Text (at 3 13 44) (piece.Text (codes "k") ∷ []) ∷ [])) ∷ decl.Component (component (at 5 1 50) (codes "R") (selector (one (Some (codes "r-r")) [] ∷ [])) false [] (at 7 13 94) (node.Element (at 7 13 94) (codes "k-k") [] (node.Element (at 7 18 99) (codes "i") [] (node.Text (at 7 21 102) (piece.Text (codes "in") ∷ []) ∷ []) ∷ []) ∷ [])) ∷ decl.Bootstrap (at 9 1 119) (codes "R") None ∷ [] }

-- the live node of an identity after each turn of a run
abbrev pub live_nodes : App → List Event → NodeId → List (Option (PageNode NodeId))
live_nodes app es i = map (λ t. live_node app t.state.tree i) (run app es).turns

-- an element, with its tag, its attributes and its children
abbrev pub element : Text → Attributes → List NodeId → Option (PageNode NodeId)
element tag attrs children = Some (record { what = MadeElement tag attrs; children = children })
