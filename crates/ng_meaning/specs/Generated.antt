-- The generated application, with a list of N rows, and the lines that tell of its run.
use Rattle.std.specs.Prelude.{ℕ, zero, suc, pos, true, false, List, [], ◌∷◌, ◌++◌, map, length, Option, Some, None, codes}
use Rattle.std.specs.Fmt.{decimal}
use Rattle.std.specs.List.{sum}
use Rattle.ng_values.specs.declared.plain.Plain.TheVariants as plain
use Rattle.ng_values.specs.declared.value.Value.TheVariants as val
use Rattle.ng_ast.specs.declared.App.{App}
use Rattle.ng_ast.specs.declared.Place.{Place}
use Rattle.ng_ast.specs.declared.Component.{Component}
use Rattle.ng_ast.specs.declared.Selector.{Selector}
use Rattle.ng_ast.specs.declared.Expr.TheVariants as expr
use Rattle.ng_ast.specs.declared.Stmt.TheVariants as stmt
use Rattle.ng_ast.specs.declared.Piece.TheVariants as piece
use Rattle.ng_ast.specs.declared.AttrForm.TheVariants as form
use Rattle.ng_ast.specs.declared.TNode.TheVariants as node
use Rattle.ng_ast.specs.declared.MemberKind.TheVariants as kind
use Rattle.ng_ast.specs.declared.Decl.TheVariants as decl
use Rattle.ng_ast.specs.declared.Binary.TheVariants as binary
use Rattle.ng_turns.specs.declared.Event.{Event}
use Rattle.ng_turns.specs.declared.Event.TheVariants as event
use Rattle.ng_meaning.specs.Lists.{Text, last}
use Rattle.ng_meaning.specs.Places.{Trail}
use Rattle.ng_meaning.specs.Printing.{html}
use Rattle.ng_meaning.specs.Runs.{Turn, run_due}

-- Every part of the generated application has the first place of a file: no line of its run tells of a place.
abbrev pub at_first : Place
at_first = record { line = 1; column = 1; byte = 0 }

-- a selector of one tag
abbrev pub of_one_tag : Text → Selector
of_one_tag tag = record { list = record { tag = Some tag; parts = [] } ∷ [] }

-- the numbers from 1 to n
abbrev pub numbers : ℕ → List ℕ
numbers zero = []
numbers (suc n) = numbers n ++ suc n ∷ []

-- A row: it counts, by the value that it was given.
--     component Row {
--       selector 'g-row';
--       onpush;
--       required input v;
--       field n = 0;
--       template `<button (click)="n = n + v">{{ n }}</button>`;
--     }
abbrev pub row_component : Component
row_component = record {
  place = at_first;
  name = codes "Row";
  selector = of_one_tag (codes "g-row");
  onpush = true;
  members =
      record { place = at_first; name = codes "v"; kind = kind.Input true val.Null } ∷ record { place = at_first; name = codes "n"; kind = kind.Field (val.Int (pos 0)) } ∷ [];
  template = record {
    place = at_first;
    nodes =
        node.Element at_first (codes "button")
        (record {
          place = at_first;
          name = codes "click";
          form =
              form.Listener
              (stmt.Set at_first (codes "n") (expr.Binary at_first binary.Add (expr.Name at_first (codes "n")) (expr.Name at_first (codes "v"))) ∷ []);
        }
        ∷ [])
        (node.Text at_first (piece.Value at_first (expr.Name at_first (codes "n")) ∷ []) ∷ [])
        ∷ [];
  };
}

-- The list of the rows.
--     component Main {
--       selector 'g-main';
--       field xs = [1, 2, 3];
--       template `@for (x of xs; track x) {<g-row [v]="x"></g-row>}`;
--     }
abbrev pub main_component : ℕ → Component
main_component n = record {
  place = at_first;
  name = codes "Main";
  selector = of_one_tag (codes "g-main");
  onpush = false;
  members = record { place = at_first; name = codes "xs"; kind = kind.Field (val.List (map (λ k. plain.Int (pos k)) (numbers n))) } ∷ [];
  template = record {
    place = at_first;
    nodes =
        node.For at_first
        (record { row = codes "x"; list = expr.Name at_first (codes "xs"); track = Some (expr.Name at_first (codes "x")); vars = [] })
        (node.Element at_first (codes "g-row") (record { place = at_first; name = codes "v"; form = form.Property (expr.Name at_first (codes "x")) } ∷ []) [] ∷ []) None
        ∷ [];
  };
}

-- The generated application, here with three rows; its list has the numbers from 1 to n.
abbrev pub generated : ℕ → App
generated n = record { decls = decl.Component row_component ∷ decl.Component (main_component n) ∷ decl.Bootstrap at_first (codes "Main") None ∷ [] }

-- a click on each button, in order
abbrev pub clicks : ℕ → List Event
clicks n = map (λ k. event.On (codes "click") (codes "button") k val.Null) (numbers n)

-- how many instances a turn checked
abbrev pub checked_in : Option (List Trail) → ℕ
checked_in None = 0
checked_in (Some ps) = length ps

-- the bytes of the last page
abbrev pub last_page : Option Turn → Text
last_page None = []
last_page (Some t) = html t.page

-- The lines of a run of the generated application: how many rows it has, how many instances were checked and how many page nodes made over all passes, how
-- many bytes the last page has, and how many events there were.
abbrev pub summary : ℕ → List Turn → List Text
summary n ts =
    (codes "gen " ++ decimal n) ∷ (codes "checks " ++ decimal (sum (map (λ t. checked_in t.checked) ts))) ∷ (codes "made " ++ decimal (sum (map (λ t. t.made) ts)))
    ∷ (codes "bytes " ++ decimal (length (last_page (last ts)))) ∷ (codes "end " ++ decimal n) ∷ []

-- the five lines for n rows, over the run in which the instances alone are checked that are due; n is from 1 to 2,000
unfoldable pub generated_lines : ℕ → List Text
generated_lines n = summary n (run_due (generated n) (clicks n)).turns
