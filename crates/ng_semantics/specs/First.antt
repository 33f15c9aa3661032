-- The first form of an application: one component whose fields are whole numbers, and a template of elements and texts
-- that shows fields and assigns to them at clicks.
use Rattle.std.specs.Prelude.{◌≡◌, ℕ, zero, suc, ◌+◌, ◌≤◌, pos, ◌⊎◌, Bool, true, false, not, ◌&&◌, ◌||◌, ◌==◌, nat_le, nat_eq, IsTrue, List, [], ◌∷◌, map, length, Some, None, codes}
use Rattle.std.specs.List.{list_any, list_all, starts_with}
use Rattle.std.specs.Str.{bytes_eq}
use Rattle.ng_values.specs.declared.value.Value.TheVariants as value
use Rattle.ng_ast.specs.declared.App.{App}
use Rattle.ng_ast.specs.declared.Place.{Place}
use Rattle.ng_ast.specs.declared.Decl.TheVariants as decl
use Rattle.ng_ast.specs.declared.Component.{Component}
use Rattle.ng_ast.specs.declared.Member.{Member}
use Rattle.ng_ast.specs.declared.MemberKind.{MemberKind}
use Rattle.ng_ast.specs.declared.MemberKind.TheVariants as kind
use Rattle.ng_ast.specs.declared.Expr.{Expr, out-Expr}
use Rattle.ng_ast.specs.declared.Expr.TheOpen.{Expr-F}
use Rattle.ng_ast.specs.declared.Binary.TheVariants as binary
use Rattle.ng_ast.specs.declared.Stmt.{Stmt, out-Stmt}
use Rattle.ng_ast.specs.declared.Stmt.TheOpen.{Stmt-F}
use Rattle.ng_ast.specs.declared.Piece.{Piece}
use Rattle.ng_ast.specs.declared.Piece.TheVariants as piece
use Rattle.ng_ast.specs.declared.AttrForm.{AttrForm}
use Rattle.ng_ast.specs.declared.AttrForm.TheVariants as form
use Rattle.ng_ast.specs.declared.TAttr.{TAttr}
use Rattle.ng_ast.specs.declared.TNode.{TNode, out-TNode}
use Rattle.ng_ast.specs.declared.TNode.TheOpen.{TNode-F}
use Rattle.ng_ast.specs.declared.Branch.{Branch}
use Rattle.ng_semantics.specs.Text.{Text}
use Rattle.ng_semantics.specs.Html.{is_void}
use Rattle.ng_semantics.specs.Template.{in_order, nesting}

-- ---- tags

abbrev pub is_small_letter : ℕ → Bool
is_small_letter b = nat_le 97 b && nat_le b 122

abbrev pub is_digit : ℕ → Bool
is_digit b = nat_le 48 b && nat_le b 57

-- after the first letter of a tag
abbrev pub is_tag_byte : ℕ → Bool
is_tag_byte b = is_small_letter b || is_digit b || b == 45

-- A lower-case letter, and then lower-case letters, digits and dashes.
abbrev pub is_tag : Text → Bool
is_tag [] = false
is_tag (b ∷ rest) = is_small_letter b && list_all is_tag_byte rest

abbrev pub has_dash : Text → Bool
has_dash tag = list_any (λ b. b == 45) tag

-- The tag of a root: it has a dash, and doesn't begin as Angular's own elements do.
abbrev pub is_root_tag : Text → Bool
is_root_tag tag = is_tag tag && has_dash tag && not (starts_with nat_eq tag (codes "ng-"))

-- The tag of an element that is no component, isn't void, and isn't refused in templates.
abbrev pub is_element_tag : Text → Bool
is_element_tag tag = is_tag tag && not (has_dash tag) && not (is_void tag) && not (bytes_eq tag (codes "script")) && not (bytes_eq tag (codes "style"))

-- ---- fields

abbrev pub is_whole : MemberKind → Bool
is_whole (kind.Field (value.Int n)) = true
is_whole _ = false

abbrev pub has_name : Text → List Text → Bool
has_name name names = list_any (bytes_eq name) names

abbrev pub all_differ : List Text → Bool
all_differ [] = true
all_differ (name ∷ names) = not (has_name name names) && all_differ names

abbrev pub names_of : List Member → List Text
names_of members = map (λ m. m.name) members

-- ---- statements and texts over fields with these names

abbrev pub is_field : List Text → Expr-F Expr → Bool
is_field names (Expr-F.Name place name) = has_name name names
is_field names _ = false

abbrev pub is_number : Expr-F Expr → Bool
is_number (Expr-F.Literal place (value.Int (pos n))) = true
is_number _ = false

-- A number, a field, or a field and a number added.
abbrev pub is_first_value : List Text → Expr-F Expr → Bool
is_first_value names (Expr-F.Binary place binary.Add a b) = is_field names (out-Expr a) && is_number (out-Expr b)
is_first_value names e = is_field names e || is_number e

abbrev pub is_first_statement : List Text → Stmt-F Stmt → Bool
is_first_statement names (Stmt-F.Set place name e) = has_name name names && is_first_value names (out-Expr e)
is_first_statement names _ = false

-- One to 64 statements at a click.
abbrev pub is_click : List Text → TAttr → AttrForm → Bool
is_click names attr (form.Listener statements) =
    bytes_eq attr.name (codes "click") && nat_le 1 (length statements) && nat_le (length statements) 64 && list_all (λ s. is_first_statement names (out-Stmt s)) statements
is_click names attr _ = false

abbrev pub are_first_attributes : List Text → List TAttr → Bool
are_first_attributes names [] = true
are_first_attributes names (attr ∷ []) = is_click names attr attr.form
are_first_attributes names _ = false

abbrev pub is_first_piece : List Text → Piece → Bool
is_first_piece names (piece.Text t) = true
is_first_piece names (piece.Value place e) = is_field names (out-Expr e)

-- What a piece may add to its text: a number has at most 20 bytes.
abbrev pub piece_bytes : Piece → ℕ
piece_bytes (piece.Text t) = length t
piece_bytes (piece.Value place e) = 20

abbrev pub bytes_in : List Piece → ℕ
bytes_in [] = 0
bytes_in (p ∷ ps) = piece_bytes p + bytes_in ps

abbrev pub is_literal : List Piece → Bool
is_literal (piece.Text t ∷ []) = true
is_literal _ = false

-- A text is a literal, or no more than 65,535 bytes whatever the fields hold.
abbrev pub are_first_pieces : List Text → List Piece → Bool
are_first_pieces names pieces = list_all (is_first_piece names) pieces && (is_literal pieces || nat_le (bytes_in pieces) 65535)

-- ---- templates

abbrev pub is_first_node : List Text → (List TNode → Bool) → TNode-F TNode Branch → Bool
is_first_node names inner (TNode-F.Element place tag attrs nodes) = is_element_tag tag && are_first_attributes names attrs && inner nodes
is_first_node names inner (TNode-F.Text place pieces) = are_first_pieces names pieces
is_first_node names inner _ = false

-- Elements and texts alone, with elements in at most so many levels.
unfoldable pub are_first_nodes : List Text → ℕ → List TNode → Bool
are_first_nodes names zero nodes = false
are_first_nodes names (suc depth) nodes = list_all (λ node. is_first_node names (are_first_nodes names depth) (out-TNode node)) nodes

-- ---- the application

-- A component of the first form.
pub record IsFirst (c : Component) : Type 0 where
  pub checked_always : c.onpush ≡ false
  pub selector : (tag : Text) × (c.selector.list ≡ record { tag = Some tag; parts = [] } ∷ []) × IsTrue (is_root_tag tag)
  pub fields : IsTrue (list_all (λ m. is_whole m.kind) c.members)
  pub differ : IsTrue (all_differ (names_of c.members))
  pub template : IsTrue (are_first_nodes (names_of c.members) nesting c.template.nodes)
  pub few : length (in_order nesting c.template.nodes) ≤ 4096

-- The application is a component and a `bootstrap` of it, in either order.
abbrev pub IsAlone : App → Component → Type 0
IsAlone app c = (place : Place) × ((app.decls ≡ decl.Component c ∷ decl.Bootstrap place c.name None ∷ []) ⊎ (app.decls ≡ decl.Bootstrap place c.name None ∷ decl.Component c ∷ []))
