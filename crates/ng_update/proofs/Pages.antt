-- What a page prints is what its template prints.
use Rattle.std.proofs.Common.{◌≡◌, ℕ, zero, suc, ◌+◌, List, [], ◌∷◌, ◌++◌, map, length, false, not, ◌&&◌, IsTrue, inl, inr, if◌then◌else◌, refl, sym, ap, ◌∙◌, append_assoc, append-nil}
use Rattle.std.specs.List.{flat_map, list_all, list_any}
use Rattle.std.specs.Str.{bytes_eq}
use Rattle.std.proofs.lemmas.Bool.{cases_Bool, and_parts, not-true, both_ways}
use Rattle.std.proofs.lemmas.Grind.{flat_map-append}
use Rattle.std.proofs.lemmas.List.Folds.{flat_map-map}
use Rattle.std.proofs.lemmas.Slice.Eq.{bytes_eq-Decides}
use Rattle.ng_ast.specs.declared.TNode.{TNode, out-TNode}
use Rattle.ng_ast.specs.declared.TNode.TheOpen.{TNode-F}
use Rattle.ng_ast.specs.declared.Branch.{Branch}
use Rattle.ng_ast.specs.declared.Component.{Component}
use Rattle.ng_tree.specs.declared.NodeId.{NodeId}
use Rattle.ng_tree.specs.declared.NodeId.TheVariants as id
use Rattle.ng_tree.specs.declared.PNode.{PNode}
use Rattle.ng_tree.specs.declared.PNode.TheVariants as pnode
use Rattle.ng_tree.specs.declared.PNode.TheOpen.{PNode-F}
use Rattle.ng_tree.specs.declared.PNode.TheFolds.{fold-roll-PNode}
use Rattle.ng_semantics.specs.Text.{Text}
use Rattle.ng_semantics.specs.Declared.{tag_of}
use Rattle.ng_semantics.specs.Meaning.{World}
use Rattle.ng_semantics.specs.Template.{nesting, in_order}
use Rattle.ng_semantics.specs.Tree.{node_shown, side_by_side, grow, pieces_text}
use Rattle.ng_semantics.specs.Html.{html, html_step, element_text, start_tag, end_tag, escaped, is_void, void_tags}
use Rattle.ng_semantics.specs.First.{names_of, IsFirst, has_dash, is_root_tag, is_first_node, are_first_nodes, are_first_attributes, is_element_tag}
use Rattle.ng_update.specs.Printed.{node_printed, printed}
use Rattle.ng_update.specs.Running.{page_of}

html-Element : (i : NodeId) (tag : Text) (attrs : List (Text × Text)) (children : List PNode) → html (pnode.Element i tag attrs children) ≡ element_text tag attrs (map html children)
html-Element i tag attrs children = ap html (sym (pnode.rolls-Element i tag attrs children)) ∙ fold-roll-PNode Text html_step (PNode-F.Element i tag attrs children)

html-Host : (i : NodeId) (tag : Text) (attrs : List (Text × Text)) (children : List PNode) → html (pnode.Host i tag attrs children) ≡ element_text tag attrs (map html children)
html-Host i tag attrs children = ap html (sym (pnode.rolls-Host i tag attrs children)) ∙ fold-roll-PNode Text html_step (PNode-F.Host i tag attrs children)

html-Text : (i : NodeId) (t : Text) → html (pnode.Text i t) ≡ escaped t
html-Text i t = ap html (sym (pnode.rolls-Text i t)) ∙ fold-roll-PNode Text html_step (PNode-F.Text i t)

-- an element that isn't void
filled : (tag : Text) (children : List PNode) (inner : Text) → is_void tag ≡ false → flat_map html children ≡ inner
    → element_text tag [] (map html children) ≡ start_tag tag [] ++ inner ++ end_tag tag
filled tag children inner full e =
    ap (λ b. start_tag tag [] ++ (if b then [] else flat_map (λ t. t) (map html children) ++ end_tag tag)) full
    ∙ ap (λ ts. start_tag tag [] ++ (ts ++ end_tag tag)) (flat_map-map (λ t. t) html children ∙ e) ∙ sym (append_assoc (start_tag tag []) inner (end_tag tag))

element_full : (tag : Text) → IsTrue (is_element_tag tag) → is_void tag ≡ false
element_full tag h =
    let most = and_parts _ _ h in let more = and_parts _ _ most.0 in let void = and_parts _ _ more.0 in not-true (is_void tag) void.1

no_dash : (tag : Text) (tags : List Text) → IsTrue (has_dash tag) → IsTrue (list_all (λ t. not (has_dash t)) tags) → list_any (bytes_eq tag) tags ≡ false
no_dash tag [] dash none = refl
no_dash tag (t ∷ tags) dash none =
    let parts = and_parts _ _ none in
    elim (cases_Bool (bytes_eq tag t)) [
      | inl e ↦ absurd (both_ways (has_dash t) (not-true (has_dash t) parts.0) (ap has_dash (sym ((bytes_eq-Decides tag t).0 e)) ∙ dash))
      | inr e ↦ rw e (no_dash tag tags dash parts.1)
    ]

root_full : (tag : Text) → IsTrue (is_root_tag tag) → is_void tag ≡ false
root_full tag h = let most = and_parts _ _ h in let dash = and_parts _ _ most.0 in no_dash tag void_tags dash.1 refl

module _ (names : List Text) (d : ℕ) (world : World) (go : (n : ℕ) (nodes : List TNode) → IsTrue (are_first_nodes names d nodes) → flat_map html (grow d world n nodes) ≡ printed d world nodes) where
  one : (n : ℕ) (l : TNode-F TNode Branch) → IsTrue (is_first_node names (are_first_nodes names d) l)
      → flat_map html (node_shown (grow d world) world n l) ≡ node_printed (printed d world) world l
  one n (TNode-F.Element place tag attrs nodes) h =
      let parts = and_parts (is_element_tag tag && are_first_attributes names attrs) (are_first_nodes names d nodes) h in
      let tagged = and_parts (is_element_tag tag) (are_first_attributes names attrs) parts.0 in
      append-nil _ ∙ html-Element (id.At [] n) tag [] (grow d world (n + 1) nodes)
      ∙ filled tag (grow d world (n + 1) nodes) (printed d world nodes) (element_full tag tagged.0) (go (n + 1) nodes parts.1)
  one n (TNode-F.Text place pieces) h = append-nil _ ∙ html-Text (id.At [] n) (pieces_text world pieces)
  one n (TNode-F.If place branches) h = refl
  one n (TNode-F.For place head nodes empty) h = refl
  one n (TNode-F.Switch place value branches) h = refl
  one n (TNode-F.Let place name value) h = refl

  beside : (n : ℕ) (nodes : List TNode) → IsTrue (list_all (λ node. is_first_node names (are_first_nodes names d) (out-TNode node)) nodes)
      → flat_map html (side_by_side (λ m node. node_shown (grow d world) world m (out-TNode node)) (λ node. length (in_order (suc d) (node ∷ []))) n nodes)
      ≡ flat_map (λ node. node_printed (printed d world) world (out-TNode node)) nodes
  beside n [] h = refl
  beside n (node ∷ rest) h =
      let parts = and_parts (is_first_node names (are_first_nodes names d) (out-TNode node)) (list_all (λ node. is_first_node names (are_first_nodes names d) (out-TNode node)) rest) h in
      let next = n + length (in_order (suc d) (node ∷ [])) in
      flat_map-append html (node_shown (grow d world) world n (out-TNode node)) _
      ∙ (λ i. one n (out-TNode node) parts.0 i ++ beside next rest parts.1 i)

pub html_grown : (names : List Text) (d : ℕ) (world : World) (n : ℕ) (nodes : List TNode) → IsTrue (are_first_nodes names d nodes) → flat_map html (grow d world n nodes) ≡ printed d world nodes
unfolding grow printed are_first_nodes
html_grown names zero world n nodes h = refl
html_grown names (suc d) world n nodes h = beside names d world (html_grown names d world) n nodes h

-- the page of an application of the first form
pub html_page : (c : Component) (world : World) → IsFirst c
    → html (page_of (record { component = c; world = world })) ≡ start_tag (tag_of c) [] ++ printed nesting world c.template.nodes ++ end_tag (tag_of c)
html_page c world first =
    let full : is_void (tag_of c) ≡ false = rw first.selector.1 (root_full first.selector.0 first.selector.2) in
    let tree = grow nesting world 0 c.template.nodes in
    html-Host id.Root (tag_of c) [] tree
    ∙ filled (tag_of c) tree (printed nesting world c.template.nodes) full (html_grown (names_of c.members) nesting world 0 c.template.nodes first.template)
