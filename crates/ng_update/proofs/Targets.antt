-- The target of a click, and its listener.
use Rattle.std.proofs.Common.{◌≡◌, ℕ, zero, suc, ◌+◌, List, [], ◌∷◌, ◌++◌, length, slice_get, Bool, true, false, ◌&&◌, IsTrue, Option, Some, None, option_and_then, codes, refl, sym, ap, ◌∙◌, arith, append_assoc, append-nil, length-append}
use Rattle.std.specs.List.{flat_map, filter_map, list_all, cons_option}
use Rattle.std.specs.Str.{bytes_eq}
use Rattle.std.proofs.lemmas.Bool.{and_parts}
use Rattle.std.proofs.lemmas.Grind.{flat_map-append}
use Rattle.std.proofs.lemmas.List.Folds.{flat_map-map}
use Rattle.ng_ast.specs.declared.Place.{Place}
use Rattle.ng_ast.specs.declared.AttrForm.{AttrForm}
use Rattle.ng_ast.specs.declared.AttrForm.TheVariants as form
use Rattle.ng_ast.specs.declared.Component.{Component}
use Rattle.ng_ast.specs.declared.Stmt.{Stmt, out-Stmt}
use Rattle.ng_ast.specs.declared.TAttr.{TAttr}
use Rattle.ng_ast.specs.declared.TNode.{TNode, out-TNode}
use Rattle.ng_ast.specs.declared.TNode.TheOpen.{TNode-F}
use Rattle.ng_ast.specs.declared.Branch.{Branch}
use Rattle.ng_tree.specs.declared.NodeId.{NodeId}
use Rattle.ng_tree.specs.declared.NodeId.TheVariants as id
use Rattle.ng_tree.specs.declared.PNode.{PNode}
use Rattle.ng_tree.specs.declared.PNode.TheVariants as pnode
use Rattle.ng_tree.specs.declared.PNode.TheOpen.{PNode-F}
use Rattle.ng_tree.specs.declared.PNode.TheFolds.{fold-roll-PNode}
use Rattle.ng_semantics.specs.Text.{Text, head_of}
use Rattle.ng_semantics.specs.Declared.{tag_of}
use Rattle.ng_semantics.specs.Meaning.{World}
use Rattle.ng_semantics.specs.Template.{nesting, in_order, inside}
use Rattle.ng_semantics.specs.Tree.{node_shown, side_by_side, grow, pieces_text}
use Rattle.ng_semantics.specs.Events.{NoListener, elements, elements_step, of_tag, nth, listener_in, listener_of, listened, reached}
use Rattle.ng_semantics.specs.First.{IsFirst, names_of, is_first_statement, is_click, is_first_node, are_first_nodes, are_first_attributes, is_element_tag}
use Rattle.ng_update.specs.Clicked.{attributes_at, attributes_among, click_in, clicked}
use Rattle.ng_update.specs.Running.{click_on}
use Rattle.ng_update.proofs.Nodes.{in_order_nil}

-- ---- the elements of a page

elements-Element : (i : NodeId) (tag : Text) (attrs : List (Text × Text)) (children : List PNode) → elements (pnode.Element i tag attrs children) ≡ (tag, i) ∷ flat_map elements children
elements-Element i tag attrs children =
    ap elements (sym (pnode.rolls-Element i tag attrs children)) ∙ fold-roll-PNode (List (Text × NodeId)) elements_step (PNode-F.Element i tag attrs children)
    ∙ ap (λ es. (tag, i) ∷ es) (flat_map-map (λ es. es) elements children)

elements-Host : (i : NodeId) (tag : Text) (attrs : List (Text × Text)) (children : List PNode) → elements (pnode.Host i tag attrs children) ≡ (tag, i) ∷ flat_map elements children
elements-Host i tag attrs children =
    ap elements (sym (pnode.rolls-Host i tag attrs children)) ∙ fold-roll-PNode (List (Text × NodeId)) elements_step (PNode-F.Host i tag attrs children)
    ∙ ap (λ es. (tag, i) ∷ es) (flat_map-map (λ es. es) elements children)

elements-Text : (i : NodeId) (t : Text) → elements (pnode.Text i t) ≡ []
elements-Text i t = ap elements (sym (pnode.rolls-Text i t)) ∙ fold-roll-PNode (List (Text × NodeId)) elements_step (PNode-F.Text i t)

-- a node with its number, if it is an element
abbrev named_at : ℕ → TNode-F TNode Branch → List (Text × NodeId)
named_at n (TNode-F.Element place tag attrs nodes) = (tag, id.At [] n) ∷ []
named_at n _ = []

abbrev numbered : ℕ → List TNode → List (Text × NodeId)
numbered n [] = []
numbered n (node ∷ rest) = named_at n (out-TNode node) ++ numbered (n + 1) rest

numbered-append : (n m : ℕ) (xs ys : List TNode) → m ≡ n + length xs → numbered n (xs ++ ys) ≡ numbered n xs ++ numbered m ys
numbered-append n m [] ys e = ap (λ k. numbered k ys) (omega arith)
numbered-append n m (x ∷ xs) ys e =
    ap (λ es. named_at n (out-TNode x) ++ es) (numbered-append (n + 1) m xs ys (omega arith)) ∙ sym (append_assoc (named_at n (out-TNode x)) (numbered (n + 1) xs) (numbered m ys))

module _ (names : List Text) (d : ℕ) (world : World) (go : (n : ℕ) (nodes : List TNode) → IsTrue (are_first_nodes names d nodes) → flat_map elements (grow d world n nodes) ≡ numbered n (in_order d nodes)) where
  one : (n : ℕ) (l : TNode-F TNode Branch) → IsTrue (is_first_node names (are_first_nodes names d) l)
      → flat_map elements (node_shown (grow d world) world n l) ≡ named_at n l ++ numbered (n + 1) (in_order d (inside l))
  one n (TNode-F.Element place tag attrs nodes) h =
      let parts = and_parts (is_element_tag tag && are_first_attributes names attrs) (are_first_nodes names d nodes) h in
      append-nil _ ∙ elements-Element (id.At [] n) tag [] (grow d world (n + 1) nodes) ∙ ap (λ es. (tag, id.At [] n) ∷ es) (go (n + 1) nodes parts.1)
  one n (TNode-F.Text place pieces) h = append-nil _ ∙ elements-Text (id.At [] n) (pieces_text world pieces) ∙ sym (ap (numbered (n + 1)) (in_order_nil d))
  one n (TNode-F.If place branches) h = cc
  one n (TNode-F.For place head nodes empty) h = cc
  one n (TNode-F.Switch place value branches) h = cc
  one n (TNode-F.Let place name value) h = cc

  beside : (n : ℕ) (nodes : List TNode) → IsTrue (list_all (λ node. is_first_node names (are_first_nodes names d) (out-TNode node)) nodes)
      → flat_map elements (side_by_side (λ m node. node_shown (grow d world) world m (out-TNode node)) (λ node. length (in_order (suc d) (node ∷ []))) n nodes)
      ≡ numbered n (flat_map (λ node. node ∷ in_order d (inside (out-TNode node))) nodes)
  unfolding in_order
  beside n [] h = refl
  beside n (node ∷ rest) h =
      let parts = and_parts (is_first_node names (are_first_nodes names d) (out-TNode node)) (list_all (λ node. is_first_node names (are_first_nodes names d) (out-TNode node)) rest) h in
      let here = node ∷ in_order d (inside (out-TNode node)) in
      let next = n + length (in_order (suc d) (node ∷ [])) in
      let size : next ≡ n + length here = ap (λ ns. n + length ns) (append-nil here) in
      flat_map-append elements (node_shown (grow d world) world n (out-TNode node)) _
      ∙ (λ i. one n (out-TNode node) parts.0 i ++ beside next rest parts.1 i)
      ∙ sym (numbered-append n next here (flat_map (λ node. node ∷ in_order d (inside (out-TNode node))) rest) size)

elements_grown : (names : List Text) (d : ℕ) (world : World) (n : ℕ) (nodes : List TNode) → IsTrue (are_first_nodes names d nodes) → flat_map elements (grow d world n nodes) ≡ numbered n (in_order d nodes)
unfolding grow in_order are_first_nodes
elements_grown names zero world n nodes h = refl
elements_grown names (suc d) world n nodes h = beside names d world (elements_grown names d world) n nodes h

-- ---- the first of a tag

slice_get_here : {X : Type 0} (before : List X) (x : X) (rest : List X) → slice_get (before ++ x ∷ rest) (length before) ≡ Some x
slice_get_here [] x rest = refl
slice_get_here (y ∷ before) x rest = slice_get_here before x rest

module _ (c : Component) (world : World) (tag : Text) where
  meets_one : (b : Bool) (n : ℕ) (place : Place) (name : Text) (attrs : List TAttr) (nodes : List TNode) (node : TNode) (later : List NodeId) (found : List (List TAttr))
      → out-TNode node ≡ TNode-F.Element place name attrs nodes → slice_get (in_order nesting c.template.nodes) n ≡ Some node
      → reached c (codes "click") world (head_of later) ≡ clicked world (head_of found)
      → reached c (codes "click") world (head_of (cons_option (elim b as (λ _. Option NodeId) [ true ↦ Some (id.At [] n) | false ↦ None ]) later))
      ≡ clicked world (head_of (cons_option (elim b as (λ _. Option (List TAttr)) [ true ↦ Some attrs | false ↦ None ]) found))
  meets_one true n place name attrs nodes node later found is at go =
      ap (λ o. listened world (option_and_then (λ (k : TNode). listener_of (codes "click") (out-TNode k)) o)) at
      ∙ ap (λ l. listened world (listener_of (codes "click") l)) is
  meets_one false n place name attrs nodes node later found is at go = go

  meets_node : (l : TNode-F TNode Branch) (n : ℕ) (node : TNode) (later : List (Text × NodeId)) (found : List (List TAttr)) → out-TNode node ≡ l
      → slice_get (in_order nesting c.template.nodes) n ≡ Some node
      → reached c (codes "click") world (head_of (filter_map (of_tag tag) later)) ≡ clicked world (head_of found)
      → reached c (codes "click") world (head_of (filter_map (of_tag tag) (named_at n l ++ later))) ≡ clicked world (head_of (cons_option (attributes_at tag l) found))
  meets_node (TNode-F.Element place name attrs nodes) n node later found is at go = meets_one (bytes_eq tag name) n place name attrs nodes node (filter_map (of_tag tag) later) found is at go
  meets_node (TNode-F.Text place pieces) n node later found is at go = go
  meets_node (TNode-F.If place branches) n node later found is at go = go
  meets_node (TNode-F.For place head nodes empty) n node later found is at go = go
  meets_node (TNode-F.Switch place value branches) n node later found is at go = go
  meets_node (TNode-F.Let place name value) n node later found is at go = go

  meets : (n : ℕ) (before rest : List TNode) → in_order nesting c.template.nodes ≡ before ++ rest → n ≡ length before
      → reached c (codes "click") world (head_of (filter_map (of_tag tag) (numbered n rest))) ≡ clicked world (attributes_among tag rest)
  meets n before [] e size = refl
  meets n before (node ∷ rest) e size =
      let at : slice_get (in_order nesting c.template.nodes) n ≡ Some node = (λ j. slice_get (e j) (size j)) ∙ slice_get_here before node rest in
      let more : n + 1 ≡ length (before ++ node ∷ []) = omega (arith, length-append before (node ∷ [])) in
      meets_node (out-TNode node) n node (numbered (n + 1) rest) (filter_map (λ k. attributes_at tag (out-TNode k)) rest) refl at
      (meets (n + 1) (before ++ node ∷ []) rest (e ∙ sym (append_assoc before (node ∷ []) rest)) more)

nth_one : {A : Type 0} (xs : List A) → nth 1 xs ≡ head_of xs
nth_one [] = refl
nth_one (x ∷ xs) = refl

-- the elements of the page
module _ (c : Component) (world : World) (tag : Text) (first : IsFirst c) where
  aims : click_on (record { component = c; world = world }) tag
      ≡ reached c (codes "click") world (head_of (cons_option (of_tag tag (tag_of c, id.Root)) (filter_map (of_tag tag) (numbered 0 (in_order nesting c.template.nodes)))))
  aims =
      ap (reached c (codes "click") world)
      (nth_one _ ∙ ap (λ es. head_of (filter_map (of_tag tag) es))
      (elements-Host id.Root (tag_of c) [] (grow nesting world 0 c.template.nodes)
      ∙ ap (λ es. (tag_of c, id.Root) ∷ es) (elements_grown (names_of c.members) nesting world 0 c.template.nodes first.template)))

  pub click_root : bytes_eq tag (tag_of c) ≡ true → click_on (record { component = c; world = world }) tag ≡ record { outcome = NoListener; world = world }
  click_root is =
      aims ∙ ap (λ b. reached c (codes "click") world (head_of (cons_option (elim b as (λ _. Option NodeId) [ true ↦ Some id.Root | false ↦ None ]) (filter_map (of_tag tag) (numbered 0 (in_order nesting c.template.nodes)))))) is

  pub click_inside : bytes_eq tag (tag_of c) ≡ false → click_on (record { component = c; world = world }) tag ≡ clicked world (attributes_among tag (in_order nesting c.template.nodes))
  click_inside is =
      aims ∙ ap (λ b. reached c (codes "click") world (head_of (cons_option (elim b as (λ _. Option NodeId) [ true ↦ Some id.Root | false ↦ None ]) (filter_map (of_tag tag) (numbered 0 (in_order nesting c.template.nodes)))))) is
      ∙ meets c world tag 0 [] (in_order nesting c.template.nodes) refl refl

-- ---- the listener

module _ (names : List Text) (attr : TAttr) (body : List Stmt) where
  first_body : (b : Bool) (ss : List Stmt) → IsTrue (list_all (λ s. is_first_statement names (out-Stmt s)) ss)
      → head_of (cons_option (elim b as (λ _. Option (List Stmt)) [ true ↦ Some ss | false ↦ None ]) []) ≡ Some body → IsTrue (list_all (λ s. is_first_statement names (out-Stmt s)) body)
  first_body true ss h e = (let same : ss ≡ body = cc in ap (list_all (λ s. is_first_statement names (out-Stmt s))) (sym same) ∙ h)
  first_body false ss h e = cc

  first_listener : (f : AttrForm) → IsTrue (is_click names attr f) → head_of (cons_option (listener_in (codes "click") attr f) []) ≡ Some body
      → IsTrue (list_all (λ s. is_first_statement names (out-Stmt s)) body)
  first_listener (form.Listener ss) h e = first_body (bytes_eq (codes "click") attr.name) ss (and_parts _ (list_all (λ s. is_first_statement names (out-Stmt s)) ss) h).1 e
  first_listener _ h e = cc

pub listener_first : (names : List Text) (attrs : List TAttr) (body : List Stmt) → IsTrue (are_first_attributes names attrs) → click_in attrs ≡ Some body
    → IsTrue (list_all (λ s. is_first_statement names (out-Stmt s)) body)
listener_first names [] body h e = cc
listener_first names (attr ∷ []) body h e = first_listener names attr body attr.form h e
listener_first names (attr ∷ other ∷ attrs) body h e = cc
