-- The attributes of the first element of a tag, node by node.
use Rattle.std.proofs.Common.{◌≡◌, ℕ, zero, suc, ◌+◌, ◌<◌, ◌≤◌, List, [], ◌∷◌, ◌++◌, length, get_or, drop, Bool, true, false, ◌&&◌, IsTrue, ◌⊎◌, inl, inr, Option, Some, None, refl, sym, ap, ◌∙◌}
use Rattle.std.specs.List.{filter_map, flat_map, list_all, cons_option}
use Rattle.std.specs.Str.{bytes_eq}
use Rattle.std.proofs.lemmas.Bool.{and_parts}
use Rattle.std.proofs.lemmas.List.Elements.{filter_map-append}
use Rattle.ng_ast.specs.declared.Place.{Place}
use Rattle.ng_ast.specs.declared.TAttr.{TAttr}
use Rattle.ng_ast.specs.declared.TNode.{TNode, out-TNode}
use Rattle.ng_ast.specs.declared.TNode.TheVariants as tnode
use Rattle.ng_ast.specs.declared.TNode.TheViews.{out-roll-TNode}
use Rattle.ng_ast.specs.declared.TNode.TheOpen.{TNode-F}
use Rattle.ng_ast.specs.declared.Branch.{Branch}
use Rattle.ng_semantics.specs.Text.{Text, head_of}
use Rattle.ng_semantics.specs.Template.{in_order, inside}
use Rattle.ng_semantics.specs.First.{is_first_node, are_first_nodes, are_first_attributes, is_element_tag}
use Rattle.ng_update.specs.Clicked.{attributes_at, attributes_among}
use Rattle.ng_update.proofs.Lists.{drop_at, drop_end, all_at, head_append_some, head_append_none}

pub in_order_nil : (d : ℕ) → in_order d [] ≡ []
unfolding in_order
in_order_nil zero = refl
in_order_nil (suc d) = refl

among_cons : (tag : Text) (d : ℕ) (node : TNode) (rest : List TNode)
    → attributes_among tag (in_order (suc d) (node ∷ rest)) ≡ head_of (filter_map (λ n. attributes_at tag (out-TNode n)) (node ∷ in_order d (inside (out-TNode node))) ++ filter_map (λ n. attributes_at tag (out-TNode n)) (in_order (suc d) rest))
unfolding in_order
among_cons tag d node rest =
    ap head_of (filter_map-append (λ n. attributes_at tag (out-TNode n)) (node ∷ in_order d (inside (out-TNode node))) (in_order (suc d) rest))

pub among_hit : (tag : Text) (n d : ℕ) (nodes : List TNode) (i : ℕ) (node : TNode) (attrs : List TAttr) → n ≡ suc d → i < length nodes → node ≡ get_or nodes i node
    → attributes_among tag (node ∷ in_order d (inside (out-TNode node))) ≡ Some attrs → attributes_among tag (in_order n (drop i nodes)) ≡ Some attrs
among_hit tag n d nodes i node attrs deep h is e =
    (λ j. attributes_among tag (in_order (deep j) (drop_at nodes i node h is j))) ∙ among_cons tag d node (drop (i + 1) nodes) ∙ head_append_some _ _ attrs e

pub among_miss : (tag : Text) (n d : ℕ) (nodes : List TNode) (i : ℕ) (node : TNode) → n ≡ suc d → i < length nodes → node ≡ get_or nodes i node
    → attributes_among tag (node ∷ in_order d (inside (out-TNode node))) ≡ None → attributes_among tag (in_order n (drop i nodes)) ≡ attributes_among tag (in_order n (drop (i + 1) nodes))
among_miss tag n d nodes i node deep h is e =
    (λ j. attributes_among tag (in_order (deep j) (drop_at nodes i node h is j))) ∙ among_cons tag d node (drop (i + 1) nodes) ∙ head_append_none _ _ e
    ∙ (λ j. attributes_among tag (in_order (sym deep j) (drop (i + 1) nodes)))

pub among_end : (tag : Text) (n : ℕ) (nodes : List TNode) (i : ℕ) → length nodes ≤ i → attributes_among tag (in_order n (drop i nodes)) ≡ None
among_end tag n nodes i h = ap (λ ns. attributes_among tag (in_order n ns)) (drop_end nodes i h) ∙ ap (attributes_among tag) (in_order_nil n)

pub among_zero : (tag : Text) (n : ℕ) (nodes : List TNode) → n ≡ 0 → attributes_among tag (in_order n nodes) ≡ None
unfolding in_order
among_zero tag n nodes e = ap (λ m. attributes_among tag (in_order m nodes)) e

pub first_node_at : (names : List Text) (n d : ℕ) (nodes : List TNode) (i : ℕ) (node : TNode) → n ≡ suc d → IsTrue (are_first_nodes names n nodes) → i < length nodes
    → node ≡ get_or nodes i node → IsTrue (is_first_node names (are_first_nodes names d) (out-TNode node))
unfolding are_first_nodes
first_node_at names n d nodes i node deep first h is =
    all_at (λ node. is_first_node names (are_first_nodes names d) (out-TNode node)) nodes i node ((λ j. are_first_nodes names (sym deep j) nodes) ∙ first) h is

pub out_Element : (place : Place) (name : Text) (attrs : List TAttr) (nodes : List TNode) → out-TNode (tnode.Element place name attrs nodes) ≡ TNode-F.Element place name attrs nodes
out_Element place name attrs nodes = ap out-TNode (sym (tnode.rolls-Element place name attrs nodes)) ∙ out-roll-TNode (TNode-F.Element place name attrs nodes)

pub first_inside : (names : List Text) (d : ℕ) (place : Place) (name : Text) (attrs : List TAttr) (nodes : List TNode)
    → IsTrue (is_first_node names (are_first_nodes names d) (TNode-F.Element place name attrs nodes)) → IsTrue (are_first_nodes names d nodes)
first_inside names d place name attrs nodes h = (and_parts (is_element_tag name && are_first_attributes names attrs) (are_first_nodes names d nodes) h).1

module _ (names : List Text) (tag : Text) where
  found_in : (ns ms : List TNode) (attrs : List TAttr) → attributes_among tag (ns ++ ms) ≡ Some attrs → (attributes_among tag ns ≡ Some attrs) ⊎ (attributes_among tag ms ≡ Some attrs)
  found_in [] ms attrs e = inr e
  found_in (n ∷ ns) ms attrs e = found_by (attributes_at tag (out-TNode n)) ns ms attrs e (found_in ns ms attrs) where
    found_by : (o : Option (List TAttr)) (ns ms : List TNode) (attrs : List TAttr) → head_of (cons_option o (filter_map (λ n. attributes_at tag (out-TNode n)) (ns ++ ms))) ≡ Some attrs
        → (attributes_among tag (ns ++ ms) ≡ Some attrs → (attributes_among tag ns ≡ Some attrs) ⊎ (attributes_among tag ms ≡ Some attrs))
        → (head_of (cons_option o (filter_map (λ n. attributes_at tag (out-TNode n)) ns)) ≡ Some attrs) ⊎ (attributes_among tag ms ≡ Some attrs)
    found_by None ns ms attrs e go = go e
    found_by (Some a) ns ms attrs e go = inl e

  -- the attributes that are found are of the first form
  in_node : (d : ℕ) (l : TNode-F TNode Branch) (attrs : List TAttr)
      → ((nodes : List TNode) → IsTrue (are_first_nodes names d nodes) → attributes_among tag (in_order d nodes) ≡ Some attrs → IsTrue (are_first_attributes names attrs))
      → IsTrue (is_first_node names (are_first_nodes names d) l)
      → head_of (cons_option (attributes_at tag l) (filter_map (λ n. attributes_at tag (out-TNode n)) (in_order d (inside l)))) ≡ Some attrs
      → IsTrue (are_first_attributes names attrs)
  in_node d (TNode-F.Element place name given nodes) attrs go h e =
      let parts = and_parts (is_element_tag name && are_first_attributes names given) (are_first_nodes names d nodes) h in
      let attributes = (and_parts (is_element_tag name) (are_first_attributes names given) parts.0).1 in
      in_element (bytes_eq tag name) given attrs (filter_map (λ n. attributes_at tag (out-TNode n)) (in_order d nodes)) attributes (go nodes parts.1) e where
        in_element : (b : Bool) (given attrs : List TAttr) (rest : List (List TAttr)) → IsTrue (are_first_attributes names given)
            → (head_of rest ≡ Some attrs → IsTrue (are_first_attributes names attrs))
            → head_of (cons_option (elim b as (λ _. Option (List TAttr)) [ true ↦ Some given | false ↦ None ]) rest) ≡ Some attrs → IsTrue (are_first_attributes names attrs)
        in_element true given attrs rest first go e = (let same : given ≡ attrs = cc in ap (are_first_attributes names) (sym same) ∙ first)
        in_element false given attrs rest first go e = go e
  in_node d (TNode-F.Text place pieces) attrs go h e = let f = rw (in_order_nil d) at e in cc
  in_node d (TNode-F.If place branches) attrs go h e = cc
  in_node d (TNode-F.For place head nodes empty) attrs go h e = cc
  in_node d (TNode-F.Switch place value branches) attrs go h e = cc
  in_node d (TNode-F.Let place name value) attrs go h e = cc

  in_nodes : (d : ℕ) (nodes : List TNode) (attrs : List TAttr)
      → ((nodes : List TNode) → IsTrue (are_first_nodes names d nodes) → attributes_among tag (in_order d nodes) ≡ Some attrs → IsTrue (are_first_attributes names attrs))
      → IsTrue (list_all (λ node. is_first_node names (are_first_nodes names d) (out-TNode node)) nodes)
      → attributes_among tag (flat_map (λ node. node ∷ in_order d (inside (out-TNode node))) nodes) ≡ Some attrs → IsTrue (are_first_attributes names attrs)
  in_nodes d [] attrs go h e = cc
  in_nodes d (node ∷ rest) attrs go h e =
      let parts = and_parts (is_first_node names (are_first_nodes names d) (out-TNode node)) (list_all (λ node. is_first_node names (are_first_nodes names d) (out-TNode node)) rest) h in
      elim (found_in (node ∷ in_order d (inside (out-TNode node))) (flat_map (λ node. node ∷ in_order d (inside (out-TNode node))) rest) attrs e)
      [ inl here ↦ in_node d (out-TNode node) attrs go parts.0 here | inr there ↦ in_nodes d rest attrs go parts.1 there ]

  pub found_first : (d : ℕ) (nodes : List TNode) (attrs : List TAttr) → IsTrue (are_first_nodes names d nodes) → attributes_among tag (in_order d nodes) ≡ Some attrs
      → IsTrue (are_first_attributes names attrs)
  unfolding in_order are_first_nodes
  found_first zero nodes attrs h e = cc
  found_first (suc d) nodes attrs h e = in_nodes d nodes attrs (λ inner first found. found_first d inner attrs first found) h e
