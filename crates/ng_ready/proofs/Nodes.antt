-- Nodes without a form that isn't built.
use Rattle.std.proofs.Common.{◌≡◌, ℕ, zero, suc, Bool, true, false, not, List, [], ◌∷◌, ◌++◌, map, refl, sym, ◌∙◌, ap, subst}
use Rattle.std.specs.List.{flat_map, list_all}
use Rattle.std.proofs.lemmas.Bool.{and_from, not-false}
use Rattle.std.proofs.lemmas.Grind.{flat_map-append}
use Rattle.ng_values.specs.declared.text.NgText.{NgText}
use Rattle.ng_ast.specs.declared.Place.{Place}
use Rattle.ng_ast.specs.declared.Piece.{Piece}
use Rattle.ng_ast.specs.declared.Piece.TheVariants as piece
use Rattle.ng_ast.specs.declared.TAttr.{TAttr}
use Rattle.ng_ast.specs.declared.Branch.{Branch}
use Rattle.ng_ast.specs.declared.TNode.{TNode, out-TNode}
use Rattle.ng_ast.specs.declared.TNode.TheOpen.{TNode-F}
use Rattle.ng_ast.specs.Inner.{inner, inner_layer}
use Rattle.ng_ast.specs.Nodes.{all_nodes, node_and_inner}
use Rattle.ng_ast.specs.NodesLaws.{node_and_inner_is}
use Rattle.ng_semantics.specs.Text.{Text}
use Rattle.ng_semantics.specs.First.{is_click, are_first_attributes, is_first_piece, is_first_node, are_first_nodes}
use Rattle.ng_unbuilt.specs.Least.{when}
use Rattle.ng_unbuilt.specs.Forms.{attribute_forms, piece_forms, node_forms, template_forms}
use Rattle.ng_sizes.specs.Sizes.{is_level, IsShallow}
use Rattle.ng_ready.proofs.Empty.{left_empty, right_empty, unwanted}
use Rattle.ng_ready.proofs.Levels.{shallow_rest, shallow_inner, shallow_leaf}

module _ (names : List Text) where
  first_attributes : (attrs : List TAttr) → attribute_forms names attrs ≡ [] → are_first_attributes names attrs ≡ true
  first_attributes [] e = refl
  first_attributes (a ∷ []) e = not-false _ (unwanted _ _ (left_empty _ _ e))
  first_attributes (a ∷ b ∷ more) e =
      let rest : b.place ∷ map (λ c. c.place) more ≡ [] = right_empty (when (not (is_click names a a.form)) a.place) (b.place ∷ map (λ c. c.place) more) e in
      absurd (cc)

  first_piece : (p : Piece) → piece_forms names p ≡ [] → is_first_piece names p ≡ true
  first_piece (piece.Text t) e = refl
  first_piece (piece.Value place x) e = not-false _ (unwanted _ _ e)

  first_pieces : (ps : List Piece) → flat_map (piece_forms names) ps ≡ [] → list_all (is_first_piece names) ps ≡ true
  first_pieces [] e = refl
  first_pieces (p ∷ ps) e =
      and_from _ _
      (first_piece p (left_empty _ _ e)) (first_pieces ps (right_empty _ _ e))

  -- a node, where the test holds of what stands inside an element
  first_node : (inner : List TNode → Bool) (l : TNode-F TNode Branch) → node_forms names l ≡ []
      → ((p : Place) (tag : NgText) (attrs : List TAttr) (ts : List TNode) → l ≡ TNode-F.Element p tag attrs ts → inner ts ≡ true) → is_first_node names inner l ≡ true
  first_node inner (TNode-F.Element p tag attrs ts) e inside =
      and_from _ _
      (and_from _ _
      (not-false _ (unwanted _ _ (left_empty _ _ e)))
      (first_attributes attrs (right_empty _ _ e)))
      (inside p tag attrs ts refl)
  first_node inner (TNode-F.Text p pieces) e inside =
      and_from _ _
      (first_pieces pieces (right_empty _ _ e))
      (not-false _ (unwanted _ _ (left_empty _ _ e)))
  first_node inner (TNode-F.If p bs) e inside = absurd (cc)
  first_node inner (TNode-F.For p head ts empty) e inside = absurd (cc)
  first_node inner (TNode-F.Switch p v bs) e inside = absurd (cc)
  first_node inner (TNode-F.Let p name v) e inside = absurd (cc)

  -- without a form, the node, what stands inside it and the nodes behind it have none
  built : (t : TNode) (ts : List TNode) → template_forms names (t ∷ ts) ≡ []
      → (node_forms names (out-TNode t) ≡ []) × (template_forms names (inner t) ≡ []) × (template_forms names ts ≡ [])
  built t ts e =
      let form : TNode → List Place = λ u. node_forms names (out-TNode u) in
      let one : flat_map form (node_and_inner t) ++ template_forms names ts ≡ [] = sym (flat_map-append form (node_and_inner t) (all_nodes ts)) ∙ e in
      let own : form t ++ template_forms names (inner t) ≡ [] =
      ap (flat_map form) (sym (node_and_inner_is t)) ∙ left_empty _ _ one in
      (left_empty _ _ own, right_empty _ _ own, right_empty _ _ one)

  -- Without a form, nodes that fit in some levels are of the first form in one level more.
  pub first_nodes : (d : ℕ) (ts : List TNode) → IsShallow d ts → template_forms names ts ≡ [] → are_first_nodes names (suc d) ts ≡ true
  unfolding are_first_nodes
  first_nodes zero [] s e = refl
  first_nodes zero (t ∷ ts) s e =
      let b = built t ts e in
      and_from _ _
      (first_node (are_first_nodes names zero) (out-TNode t) b.0 (λ p tag attrs us is. absurd (let k : true ≡ false = sym (ap is_level is) ∙ shallow_leaf t ts s in cc)))
      (first_nodes zero ts (shallow_rest zero t ts s) b.2)
  first_nodes (suc d) [] s e = refl
  first_nodes (suc d) (t ∷ ts) s e =
      let b = built t ts e in
      and_from _ _
      (first_node (are_first_nodes names (suc d)) (out-TNode t) b.0
      (λ p tag attrs us is. subst (λ l. are_first_nodes names (suc d) (inner_layer l) ≡ true) is (first_nodes d (inner t) (shallow_inner d t ts s) b.1)))
      (first_nodes (suc d) ts (shallow_rest (suc d) t ts s) b.2)
