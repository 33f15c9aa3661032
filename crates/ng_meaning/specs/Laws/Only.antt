-- What a page has is on it by what the views show.
use Rattle.std.specs.Prelude.{◌≡◌, ◌⊎◌, ℕ, zero, suc, ◌+◌, ◌≤◌, true, List, [], ◌∷◌, ◌++◌, length, Option, Some, None, refl}
use Rattle.std.proofs.Common.{inl, inr, ap, sym, ◌∙◌, subst, arith}
use Rattle.std.proofs.lemmas.Bool.{eqb-true}
use Rattle.ng_ast.specs.declared.App.{App}
use Rattle.ng_ast.specs.declared.Component.{Component}
use Rattle.ng_ast.specs.declared.TAttr.{TAttr}
use Rattle.ng_tree.specs.declared.NodeId.{NodeId}
use Rattle.ng_tree.specs.declared.NodeId.TheVariants as id
use Rattle.ng_tree.specs.declared.PNode.{PNode}
use Rattle.ng_tree.specs.declared.Step.{Step}
use Rattle.ng_tree.specs.declared.Step.TheVariants as step
use Rattle.ng_meaning.specs.Lists.{Text}
use Rattle.ng_meaning.specs.Template.{Form, Element, Host, NgContent, NgContainer, NgTemplate, TextNode, If, For, Switch, Let, Nodes, no_nodes, node}
use Rattle.ng_meaning.specs.Places.{Trail, Outline, Outlines, node_id, entered, outlines}
use Rattle.ng_meaning.specs.Projection.{slot_of, shown_slot, is_number}
use Rattle.ng_meaning.specs.Tree.{Tree, view_at, value_of}
use Rattle.ng_meaning.specs.Bindings.{Shown, views_shown}
use Rattle.ng_meaning.specs.Page.{Handed, handed_to, together, page_nodes, draw_views, draw_outlets, draw_nodes, draw_form, draw, draw_root, page}
use Rattle.ng_meaning.specs.Laws.Apart.{In, In-append, In-flat_map}
use Rattle.ng_meaning.specs.Laws.Places.{BeginsAt}
use Rattle.ng_meaning.specs.Laws.Shown.{steps, views_shown-GoInto}
use Rattle.ng_meaning.specs.Laws.Pages.{all_ids, node_ids, node_ids-Element, node_ids-Host, node_ids-Text}
use Rattle.ng_meaning.specs.Laws.Units.{ShowsSlot, HasUnit, entered-HasUnit, child-HasUnit, root-HasUnit}
use Rattle.ng_meaning.specs.Laws.Once.{all_ids-append, all_ids-flat_map, all_ids-one, nothing_of, kept_or_after, outlines-BeginsAt, entered_next}
use Rattle.ng_meaning.specs.Laws.OnPage.{Stands, ViewOnPage, OnPage, IsOnPage}
use Rattle.ng_meaning.specs.Laws.OnPage.ViewOnPage.{of_root, of_host, of_node}
use Rattle.ng_meaning.specs.Laws.OnPage.OnPage.{outermost, in_element, in_container, in_slot}

-- the slot that is asked for
is_the_slot : (k : ℕ) (o : Option ℕ) → is_number k o ≡ true → o ≡ Some k
is_the_slot k None e = cc
is_the_slot k (Some m) e = ap (λ n. Some n) (sym (eqb-true k m e))

pub step_in : (bs : List Shown) (b : Shown) → In b bs → In b.0 (steps bs)
step_in [] b j = absurd j
step_in (d ∷ bs) b (inl e) = inl (λ i. (e i).0)
step_in (d ∷ bs) b (inr j) = inr (step_in bs b j)

module _ (app : App) (tree : Tree) where
  -- an `ng-content` that is on the page, and shows this slot of the instance at a path
  record SlotOnPage (u : Trail) (k : ℕ) : Type 0 where
    path : Trail
    number : ℕ
    form : Form
    view : Outline
    outer : Outlines
    on_page : OnPage app tree path number form
    is_view : outlines app path ≡ view ∷ outer
    unit : view.unit ≡ u
    shows : ShowsSlot app tree view form k

  -- what is handed to the slots of an instance is on the page where they are
  abbrev HandsOn : Trail → Handed PNode → Type 0
  HandsOn u h = (k : ℕ) (i : NodeId) → In i (all_ids (h k)) → SlotOnPage u k → IsOnPage app tree i

  -- Given that what is made of views inside is on the page.
  module _ (inside : Outlines → Handed PNode → List PNode) (o : Outline) (outer : Outlines) (here : outlines app o.path ≡ o ∷ outer) (units : HasUnit o.unit (o ∷ outer))
      (deeper : (s : Step) → (length o.path + 1 ≤ 63 → ViewOnPage app tree (s ∷ o.path)) → (u : Trail) → HasUnit u (entered app s (o ∷ outer)) → (h : Handed PNode) → HandsOn u h
      → (i : NodeId) → In i (all_ids (inside (entered app s (o ∷ outer)) h)) → IsOnPage app tree i)
      (handed : Handed PNode) (hands : HandsOn o.unit handed) where
    -- the views that a node shows
    views_only : (n : ℕ) (f : Form) → OnPage app tree o.path n f → (i : NodeId) → In i (all_ids (draw_views app tree page_nodes inside o outer handed n f)) → IsOnPage app tree i
    views_only n f on i j =
        let bs = views_shown app o outer n f (value_of (view_at o.path tree.views) n) in
        let made : Shown → List PNode = λ b. inside (entered app b.0 (o ∷ outer)) handed in
        let r = In-flat_map (λ b. all_ids (made b)) bs i (subst (In i) (all_ids-flat_map made bs) j) in
        let there = step_in bs r.0 r.1 in
        deeper r.0.0 (λ short. of_node o outer on here there short) o.unit
        (entered-HasUnit app n r.0.0 (views_shown-GoInto app o outer n f (value_of (view_at o.path tree.views) n) r.0.0 there) o.unit o outer units) handed hands i r.2

    mutual
      -- nodes side by side
      nodes_only : (nodes : Nodes) → ((n : ℕ) (f : Form) → Stands n f nodes → OnPage app tree o.path n f) → (i : NodeId) → In i (all_ids (together (draw_nodes app tree page_nodes inside o outer handed nodes))) → IsOnPage app tree i
      nodes_only no_nodes on i j = absurd j
      nodes_only (node n p f rest) on i j =
          let drawn = draw_form app tree page_nodes inside o outer handed n f in
          let others = together (draw_nodes app tree page_nodes inside o outer handed rest) in
          elim (In-append (all_ids drawn) (all_ids others) i (subst (In i) (all_ids-append drawn others) j)) [
            | inl l ↦ form_only n f (on n f (inl (refl, refl))) i l
            | inr r ↦ nodes_only rest (λ m g s. on m g (inr s)) i r
          ]

      -- what a host hands to a slot that is on the page
      content_only : (n k : ℕ) (c : Component) (tag : Text) (attrs : List TAttr) (content : Nodes) → OnPage app tree o.path n (Host c tag attrs content) → SlotOnPage (step.Child n ∷ o.path) k
          → (nodes : Nodes) → ((m : ℕ) (g : Form) → Stands m g nodes → Stands m g content) → (i : NodeId) → In i (all_ids (handed_to app c (draw_nodes app tree page_nodes inside o outer handed nodes) k)) → IsOnPage app tree i
      content_only n k c tag attrs content on slot no_nodes within i j = absurd j
      content_only n k c tag attrs content on slot (node m p g rest) within i j =
          elim (kept_or_after (is_number k (slot_of app c g)) (draw_form app tree page_nodes inside o outer handed m g) (handed_to app c (draw_nodes app tree page_nodes inside o outer handed rest) k) i j) [
            | inl l ↦ form_only m g (in_slot slot.view slot.outer on (within m g (inl (refl, refl))) (is_the_slot k (slot_of app c g) l.0) slot.on_page slot.is_view slot.unit slot.shows) i l.1
            | inr r ↦ content_only n k c tag attrs content on slot rest (λ x y s. within x y (inr s)) i r
          ]

      -- one node
      form_only : (n : ℕ) (f : Form) → OnPage app tree o.path n f → (i : NodeId) → In i (all_ids (draw_form app tree page_nodes inside o outer handed n f)) → IsOnPage app tree i
      form_only n (Element tag attrs nodes) on i j =
          let kids = together (draw_nodes app tree page_nodes inside o outer handed nodes) in
          elim (subst (In i) (all_ids-one _ ∙ node_ids-Element (node_id o.path n) tag _ kids) j) [
            | inl e ↦ record { path = o.path; number = n; form = Element tag attrs nodes; is = e; page_node = refl; on_page = on }
            | inr r ↦ nodes_only nodes (λ m g s. in_element on s) i r
          ]
      form_only n (Host c tag attrs nodes) on i j =
          let handed_on = handed_to app c (draw_nodes app tree page_nodes inside o outer handed nodes) in
          elim (subst (In i) (all_ids-one _ ∙ node_ids-Host (node_id o.path n) tag _ (inside (entered app (step.Child n) (o ∷ outer)) handed_on)) j) [
            | inl e ↦ record { path = o.path; number = n; form = Host c tag attrs nodes; is = e; page_node = refl; on_page = on }
            | inr r ↦ deeper (step.Child n) (λ short. of_host on short) (step.Child n ∷ o.path) (child-HasUnit app n o outer) handed_on
                (λ k x y slot. content_only n k c tag attrs nodes on slot nodes (λ m g s. s) x y) i r
          ]
      form_only n (TextNode ps) on i j = elim (subst (In i) (all_ids-one _ ∙ node_ids-Text (node_id o.path n) _) j) [
        | inl e ↦ record { path = o.path; number = n; form = TextNode ps; is = e; page_node = refl; on_page = on }
        | inr r ↦ absurd r
      ]
      form_only n (NgContent attrs nodes) on i j =
          let k = shown_slot app o.component attrs in
          let views = draw_views app tree page_nodes inside o outer handed n (NgContent attrs nodes) in
          elim (In-append (all_ids (handed k)) (all_ids views) i (subst (In i) (all_ids-append (handed k) views) j)) [
            | inl l ↦ hands k i l (record { path = o.path; number = n; form = NgContent attrs nodes; view = o; outer = outer; on_page = on; is_view = here; unit = refl; shows = refl })
            | inr r ↦ views_only n (NgContent attrs nodes) on i r
          ]
      form_only n (NgContainer attrs nodes) on i j =
          let outlets = draw_outlets app tree page_nodes inside o outer n (NgContainer attrs nodes) in
          let kids = together (draw_nodes app tree page_nodes inside o outer handed nodes) in
          let views = draw_views app tree page_nodes inside o outer handed n (NgContainer attrs nodes) in
          let parts = all_ids-append (outlets ++ kids) views ∙ ap (λ xs. xs ++ all_ids views) (all_ids-append outlets kids ∙ ap (λ xs. xs ++ all_ids kids) (nothing_of (views_shown app o outer n (NgContainer attrs nodes) (value_of (view_at o.path tree.views) n)))) in
          elim (In-append (all_ids kids) (all_ids views) i (subst (In i) parts j)) [
            | inl l ↦ nodes_only nodes (λ m g s. in_container on s) i l
            | inr r ↦ views_only n (NgContainer attrs nodes) on i r
          ]
      form_only n (NgTemplate attrs nodes) on i j = views_only n (NgTemplate attrs nodes) on i j
      form_only n (If bs) on i j = views_only n (If bs) on i j
      form_only n (For head nodes empty) on i j = views_only n (For head nodes empty) on i j
      form_only n (Switch e bs) on i j = views_only n (Switch e bs) on i j
      form_only n (Let name e) on i j = views_only n (Let name e) on i j

  -- all of a view that is drawn is on the page, where so many levels are drawn
  abbrev DrawsOnly : ℕ → Type 0
  DrawsOnly n = (p : Trail) → n + length p ≡ 64 → (length p ≤ 63 → ViewOnPage app tree p) → (u : Trail) → HasUnit u (outlines app p) → (h : Handed PNode) → HandsOn u h
      → (i : NodeId) → In i (all_ids (draw app tree page_nodes n (outlines app p) h)) → IsOnPage app tree i

  view_only : (n : ℕ) → DrawsOnly n → (o : Outline) (outer : Outlines) → outlines app o.path ≡ o ∷ outer → suc n + length o.path ≡ 64 → (length o.path ≤ 63 → ViewOnPage app tree o.path) → HasUnit o.unit (o ∷ outer)
      → (h : Handed PNode) → HandsOn o.unit h → (i : NodeId) → In i (all_ids (draw app tree page_nodes (suc n) (o ∷ outer) h)) → IsOnPage app tree i
  view_only n more o outer here depth view units h hands i j =
      nodes_only (draw app tree page_nodes n) o outer here units
      (λ s shown u inner g on x y. let next = entered_next app s o.path (o ∷ outer) here in
      more (s ∷ o.path) (omega (arith, depth)) (λ short. shown (omega (arith, short))) u (subst (HasUnit u) (sym next) inner) g on x
      (subst (λ os. In x (all_ids (draw app tree page_nodes n os g))) (sym next) y))
      h hands o.nodes (λ m f s. outermost o outer (view (omega (arith, depth))) here s) i j

  level_only : (n : ℕ) → DrawsOnly n → (p u : Trail) (os : Outlines) → outlines app p ≡ os → BeginsAt p os → suc n + length p ≡ 64 → (length p ≤ 63 → ViewOnPage app tree p) → HasUnit u os → (h : Handed PNode) → HandsOn u h
      → (i : NodeId) → In i (all_ids (draw app tree page_nodes (suc n) os h)) → IsOnPage app tree i
  level_only n more p u [] e begins depth view units h hands i j = absurd j
  level_only n more p u (o ∷ outer) e begins depth view units h hands i j =
      let Goal : Trail → Trail → Type 0 = λ q v. outlines app q ≡ o ∷ outer → suc n + length q ≡ 64 → (length q ≤ 63 → ViewOnPage app tree q) → HasUnit v (o ∷ outer) → HandsOn v h → IsOnPage app tree i in
      subst (λ q. Goal q u) begins (subst (λ v. Goal o.path v) units.0 (λ here d v own on. view_only n more o outer here d v own h on i j)) e depth view units hands

  draws_only : (n : ℕ) → DrawsOnly n
  draws_only zero p depth view u units h hands i j = absurd j
  draws_only (suc n) p depth view u units h hands i j = level_only n (draws_only n) p u (outlines app p) refl (outlines-BeginsAt app p) depth view units h hands i j

-- A page has its root, and else nodes alone that are on it by what the views show.
pub page-HasOnly : (app : App) (tree : Tree) (i : NodeId) → In i (node_ids (page app tree)) → (i ≡ id.Root) ⊎ IsOnPage app tree i
unfolding page outlines
page-HasOnly app tree i j = elim (subst (In i) (node_ids-Host id.Root _ [] (draw_root app tree page_nodes)) j) [
  | inl e ↦ inl e
  | inr r ↦ inr (draws_only app tree 64 [] refl (λ short. of_root) [] (root-HasUnit app) (λ k. []) (λ k x y slot. absurd y) i r)
]
