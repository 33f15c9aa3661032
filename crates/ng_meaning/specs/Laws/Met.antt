-- The views in outlets that a page has are shown.
use Rattle.std.specs.Prelude.{◌≡◌, ℕ, zero, suc, Bool, true, false, if◌then◌else◌, List, [], ◌∷◌, ◌++◌, refl}
use Rattle.std.proofs.Common.{inl, inr, ap, sym, ◌∙◌, subst}
use Rattle.ng_ast.specs.declared.App.{App}
use Rattle.ng_ast.specs.declared.Component.{Component}
use Rattle.ng_tree.specs.declared.Step.{Step}
use Rattle.ng_tree.specs.declared.Step.TheVariants as step
use Rattle.ng_meaning.specs.Template.{Form, Element, Host, NgContent, NgContainer, NgTemplate, TextNode, If, For, Switch, Let, Nodes, no_nodes, node}
use Rattle.ng_meaning.specs.Places.{Trail, Outline, Outlines, entered, outlines}
use Rattle.ng_meaning.specs.Projection.{slot_of, shown_slot, is_number}
use Rattle.ng_meaning.specs.Tree.{Tree, view_at, value_of}
use Rattle.ng_meaning.specs.Bindings.{views_shown}
use Rattle.ng_meaning.specs.Page.{Handed, handed_to, together, outlet_views, draw_views, draw_outlets, draw_nodes, draw_form, draw, outlets_met}
use Rattle.ng_meaning.specs.Laws.Apart.{In, In-append, In-left, In-right, In-flat_map}
use Rattle.ng_meaning.specs.Laws.Leads.{leads_to_view, leads_to_instance}
use Rattle.ng_meaning.specs.Laws.Members.{IsNode, outermost_is, inner_is}
use Rattle.ng_meaning.specs.Laws.Once.{outlines-BeginsAt, entered_next}
use Rattle.ng_meaning.specs.Laws.OnPage.{Stands}
use Rattle.ng_meaning.specs.Laws.Only.{step_in}
use Rattle.ng_meaning.specs.Laws.Places.{BeginsAt}
use Rattle.ng_meaning.specs.Laws.Units.{Leads, IsShown}

module _ (app : App) (tree : Tree) where
  -- the views at these paths are shown
  abbrev AllShown : List Trail → Type 0
  AllShown ps = (p : Trail) → In p ps → IsShown app tree p

  -- and so are those that are handed to each slot
  abbrev HandsShown : Handed Trail → Type 0
  HandsShown h = (k : ℕ) → AllShown (h k)

  both_shown : (ps rs : List Trail) → AllShown ps → AllShown rs → AllShown (ps ++ rs)
  both_shown ps rs h k p i = elim (In-append ps rs p i) [ inl j ↦ h p j | inr j ↦ k p j ]

  kept_shown : (b : Bool) (ps : List Trail) → AllShown ps → AllShown (if b then ps else [])
  kept_shown true ps h p i = h p i
  kept_shown false ps h p i = absurd i

  -- what is handed to a slot is some of what is made of nodes
  handed_shown : (c : Component) (drawn : List (Form × List Trail)) → AllShown (together drawn) → HandsShown (handed_to app c drawn)
  handed_shown c [] h k p i = absurd i
  handed_shown c (q ∷ drawn) h k p i =
      both_shown (if is_number k (slot_of app c q.0) then q.1 else []) (handed_to app c drawn k)
      (kept_shown (is_number k (slot_of app c q.0)) q.1 (λ r j. h r (In-left q.1 (together drawn) r j)))
      (handed_shown c drawn (λ r j. h r (In-right q.1 (together drawn) r j)) k) p i

  -- Given that the outlets' views inside of the views to which a view leads are shown.
  module _ (inside : Outlines → Handed Trail → List Trail) (o : Outline) (outer : Outlines) (here : outlines app o.path ≡ o ∷ outer) (shown : IsShown app tree o.path)
      (deeper : (s : Step) → IsShown app tree (s ∷ o.path) → (h : Handed Trail) → HandsShown h → AllShown (inside (entered app s (o ∷ outer)) h))
      (handed : Handed Trail) (hands : HandsShown handed) where
    led_shown : (s : Step) → Leads app tree (o ∷ outer) s → IsShown app tree (s ∷ o.path)
    led_shown s leads = (shown, subst (λ os. Leads app tree os s) (sym here) leads)

    -- the views that a node shows
    views_met : (n : ℕ) (f : Form) → IsNode o.nodes n f → AllShown (draw_views app tree outlet_views inside o outer handed n f)
    views_met n f one p i =
        let bs = views_shown app o outer n f (value_of (view_at o.path tree.views) n) in
        let r = In-flat_map (λ b. inside (entered app b.0 (o ∷ outer)) handed) bs p i in
        deeper r.0.0 (led_shown r.0.0 (leads_to_view app tree o outer n f one r.0.0 (step_in bs r.0 r.1))) handed hands p r.2

    -- and those of an outlet themselves
    outlets_shown : (n : ℕ) (f : Form) → IsNode o.nodes n f → AllShown (draw_outlets app tree outlet_views inside o outer n f)
    outlets_shown n f one p i =
        let bs = views_shown app o outer n f (value_of (view_at o.path tree.views) n) in
        let r = In-flat_map (λ b. (b.0 ∷ o.path) ∷ []) bs p i in
        elim r.2 [
          | inl e ↦ subst (IsShown app tree) (sym e) (led_shown r.0.0 (leads_to_view app tree o outer n f one r.0.0 (step_in bs r.0 r.1)))
          | inr none ↦ absurd none
        ]

    mutual
      nodes_met : (nodes : Nodes) → ((n : ℕ) (f : Form) → Stands n f nodes → IsNode o.nodes n f) → AllShown (together (draw_nodes app tree outlet_views inside o outer handed nodes))
      nodes_met no_nodes there p i = absurd i
      nodes_met (node n pl f rest) there p i =
          both_shown (draw_form app tree outlet_views inside o outer handed n f) (together (draw_nodes app tree outlet_views inside o outer handed rest))
          (form_met n f (there n f (inl (refl, refl)))) (nodes_met rest (λ m g s. there m g (inr s))) p i

      form_met : (n : ℕ) (f : Form) → IsNode o.nodes n f → AllShown (draw_form app tree outlet_views inside o outer handed n f)
      form_met n (Element tag attrs nodes) one p i = nodes_met nodes (λ m g s. inner_is o.nodes nodes n (Element tag attrs nodes) (λ hosts. hosts) (λ hosts. refl) one m g s) p i
      form_met n (Host c tag attrs nodes) one p i =
          let drawn = draw_nodes app tree outlet_views inside o outer handed nodes in
          deeper (step.Child n) (led_shown (step.Child n) (leads_to_instance app tree o outer n c tag attrs nodes one)) (handed_to app c drawn)
          (handed_shown c drawn (nodes_met nodes (λ m g s. inner_is o.nodes nodes n (Host c tag attrs nodes) (λ hosts. (n, c) ∷ hosts) (λ hosts. refl) one m g s))) p i
      form_met n (TextNode ps) one p i = absurd i
      form_met n (NgContent attrs nodes) one p i =
          both_shown (handed (shown_slot app o.component attrs)) (draw_views app tree outlet_views inside o outer handed n (NgContent attrs nodes))
          (hands (shown_slot app o.component attrs)) (views_met n (NgContent attrs nodes) one) p i
      form_met n (NgContainer attrs nodes) one p i =
          let outlets = draw_outlets app tree outlet_views inside o outer n (NgContainer attrs nodes) in
          let kids = together (draw_nodes app tree outlet_views inside o outer handed nodes) in
          let views = draw_views app tree outlet_views inside o outer handed n (NgContainer attrs nodes) in
          both_shown (outlets ++ kids) views
          (both_shown outlets kids (outlets_shown n (NgContainer attrs nodes) one)
          (nodes_met nodes (λ m g s. inner_is o.nodes nodes n (NgContainer attrs nodes) (λ hosts. hosts) (λ hosts. refl) one m g s)))
          (views_met n (NgContainer attrs nodes) one) p i
      form_met n (NgTemplate attrs nodes) one p i = views_met n (NgTemplate attrs nodes) one p i
      form_met n (If bs) one p i = views_met n (If bs) one p i
      form_met n (For head nodes empty) one p i = views_met n (For head nodes empty) one p i
      form_met n (Switch e bs) one p i = views_met n (Switch e bs) one p i
      form_met n (Let name e) one p i = views_met n (Let name e) one p i

  -- the outlets' views inside of a view are shown, where so many levels are drawn
  abbrev MeetsShown : ℕ → Type 0
  MeetsShown n = (p : Trail) → IsShown app tree p → (h : Handed Trail) → HandsShown h → AllShown (draw app tree outlet_views n (outlines app p) h)

  level_met : (n : ℕ) → MeetsShown n → (p : Trail) (os : Outlines) → outlines app p ≡ os → BeginsAt p os → IsShown app tree p → (h : Handed Trail) → HandsShown h
      → AllShown (draw app tree outlet_views (suc n) os h)
  level_met n more p [] e begins shown h hands q i = absurd i
  level_met n more p (o ∷ outer) e begins shown h hands q i =
      let here : outlines app o.path ≡ o ∷ outer = ap (outlines app) begins ∙ e in
      nodes_met (draw app tree outlet_views n) o outer here (subst (IsShown app tree) (sym begins) shown)
      (λ s led g good. subst (λ os. AllShown (draw app tree outlet_views n os g)) (entered_next app s o.path (o ∷ outer) here) (more (s ∷ o.path) led g good))
      h hands o.nodes (λ m f s. outermost_is o.nodes m f s) q i

  meets_shown : (n : ℕ) → MeetsShown n
  meets_shown zero p shown h hands q i = absurd i
  meets_shown (suc n) p shown h hands q i = level_met n (meets_shown n) p (outlines app p) refl (outlines-BeginsAt app p) shown h hands q i

-- Each view in an outlet that a page has is shown.
pub outlets_met-AreShown : (app : App) (tree : Tree) (p : Trail) → In p (outlets_met app tree) → IsShown app tree p
unfolding outlets_met
outlets_met-AreShown app tree p i = meets_shown app tree 64 [] tt (λ k. []) (λ k q j. absurd j) p i
