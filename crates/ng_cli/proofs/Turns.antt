-- One turn of a run after another.
use Rattle.std.proofs.Common.{◌≡◌, ℕ, ◌+◌, Bool, true, false, List, [], ◌∷◌, ◌++◌, map, length, Option, Some, None, refl, sym, ap, ◌∙◌, append_assoc, inl, inr, option_and_then, codes, append-nil, subst, suc, ◌<◌, ◌≤◌, get_or, drop, drop-cons, add-one, arith}
use Rattle.std.proofs.lemmas.Grind.{common_steps}
use Rattle.std.specs.List.{filter_map}
use Rattle.std.specs.Str.{bytes_eq}
use Rattle.std.proofs.lemmas.Slice.Eq.{bytes_eq-Decides}
use Rattle.ng_values.specs.declared.fault.Fault.{Fault}
use Rattle.ng_ast.specs.declared.App.{App}
use Rattle.ng_ast.specs.declared.Decl.{Decl}
use Rattle.ng_ast.specs.declared.Component.{Component}
use Rattle.ng_ast.specs.declared.Stmt.{Stmt}
use Rattle.ng_tree.specs.declared.NodeId.{NodeId}
use Rattle.ng_semantics.specs.Text.{Text, first_that, head_of}
use Rattle.ng_semantics.specs.Declared.{root_of, component_in, bootstrap_in}
use Rattle.ng_semantics.specs.First.{IsAlone}
use Rattle.ng_semantics.specs.Meaning.{World}
use Rattle.ng_semantics.specs.Tree.{State, settle}
use Rattle.ng_semantics.specs.Events.{reached, listened, ran, listener_at, statements, target, Outcome}
use Rattle.ng_semantics.specs.Run.{Turn, after, turn, turns}
use Rattle.ng_semantics.specs.Lines.{turn_lines, lines_from, end_line}
use Rattle.ng_update.specs.Running.{Running, shown, page_of, click_on}
use Rattle.ng_cli.specs.Allowed.{click}
use Rattle.ng_cli.specs.Causes.{Wrote, WrotePart}
use Rattle.ng_cli.specs.Steps.{left, first_turn, whole_run}
use Rattle.ng_cli.proofs.Writing.{wrote_then, part_after, part_before}

-- ---- the root

abbrev root_in : List Decl → Option Component
root_in decls = option_and_then (λ name. first_that (λ c. bytes_eq name c.name) (filter_map component_in decls)) (head_of (filter_map bootstrap_in decls))

found_first : (b : Bool) (c : Component) → b ≡ true → elim b [ true ↦ Some c | false ↦ None ] ≡ Some c
found_first true c e = refl
found_first false c e = cc

same_text : (t : Text) → bytes_eq t t ≡ true
same_text t = (bytes_eq-Decides t t).1 refl

-- the root of an application that is one component and its `bootstrap`
pub root-IsAlone : (app : App) (c : Component) → IsAlone app c → root_of app ≡ Some c
root-IsAlone app c h = elim h.1 [
  | inl e ↦ ap root_in e ∙ found_first (bytes_eq c.name c.name) c (same_text c.name)
  | inr e ↦ ap root_in e ∙ found_first (bytes_eq c.name c.name) c (same_text c.name)
]

-- ---- a click

after_ran : (c : Component) (world : World) (r : Option Fault × World) → after c (settle c (record { world = world; tree = [] })) (ran r) ≡ settle c (record { world = r.1; tree = [] })
after_ran c world (None, w) = refl
after_ran c world (Some fault, w) = refl

after_listened : (c : Component) (world : World) (found : Option (List Stmt)) → after c (settle c (record { world = world; tree = [] })) (listened world found) ≡ settle c (record { world = (listened world found).world; tree = [] })
after_listened c world None = refl
after_listened c world (Some body) = after_ran c world (statements body world)

-- The state after an event is that of a pass over what the fields then hold, also where no pass follows.
after_reached : (c : Component) (name : Text) (world : World) (found : Option NodeId) → after c (settle c (record { world = world; tree = [] })) (reached c name world found) ≡ settle c (record { world = (reached c name world found).world; tree = [] })
after_reached c name world None = refl
after_reached c name world (Some node) = after_listened c world (listener_at c name node)

-- a run goes on from what a click leaves
abbrev pub clicked : Running → Text → Running
clicked r tag = record { component = r.component; world = (click_on r tag).world }

abbrev pub click_turn : Running → Text → Turn
click_turn r tag = record { outcome = Some (click_on r tag).outcome; page = page_of (clicked r tag) }

one_turn : (r : Running) (k events : ℕ) (tag : Text) (tags : List Text) → left r k (tag ∷ tags) events ≡ turn_lines k (click_turn r tag) ++ left (clicked r tag) (k + 1) tags events
one_turn r k events tag tags =
    let c = r.component in
    let outcome : Option Outcome = Some (click_on r tag).outcome in
    let e : after c (shown r) (click_on r tag) ≡ shown (clicked r tag) = after_reached c (codes "click") r.world (target (page_of r) tag 1) in
    ap (λ (z : State). (turn_lines k (turn c outcome z) ++ lines_from (k + 1) (turns c z (map click tags))) ++ end_line events) e
    ∙ append_assoc (turn_lines k (click_turn r tag)) (lines_from (k + 1) (turns c (shown (clicked r tag)) (map click tags))) (end_line events)

running_is : (r s : Running) → r.component ≡ s.component → r.world ≡ s.world → r ≡ s
running_is r s e f = λ i. record { component = e i; world = f i }

-- ---- progress

-- So much of a whole run was written, and these clicks are left.
pub record Progress (t0 t1 : Option Text) (r : Running) (k : ℕ) (tags : List Text) (events : ℕ) (whole : Text) : Type 0 where
  pub text : Text
  pub wrote : Wrote t0 t1 text
  pub all : text ++ left r k tags events ≡ whole

-- the first pass
pub begin_whole : (t0 t1 : Option Text) (r : Running) (tags : List Text) → Wrote t0 t1 (turn_lines 0 (first_turn r)) → Progress t0 t1 r 1 tags (length tags) (whole_run r tags)
unfolding whole_run
begin_whole t0 t1 r tags w = record { text = turn_lines 0 (first_turn r); wrote = w; all = refl }

pub begin_part : (t0 t1 : Option Text) (r : Running) (tags : List Text) → WrotePart t0 t1 (turn_lines 0 (first_turn r)) → WrotePart t0 t1 (whole_run r tags)
unfolding whole_run
begin_part t0 t1 r tags p = part_before t0 t1 (turn_lines 0 (first_turn r)) (left r 1 tags (length tags)) p

-- What an engine did at a click: the outcome, and what it holds afterwards.
pub record Clicked (r s : Running) (tag : Text) (outcome : Outcome) : Type 0 where
  pub outcome_is : outcome ≡ (click_on r tag).outcome
  pub world_is : s.world ≡ (click_on r tag).world
  pub component_is : s.component ≡ r.component

abbrev pub turn_to : Outcome → Running → Turn
turn_to outcome s = record { outcome = Some outcome; page = page_of s }

turn_is : (r s : Running) (tag : Text) (outcome : Outcome) → Clicked r s tag outcome → turn_to outcome s ≡ click_turn r tag
turn_is r s tag outcome h = λ i. turn_to (h.outcome_is i) (running_is s (clicked r tag) h.component_is h.world_is i)

left_after : (r s : Running) (k events : ℕ) (tag : Text) (tags rest : List Text) (outcome : Outcome) → Clicked r s tag outcome → tags ≡ tag ∷ rest
    → left r k tags events ≡ turn_lines k (turn_to outcome s) ++ left s (k + 1) rest events
left_after r s k events tag tags rest outcome h e =
    ap (λ (ts : List Text). left r k ts events) e ∙ one_turn r k events tag rest
    ∙ sym (λ i. turn_lines k (turn_is r s tag outcome h i) ++ left (running_is s (clicked r tag) h.component_is h.world_is i) (k + 1) rest events)

-- the clicks from one on
pub drop_next : (tags : List Text) (j : ℕ) (found tag : Text) → j < length tags → found ≡ get_or tags j found → tag ≡ found → drop j tags ≡ tag ∷ drop (j + 1) tags
drop_next tags j found tag h is e = rw (add-one) (drop-cons tags j found h ∙ ap (λ (t : Text). t ∷ drop (suc j) tags) (sym is ∙ sym e))

pub drop_all : (tags : List Text) (j : ℕ) → length tags ≤ j → drop j tags ≡ []
drop_all tags j h = grind (arith, common_steps)

-- one more click
module _ (t0 t1 t2 : Option Text) (r s : Running) (k events : ℕ) (tag : Text) (tags rest : List Text) (outcome : Outcome) (whole : Text) where
  pub progress_turn : Progress t0 t1 r k tags events whole → Clicked r s tag outcome → tags ≡ tag ∷ rest → Wrote t1 t2 (turn_lines k (turn_to outcome s)) → Progress t0 t2 s (k + 1) rest events whole
  progress_turn p h e w =
      let lines = turn_lines k (turn_to outcome s) in
      record {
        text = p.text ++ lines;
        wrote = wrote_then t0 t1 t2 p.text lines p.wrote w;
        all = append_assoc p.text lines (left s (k + 1) rest events) ∙ ap (λ x. p.text ++ x) (sym (left_after r s k events tag tags rest outcome h e)) ∙ p.all;
      }

  pub progress_part : Progress t0 t1 r k tags events whole → Clicked r s tag outcome → tags ≡ tag ∷ rest → WrotePart t1 t2 (turn_lines k (turn_to outcome s)) → WrotePart t0 t2 whole
  progress_part p h e w =
      let lines = turn_lines k (turn_to outcome s) in
      let f : p.text ++ (lines ++ left s (k + 1) rest events) ≡ whole = ap (λ x. p.text ++ x) (sym (left_after r s k events tag tags rest outcome h e)) ∙ p.all in
      subst (WrotePart t0 t2) f (part_after t0 t1 t2 p.text lines (left s (k + 1) rest events) p.wrote w)

-- the end
pub progress_end : (t0 t1 t2 : Option Text) (r : Running) (k events : ℕ) (whole : Text) → Progress t0 t1 r k [] events whole → Wrote t1 t2 (end_line events) → Wrote t0 t2 whole
progress_end t0 t1 t2 r k events whole p w = subst (Wrote t0 t2) p.all (wrote_then t0 t1 t2 p.text (end_line events) p.wrote w)

pub progress_end_part : (t0 t1 t2 : Option Text) (r : Running) (k events : ℕ) (whole : Text) → Progress t0 t1 r k [] events whole → WrotePart t1 t2 (end_line events) → WrotePart t0 t2 whole
progress_end_part t0 t1 t2 r k events whole p w =
    subst (WrotePart t0 t2) (ap (λ x. p.text ++ x) (append-nil (end_line events)) ∙ p.all) (part_after t0 t1 t2 p.text (end_line events) [] p.wrote w)
