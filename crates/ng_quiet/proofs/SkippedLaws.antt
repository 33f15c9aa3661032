-- The marks of the search are those of the components whose check may be left out.
use Rattle.std.proofs.Common.{◌≡◌, refl, sym, ◌∙◌, ap, subst, ℕ, zero, suc, ◌+◌, Bool, true, false, List, [], ◌∷◌, length, map, inl, inr, Option, Some, None, slice_get, arith}
use Rattle.std.specs.Prelude.{Result, Ok, Err, IfOk}
use Rattle.std.specs.Option.{option_to_list}
use Rattle.ng_graph.specs.Walk.{In, Graph, Walk}
use Rattle.ng_ast.specs.declared.TNode.{TNode, out-TNode}
use Rattle.ng_ast.specs.declared.TNode.TheOpen.{TNode-F}
use Rattle.ng_ast.specs.declared.TAttr.{TAttr}
use Rattle.ng_ast.specs.declared.Branch.{Branch}
use Rattle.ng_ast.specs.declared.Component.{Component}
use Rattle.ng_ast.specs.Nodes.{all_nodes}
use Rattle.ng_hosts.specs.Hosts.{Name, hosts, when_at, positions, host_positions}
use Rattle.ng_hosts.specs.Index.{component_at}
use Rattle.ng_hosts.proofs.Positions.{hosts_at}
use Rattle.ng_quiet.specs.Reached.{IsReached, MarksReached}
use Rattle.ng_quiet.specs.Quiet.{layer_hosts, used_by, MayBeSkipped}
use Rattle.ng_quiet.specs.Used.{layer_positions, node_positions, used_positions, used_graph, MarksSkipped}
use Rattle.ng_quiet.proofs.Members.{Has, has_cases, has_left, has_right, has_from_contains, contains_from_has, has_from_in, in_from_has, has_flat_map, flat_map_has, some_same, has_at_get, get_has, get_small, get_map, map_get}
use Rattle.ng_quiet.proofs.ReachedLaws.{edge_reached}

-- ---- hosts and their positions

option_has : {X : Type 0} (o : Option X) (x : X) → Has (option_to_list o) x → o ≡ Some x
option_has None x h = absurd h
option_has (Some y) x h = elim h [ inl e ↦ ap Some e | inr none ↦ absurd none ]

has_option : {X : Type 0} (o : Option X) (x : X) → o ≡ Some x → Has (option_to_list o) x
has_option None x e = absurd (cc)
has_option (Some y) x e = inl (some_same y x e)

-- a position with its component
abbrev pub Placed : List Component → List ℕ → Component → Type 0
Placed cs ks d = (k : ℕ) × Has ks k × (slice_get cs k ≡ Some d)

placed_hosts : (cs : List Component) (tag : Name) (attrs : List TAttr) (d : Component) → Has (hosts cs tag attrs) d → Placed cs (host_positions cs tag attrs) d
placed_hosts cs tag attrs d h =
    let r : (k : ℕ) × Has (host_positions cs tag attrs) k × Has (component_at cs k) d = has_flat_map (component_at cs) (host_positions cs tag attrs) d (subst (λ (l : List Component). Has l d) (sym (hosts_at cs tag attrs)) h) in
    (r.0, r.1, option_has (slice_get cs r.0) d r.2)

hosts_placed : (cs : List Component) (tag : Name) (attrs : List TAttr) (k : ℕ) (d : Component) → Has (host_positions cs tag attrs) k → slice_get cs k ≡ Some d → Has (hosts cs tag attrs) d
hosts_placed cs tag attrs k d h e =
    subst (λ (l : List Component). Has l d) (hosts_at cs tag attrs) (flat_map_has (component_at cs) (host_positions cs tag attrs) k d h (has_option (slice_get cs k) d e))

placed_layer : (cs : List Component) (l : TNode-F TNode Branch) (d : Component) → Has (layer_hosts cs l) d → Placed cs (layer_positions cs l) d
placed_layer cs (TNode-F.Element p tag attrs ts) d h = placed_hosts cs tag attrs d h
placed_layer cs (TNode-F.Text p pieces) d h = absurd h
placed_layer cs (TNode-F.If p bs) d h = absurd h
placed_layer cs (TNode-F.For p head ts empty) d h = absurd h
placed_layer cs (TNode-F.Switch p e bs) d h = absurd h
placed_layer cs (TNode-F.Let p n e) d h = absurd h

layer_placed : (cs : List Component) (l : TNode-F TNode Branch) (k : ℕ) (d : Component) → Has (layer_positions cs l) k → slice_get cs k ≡ Some d → Has (layer_hosts cs l) d
layer_placed cs (TNode-F.Element p tag attrs ts) k d h e = hosts_placed cs tag attrs k d h e
layer_placed cs (TNode-F.Text p pieces) k d h e = absurd h
layer_placed cs (TNode-F.If p bs) k d h e = absurd h
layer_placed cs (TNode-F.For p head ts empty) k d h e = absurd h
layer_placed cs (TNode-F.Switch p v bs) k d h e = absurd h
layer_placed cs (TNode-F.Let p n v) k d h e = absurd h

placed_used : (cs : List Component) (c d : Component) → Has (used_by cs c) d → Placed cs (used_positions cs c) d
unfolding node_positions
placed_used cs c d h =
    let r : (t : TNode) × Has (all_nodes c.template.nodes) t × Has (layer_hosts cs (out-TNode t)) d = has_flat_map (λ t. layer_hosts cs (out-TNode t)) (all_nodes c.template.nodes) d h in
    let q : Placed cs (layer_positions cs (out-TNode r.0)) d = placed_layer cs (out-TNode r.0) d r.2 in
    (q.0, flat_map_has (λ t. layer_positions cs (out-TNode t)) (all_nodes c.template.nodes) r.0 q.0 r.1 q.1, q.2)

used_placed : (cs : List Component) (c d : Component) (k : ℕ) → Has (used_positions cs c) k → slice_get cs k ≡ Some d → Has (used_by cs c) d
unfolding node_positions
used_placed cs c d k h e =
    let r : (t : TNode) × Has (all_nodes c.template.nodes) t × Has (layer_positions cs (out-TNode t)) k = has_flat_map (λ t. layer_positions cs (out-TNode t)) (all_nodes c.template.nodes) k h in
    flat_map_has (λ t. layer_hosts cs (out-TNode t)) (all_nodes c.template.nodes) r.0 d r.1 (layer_placed cs (out-TNode r.0) k d r.2 e)

-- ---- positions of components of a kind

pub when_has : (t : Bool) (at k : ℕ) → Has (when_at t at) k → (t ≡ true) × (at ≡ k)
when_has true at k h = elim h [ inl e ↦ (refl, e) | inr none ↦ absurd none ]
when_has false at k h = absurd h

pub has_when : (t : Bool) (at k : ℕ) → t ≡ true → at ≡ k → Has (when_at t at) k
has_when true at k e f = inl f
has_when false at k e f = absurd (cc)

abbrev pub Wanted : (Component → Bool) → List Component → ℕ → ℕ → Type 0
Wanted wanted cs at k = (j : ℕ) × (c : Component) × (k ≡ at + j) × (slice_get cs j ≡ Some c) × (wanted c ≡ true)

has_positions : (wanted : Component → Bool) (cs : List Component) (at k : ℕ) → Has (positions wanted at cs) k → Wanted wanted cs at k
has_positions wanted [] at k h = absurd h
has_positions wanted (c ∷ cs) at k h = elim (has_cases (when_at (wanted c) at) (positions wanted (at + 1) cs) k h) [
  | inl i ↦ (let r : (wanted c ≡ true) × (at ≡ k) = when_has (wanted c) at k i in (0, c, omega (arith, r.1), refl, r.0))
  | inr i ↦ (let r : Wanted wanted cs (at + 1) k = has_positions wanted cs (at + 1) k i in (suc r.0, r.1, omega (arith, r.2), r.3, r.4))
]

positions_have : (wanted : Component → Bool) (cs : List Component) (at j : ℕ) (c : Component) → slice_get cs j ≡ Some c → wanted c ≡ true → Has (positions wanted at cs) (at + j)
positions_have wanted [] at j c here is = absurd (cc)
positions_have wanted (x ∷ cs) at zero c here is =
    has_left (when_at (wanted x) at) (positions wanted (at + 1) cs) (at + 0) (has_when (wanted x) at (at + 0) (ap wanted (some_same x c here) ∙ is) (omega arith))
positions_have wanted (x ∷ cs) at (suc j) c here is =
    let e : (at + 1) + j ≡ at + suc j = omega arith in
    has_right (when_at (wanted x) at) (positions wanted (at + 1) cs) (at + suc j) (subst (Has (positions wanted (at + 1) cs)) e (positions_have wanted cs (at + 1) j c here is))

-- ---- walks

abbrev pub first_ones : List Component → List ℕ
first_ones cs = positions (λ c. c.onpush) 0 cs

walk_skipped : (cs : List Component) (s n k : ℕ) (c : Component) → In (first_ones cs) s → Walk (used_graph cs) s k n → slice_get cs k ≡ Some c → MayBeSkipped cs c
walk_skipped cs s zero k c i w here =
    let r : Wanted (λ d. d.onpush) cs 0 s = has_positions (λ d. d.onpush) cs 0 s (has_from_in (first_ones cs) s i) in
    let e : r.0 ≡ k = omega (arith, r.2, w) in
    let same : r.1 ≡ c = some_same r.1 c (sym r.3 ∙ ap (slice_get cs) e ∙ here) in
    MayBeSkipped.on_push c (contains_from_has cs c (has_at_get cs k c here)) (ap (λ (d : Component). d.onpush) (sym same) ∙ r.4)
walk_skipped cs s (suc n) k c i (a, w, (row, there, j)) here =
    let m : (x : Component) × (slice_get cs a ≡ Some x) × (used_positions cs x ≡ row) = get_map (used_positions cs) cs a row there in
    let h : Has (used_by cs m.0) c = used_placed cs m.0 c k (subst (λ (r : List ℕ). Has r k) (sym m.2) (has_from_in row k j)) here in
    MayBeSkipped.used m.0 c (walk_skipped cs s n a m.0 i w m.1) (contains_from_has (used_by cs m.0) c h)

skipped_walk : (cs : List Component) (c : Component) → MayBeSkipped cs c → (k : ℕ) × (slice_get cs k ≡ Some c) × IsReached (used_graph cs) (first_ones cs) k
skipped_walk cs _ (MayBeSkipped.on_push c h p) =
    let r : (k : ℕ) × (slice_get cs k ≡ Some c) = get_has cs c (has_from_contains cs c h) in
    let e : 0 + r.0 ≡ r.0 = omega arith in
    let i : Has (first_ones cs) r.0 = subst (Has (first_ones cs)) e (positions_have (λ d. d.onpush) cs 0 r.0 c r.1 p) in
    (r.0, r.1, (r.0, 0, in_from_has (first_ones cs) r.0 i, refl))
skipped_walk cs _ (MayBeSkipped.used c d s h) =
    let q : (k : ℕ) × (slice_get cs k ≡ Some c) × IsReached (used_graph cs) (first_ones cs) k = skipped_walk cs c s in
    let r : Placed cs (used_positions cs c) d = placed_used cs c d (has_from_contains (used_by cs c) d h) in
    (r.0, r.2, edge_reached (used_graph cs) (first_ones cs) q.0 r.0 q.2 (used_positions cs c, map_get (used_positions cs) cs q.0 c q.1, in_from_has (used_positions cs c) r.0 r.1))

map_length : {X Y : Type 0} (f : X → Y) (xs : List X) → length (map f xs) ≡ length xs
map_length f [] = refl
map_length f (x ∷ xs) = ap suc (map_length f xs)

marks_skipped : (cs : List Component) (marks : List Bool) → MarksReached (used_graph cs) (first_ones cs) marks → MarksSkipped cs marks
marks_skipped cs marks m = record {
  long = m.long ∙ map_length (used_positions cs) cs;
  sound = λ k c here h. let r : IsReached (used_graph cs) (first_ones cs) k = m.sound k h in walk_skipped cs r.0 r.1 k c r.2 r.3 here;
  complete = λ c s. let q : (k : ℕ) × (slice_get cs k ≡ Some c) × IsReached (used_graph cs) (first_ones cs) k = skipped_walk cs c s in
      (q.0, q.1, m.complete q.0 (get_small (used_graph cs) q.0 (used_positions cs c) (map_get (used_positions cs) cs q.0 c q.1)) q.2);
}

skipped_are : (cs : List Component) (g : Graph) (starts : List ℕ) (marks : List Bool) → g ≡ used_graph cs → starts ≡ first_ones cs → MarksReached g starts marks → MarksSkipped cs marks
skipped_are cs g starts marks e f m = marks_skipped cs marks (subst (λ (z : Graph). MarksReached z (first_ones cs) marks) e (subst (λ (z : List ℕ). MarksReached g z marks) f m))

-- the marks, if there was memory for them, are those of the components whose check may be left out
pub answers_skipped : {A E : Type 0} (marks : A → List Bool) (cs : List Component) (g : Graph) (starts : List ℕ) (r : Result A E) → g ≡ used_graph cs → starts ≡ first_ones cs → IfOk r (λ m. MarksReached g starts (marks m))
    → IfOk r (λ m. MarksSkipped cs (marks m))
answers_skipped marks cs g starts (Ok m) e f h = skipped_are cs g starts (marks m) e f h
answers_skipped marks cs g starts (Err x) e f h = tt
