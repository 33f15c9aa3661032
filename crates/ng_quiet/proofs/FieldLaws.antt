-- The methods that assign fields are those from which a walk of calls leads to an assignment.
use Rattle.std.proofs.Common.{◌≡◌, refl, sym, ◌∙◌, ap, subst, ℕ, zero, suc, ◌+◌, Bool, true, false, not, ◌&&◌, ◌||◌, List, [], ◌∷◌, get_or, ◌⊎◌, inl, inr, Some, slice_get, IsTrue, arith}
use Rattle.std.specs.Prelude.{zip}
use Rattle.std.specs.List.{list_any}
use Rattle.ng_graph.specs.Walk.{Graph, Walk}
use Rattle.ng_ast.specs.declared.Member.{Member}
use Rattle.ng_ast.specs.declared.Component.{Component}
use Rattle.ng_scopes.specs.Declarations.{member_scope}
use Rattle.ng_hosts.specs.Hosts.{Name, when_at}
use Rattle.ng_quiet.specs.Reached.{IsReached, IsMarked, MarksReached}
use Rattle.ng_quiet.specs.Quiet.{usages_in, own_calls, assigns_itself, is_method, Assigns, KeepsFields}
use Rattle.ng_quiet.specs.Methods.{call_graph, assigning, called_methods}
use Rattle.ng_quiet.proofs.Members.{Has, has_cases, has_left, has_right, has_from_contains, contains_from_has, has_from_in, in_from_has, some_same, has_at_get, get_has, get_small, get_map, map_get, test_map, map_test}
use Rattle.ng_quiet.proofs.ReachedLaws.{edge_reached}
use Rattle.ng_quiet.proofs.SkippedLaws.{when_has, has_when}

-- ---- the methods whose names are called

abbrev pub is_start : (Name → Bool) → Member → Bool
is_start called m = is_method m && called m.name

abbrev pub Starts : (Name → Bool) → List Member → ℕ → ℕ → Type 0
Starts called ms at k = (j : ℕ) × (m : Member) × (k ≡ at + j) × (slice_get ms j ≡ Some m) × (is_start called m ≡ true)

has_starts : (called : Name → Bool) (ms : List Member) (at k : ℕ) → Has (called_methods called at ms) k → Starts called ms at k
has_starts called [] at k h = absurd h
has_starts called (m ∷ ms) at k h = elim (has_cases (when_at (is_start called m) at) (called_methods called (at + 1) ms) k h) [
  | inl i ↦ (let r : (is_start called m ≡ true) × (at ≡ k) = when_has (is_start called m) at k i in (0, m, omega (arith, r.1), refl, r.0))
  | inr i ↦ (let r : Starts called ms (at + 1) k = has_starts called ms (at + 1) k i in (suc r.0, r.1, omega (arith, r.2), r.3, r.4))
]

starts_have : (called : Name → Bool) (ms : List Member) (at j : ℕ) (m : Member) → slice_get ms j ≡ Some m → is_start called m ≡ true → Has (called_methods called at ms) (at + j)
starts_have called [] at j m here is = absurd (cc)
starts_have called (x ∷ ms) at zero m here is =
    has_left (when_at (is_start called x) at) (called_methods called (at + 1) ms) (at + 0) (has_when (is_start called x) at (at + 0) (ap (is_start called) (some_same x m here) ∙ is) (omega arith))
starts_have called (x ∷ ms) at (suc j) m here is =
    let e : (at + 1) + j ≡ at + suc j = omega arith in
    has_right (when_at (is_start called x) at) (called_methods called (at + 1) ms) (at + suc j) (subst (Has (called_methods called (at + 1) ms)) e (starts_have called ms (at + 1) j m here is))

-- ---- marks that meet assignments

abbrev pub meets : List Bool → List Bool → Bool
meets marks flags = list_any (λ (p : Bool × Bool). p.0 && p.1) (zip marks flags)

both_true : (a b : Bool) → (a && b) ≡ true → (a ≡ true) × (b ≡ true)
both_true true b h = (refl, h)
both_true false b h = absurd (cc)

true_both : (a b : Bool) → a ≡ true → b ≡ true → (a && b) ≡ true
true_both true b e f = f
true_both false b e f = e

or_cases : (a b : Bool) → (a || b) ≡ true → (a ≡ true) ⊎ (b ≡ true)
or_cases true b h = inl refl
or_cases false b h = inr h

or_left : (a b : Bool) → a ≡ true → (a || b) ≡ true
or_left true b h = refl
or_left false b h = absurd (cc)

or_right : (a b : Bool) → b ≡ true → (a || b) ≡ true
or_right true b h = refl
or_right false b h = h

meets_at : (marks flags : List Bool) → meets marks flags ≡ true → (k : ℕ) × IsMarked marks k × (get_or flags k false ≡ true)
meets_at [] flags h = absurd (cc)
meets_at (m ∷ marks) [] h = absurd (cc)
meets_at (m ∷ marks) (f ∷ flags) h = elim (or_cases (m && f) (meets marks flags) h) [
  | inl i ↦ (let r : (m ≡ true) × (f ≡ true) = both_true m f i in (0, r.0, r.1))
  | inr i ↦ (let r : (k : ℕ) × IsMarked marks k × (get_or flags k false ≡ true) = meets_at marks flags i in (suc r.0, r.1, r.2))
]

at_meets : (marks flags : List Bool) (k : ℕ) → IsMarked marks k → get_or flags k false ≡ true → meets marks flags ≡ true
at_meets [] flags k h i = absurd (cc)
at_meets (m ∷ marks) [] k h i = absurd (cc)
at_meets (m ∷ marks) (f ∷ flags) zero h i = or_left (m && f) (meets marks flags) (true_both m f h i)
at_meets (m ∷ marks) (f ∷ flags) (suc k) h i = or_right (m && f) (meets marks flags) (at_meets marks flags k h i)

-- ---- walks

abbrev pub calls_of : Component → Graph
calls_of c = call_graph (member_scope c.members) c.members

abbrev pub flags_of : Component → List Bool
flags_of c = assigning (member_scope c.members) c.members

walk_assigns : (c : Component) (s n k : ℕ) (m x : Member) → Walk (calls_of c) s k n → slice_get c.members k ≡ Some x → Assigns c x → slice_get c.members s ≡ Some m → Assigns c m
walk_assigns c s zero k m x w there a here = subst (Assigns c) (some_same x m (sym there ∙ ap (slice_get c.members) (sym w) ∙ here)) a
walk_assigns c s (suc n) k m x (b, w, (row, at_b, i)) there a here =
    let r : (y : Member) × (slice_get c.members b ≡ Some y) × (own_calls (usages_in c y) ≡ row) = get_map (λ y. own_calls (usages_in c y)) c.members b row at_b in
    let h : Has (own_calls (usages_in c r.0)) k = subst (λ (l : List ℕ). Has l k) (sym r.2) (has_from_in row k i) in
    walk_assigns c s n b m r.0 w r.1 (Assigns.by_call r.0 x k (contains_from_has (own_calls (usages_in c r.0)) k h) there a) here

-- a member that assigns a field itself, at a position that is reached
abbrev pub Ends : Component → List ℕ → Type 0
Ends c starts = (k : ℕ) × (x : Member) × (slice_get c.members k ≡ Some x) × IsTrue (assigns_itself (usages_in c x)) × IsReached (calls_of c) starts k

assigns_walk : (c : Component) (starts : List ℕ) (m : Member) → Assigns c m → (s : ℕ) → slice_get c.members s ≡ Some m → IsReached (calls_of c) starts s → Ends c starts
assigns_walk c starts _ (Assigns.itself m h) s here r = (s, m, here, h, r)
assigns_walk c starts _ (Assigns.by_call m n at h there a) s here r =
    assigns_walk c starts n a at there
    (edge_reached (calls_of c) starts s at r (own_calls (usages_in c m), map_get (λ y. own_calls (usages_in c y)) c.members s m here, in_from_has (own_calls (usages_in c m)) at (has_from_contains (own_calls (usages_in c m)) at h)))

both_ways : (b : Bool) (P : Type 0) → (b ≡ true → P → ⊥) → ((b ≡ true → ⊥) → P) → (IsTrue (not b) → P) × (P → IsTrue (not b))
both_ways true P never always = (λ h. absurd (cc), λ p. absurd (never refl p))
both_ways false P never always = (λ h. always (λ e. cc), λ p. refl)

module _ (c : Component) (called : Name → Bool) (marks : List Bool) (m : MarksReached (calls_of c) (called_methods called 0 c.members) marks) where
  breaks : meets marks (flags_of c) ≡ true → KeepsFields called c → ⊥
  breaks h keeps =
      let r : (k : ℕ) × IsMarked marks k × (get_or (flags_of c) k false ≡ true) = meets_at marks (flags_of c) h in
      let x : (y : Member) × (slice_get c.members r.0 ≡ Some y) × (assigns_itself (usages_in c y) ≡ true) = test_map (λ y. assigns_itself (usages_in c y)) c.members r.0 r.2 in
      let w : IsReached (calls_of c) (called_methods called 0 c.members) r.0 = m.sound r.0 r.1 in
      let s : Starts called c.members 0 w.0 = has_starts called c.members 0 w.0 (has_from_in (called_methods called 0 c.members) w.0 w.2) in
      let e : s.0 ≡ w.0 = omega (arith, s.2) in
      let t : (is_method s.1 ≡ true) × (called s.1.name ≡ true) = both_true (is_method s.1) (called s.1.name) s.4 in
      let a : Assigns c s.1 = walk_assigns c w.0 w.1 r.0 s.1 x.0 w.3 x.1 (Assigns.itself x.0 x.2) (ap (slice_get c.members) (sym e) ∙ s.3) in
      keeps s.1 (contains_from_has c.members s.1 (has_at_get c.members s.0 s.1 s.3)) t.0 a t.1

  holds : (meets marks (flags_of c) ≡ true → ⊥) → KeepsFields called c
  holds none x h method a is =
      let s : (k : ℕ) × (slice_get c.members k ≡ Some x) = get_has c.members x (has_from_contains c.members x h) in
      let z : 0 + s.0 ≡ s.0 = omega arith in
      let i : Has (called_methods called 0 c.members) s.0 = subst (Has (called_methods called 0 c.members)) z (starts_have called c.members 0 s.0 x s.1 (true_both (is_method x) (called x.name) method is)) in
      let e : Ends c (called_methods called 0 c.members) = assigns_walk c (called_methods called 0 c.members) x a s.0 s.1 (s.0, 0, in_from_has (called_methods called 0 c.members) s.0 i, refl) in
      let k : IsMarked marks e.0 = m.complete e.0 (get_small (calls_of c) e.0 (own_calls (usages_in c e.1)) (map_get (λ y. own_calls (usages_in c y)) c.members e.0 e.1 e.2)) e.4 in
      none (at_meets marks (flags_of c) e.0 k (map_test (λ y. assigns_itself (usages_in c y)) c.members e.0 e.1 e.2 ∙ e.3))

  keeps_here : (IsTrue (not (meets marks (flags_of c))) → KeepsFields called c) × (KeepsFields called c → IsTrue (not (meets marks (flags_of c))))
  keeps_here = both_ways (meets marks (flags_of c)) (KeepsFields called c) breaks holds

-- no mark meets an assignment exactly where the component keeps its fields
pub keeps_are : (c : Component) (called : Name → Bool) (g : Graph) (starts : List ℕ) (flags marks : List Bool)
    → g ≡ calls_of c → starts ≡ called_methods called 0 c.members → flags ≡ flags_of c → MarksReached g starts marks
    → (IsTrue (not (meets marks flags)) → KeepsFields called c) × (KeepsFields called c → IsTrue (not (meets marks flags)))
keeps_are c called g starts flags marks e f h m =
    subst (λ (z : List Bool). (IsTrue (not (meets marks z)) → KeepsFields called c) × (KeepsFields called c → IsTrue (not (meets marks z)))) (sym h)
    (keeps_here c called marks (subst (λ (z : Graph). MarksReached z (called_methods called 0 c.members) marks) e (subst (λ (z : List ℕ). MarksReached g z marks) f m)))
