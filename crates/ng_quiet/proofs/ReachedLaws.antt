-- Steps of the search.
use Rattle.std.proofs.Common.{◌≡◌, refl, sym, ◌∙◌, ap, subst, ℕ, zero, suc, ◌+◌, ◌<◌, Bool, true, false, List, [], ◌∷◌, ◌++◌, length, get_or, set, ◌⊎◌, inl, inr, replicate, take, slice_get, Some, length-append, arith}
use Rattle.std.proofs.lemmas.List.{length-replicate}
use Rattle.ng_graph.specs.Walk.{In, Graph, HasEdge, Walk}
use Rattle.ng_graph.proofs.Steps.{in_left, in_right, in_cases}
use Rattle.ng_quiet.specs.Reached.{IsReached, IsMarked, MarksReached, Searches, left, Takes}
use Rattle.ng_quiet.proofs.Members.{some_same, get_small}

set_marks : (m : List Bool) (i k : ℕ) → IsMarked (set m i true) k → IsMarked m k ⊎ (i ≡ k)
set_marks [] i k h = inl h
set_marks (x ∷ m) zero zero h = inr refl
set_marks (x ∷ m) zero (suc k) h = inl h
set_marks (x ∷ m) (suc i) zero h = inl h
set_marks (x ∷ m) (suc i) (suc k) h = elim (set_marks m i k h) [ inl a ↦ inl a | inr e ↦ inr (ap suc e) ]

set_keeps : (m : List Bool) (i k : ℕ) → IsMarked m k → IsMarked (set m i true) k
set_keeps [] i k h = h
set_keeps (x ∷ m) zero zero h = refl
set_keeps (x ∷ m) zero (suc k) h = h
set_keeps (x ∷ m) (suc i) zero h = h
set_keeps (x ∷ m) (suc i) (suc k) h = set_keeps m i k h

set_here : (m : List Bool) (i : ℕ) → i < length m → IsMarked (set m i true) i
set_here [] i h = absurd (omega arith)
set_here (x ∷ m) zero h = refl
set_here (x ∷ m) (suc i) h = set_here m i (omega arith)

set_length : (m : List Bool) (i : ℕ) → length (set m i true) ≡ length m
set_length [] i = refl
set_length (x ∷ m) zero = refl
set_length (x ∷ m) (suc i) = omega (arith, set_length m i)

set_left : (m : List Bool) (g : Graph) (i : ℕ) (row : List ℕ) → slice_get g i ≡ Some row → i < length m → get_or m i false ≡ false → left (set m i true) g + suc (length row) ≡ left m g
set_left [] g i row e h free = absurd (omega arith)
set_left (x ∷ m) [] i row e h free = absurd (cc)
set_left (true ∷ m) (r ∷ g) zero row e h free = absurd (cc)
set_left (false ∷ m) (r ∷ g) zero row e h free = omega (arith, ap length (some_same r row e))
set_left (true ∷ m) (r ∷ g) (suc i) row e h free = set_left m g i row e (omega arith) free
set_left (false ∷ m) (r ∷ g) (suc i) row e h free = omega (arith, set_left m g i row e (omega arith) free)

no_marks : (n k : ℕ) → IsMarked (replicate n false) k → ⊥
no_marks zero k h = absurd (cc)
no_marks (suc n) zero h = absurd (cc)
no_marks (suc n) (suc k) h = no_marks n k h

start_reached : (g : Graph) (starts : List ℕ) (k : ℕ) → In starts k → IsReached g starts k
start_reached g starts k i = (k, 0, i, refl)

pub edge_reached : (g : Graph) (starts : List ℕ) (a b : ℕ) → IsReached g starts a → HasEdge g a b → IsReached g starts b
edge_reached g starts a b (s, n, i, w) edge = (s, suc n, i, (a, w, edge))

-- where the search begins
pub searches_first : (g : Graph) (starts : List ℕ) (n : ℕ) → n ≡ length g → Searches g starts (replicate n false) starts
searches_first g starts n e = record {
  long = length-replicate n false ∙ e;
  marked = λ k h. absurd (no_marks n k h);
  ahead = λ k i. start_reached g starts k i;
  first = λ k i small. inr i;
  next = λ a b h edge small. absurd (no_marks n a h);
}

edge_in : (g : Graph) (a b : ℕ) (row : List ℕ) → slice_get g a ≡ Some row → HasEdge g a b → In row b
edge_in g a b row here (other, there, i) = subst (λ (z : List ℕ). In z b) (some_same other row (sym there ∙ here)) i

-- one of the nodes ahead is no node, or has a mark
passed : (m : List Bool) (node : ℕ) (p : List ℕ) (k : ℕ) → (node ≡ k → IsMarked m k) → IsMarked m k ⊎ In (p ++ node ∷ []) k → IsMarked m k ⊎ In p k
passed m node p k out (inl h) = inl h
passed m node p k out (inr i) = elim (in_cases p (node ∷ []) k i) [
  | inl j ↦ inr j
  | inr j ↦ elim j [ inl e ↦ inl (out e) | inr none ↦ absurd none ]
]

searches_past : (g : Graph) (starts : List ℕ) (m : List Bool) (p : List ℕ) (node : ℕ) → Searches g starts m (p ++ node ∷ []) → ((k : ℕ) → k < length g → node ≡ k → IsMarked m k) → Searches g starts m p
searches_past g starts m p node s out = record {
  long = s.long;
  marked = s.marked;
  ahead = λ k i. s.ahead k (in_left p (node ∷ []) k i);
  first = λ k i small. passed m node p k (out k small) (s.first k i small);
  next = λ a b h edge small. passed m node p b (out b small) (s.next a b h edge small);
}

-- one of the nodes ahead gets a mark
taken : (m : List Bool) (node : ℕ) (p row : List ℕ) (k : ℕ) → node < length m → IsMarked m k ⊎ In (p ++ node ∷ []) k → IsMarked (set m node true) k ⊎ In (p ++ row) k
taken m node p row k small (inl h) = inl (set_keeps m node k h)
taken m node p row k small (inr i) = elim (in_cases p (node ∷ []) k i) [
  | inl j ↦ inr (in_left p row k j)
  | inr j ↦ elim j [ inl e ↦ inl (subst (IsMarked (set m node true)) e (set_here m node small)) | inr none ↦ absurd none ]
]

searches_on : (g : Graph) (starts : List ℕ) (m : List Bool) (p : List ℕ) (node : ℕ) (row : List ℕ) → Searches g starts m (p ++ node ∷ []) → slice_get g node ≡ Some row → node < length m
    → Searches g starts (set m node true) (p ++ row)
searches_on g starts m p node row s here small =
    let reached : IsReached g starts node = s.ahead node (in_right p (node ∷ []) node (inl refl)) in
    record {
      long = set_length m node ∙ s.long;
      marked = λ k h. elim (set_marks m node k h) [ inl i ↦ s.marked k i | inr e ↦ subst (IsReached g starts) e reached ];
      ahead = λ k i. elim (in_cases p row k i) [ inl j ↦ s.ahead k (in_left p (node ∷ []) k j) | inr j ↦ edge_reached g starts node k reached (row, here, j) ];
      first = λ k i below. taken m node p row k small (s.first k i below);
      next = λ a b h edge below. elim (set_marks m node a h) [
        | inl i ↦ taken m node p row b small (s.next a b i edge below)
        | inr e ↦ inr (in_right p row b (edge_in g node b row here (subst (λ (z : ℕ). HasEdge g z b) (sym e) edge)))
      ];
    }

pub searches_same : (g : Graph) (starts : List ℕ) (m n : List Bool) (p q : List ℕ) → n ≡ m → q ≡ p → Searches g starts m p → Searches g starts n q
searches_same g starts m n p q e f s = subst (λ (z : List Bool). Searches g starts z q) (sym e) (subst (Searches g starts m) (sym f) s)

-- one node
pub searches_next : (g : Graph) (starts : List ℕ) (node : ℕ) (m n : List Bool) (whole p q : List ℕ) → whole ≡ p ++ node ∷ [] → Searches g starts m whole → Takes g node m n p q → Searches g starts n q
searches_next g starts node m n whole p q cut s (Takes.no_node past e f) =
    searches_same g starts m n p q e f (searches_past g starts m p node (subst (Searches g starts m) cut s) (λ k small same. absurd (omega arith)))
searches_next g starts node m n whole p q cut s (Takes.met h e f) =
    searches_same g starts m n p q e f (searches_past g starts m p node (subst (Searches g starts m) cut s) (λ k small same. subst (IsMarked m) same h))
searches_next g starts node m n whole p q cut s (Takes.fresh row here small free e f) =
    searches_same g starts (set m node true) n (p ++ row) q e f (searches_on g starts m p node row (subst (Searches g starts m) cut s) here small)

-- each node makes what is left less
pub left_falls : (g : Graph) (node : ℕ) (m n : List Bool) (whole p q : List ℕ) → whole ≡ p ++ node ∷ [] → Takes g node m n p q → length q + left n g < length whole + left m g
left_falls g node m n whole p q cut (Takes.no_node past e f) =
    omega (arith, ap length cut, length-append p (node ∷ []), ap length f, ap (λ (z : List Bool). left z g) e)
left_falls g node m n whole p q cut (Takes.met h e f) =
    omega (arith, ap length cut, length-append p (node ∷ []), ap length f, ap (λ (z : List Bool). left z g) e)
left_falls g node m n whole p q cut (Takes.fresh row here small free e f) =
    omega (arith, ap length cut, length-append p (node ∷ []), ap length f, length-append p row, ap (λ (z : List Bool). left z g) e, set_left m g node row here small free)

edge_starts : (g : Graph) (a b : ℕ) → HasEdge g a b → a < length g
edge_starts g a b (row, here, i) = get_small g a row here

none_ahead : {A : Type 0} → A ⊎ ⊥ → A
none_ahead (inl a) = a
none_ahead (inr h) = absurd h

walk_marked : (g : Graph) (starts : List ℕ) (m : List Bool) → Searches g starts m [] → (s n k : ℕ) → In starts s → Walk g s k n → k < length g → IsMarked m k
walk_marked g starts m s start zero k i w small = none_ahead (s.first k (subst (In starts) w i) small)
walk_marked g starts m s start (suc n) k i (a, w, edge) small = none_ahead (s.next a k (walk_marked g starts m s start n a i w (edge_starts g a k edge)) edge small)

-- nothing is left
pub searches_last : (g : Graph) (starts : List ℕ) (m : List Bool) (q : List ℕ) → q ≡ [] → Searches g starts m q → MarksReached g starts m
searches_last g starts m q none s = record {
  long = s.long;
  sound = s.marked;
  complete = λ k small (start, n, i, w). walk_marked g starts m (subst (Searches g starts m) none s) start n k i w small;
}

-- what was written to the whole of a list
pub written : (n rest : List Bool) (len : ℕ) → len ≡ length n → take len (n ++ rest) ≡ n
written [] rest zero e = refl
written [] rest (suc len) e = absurd (omega arith)
written (b ∷ n) rest zero e = absurd (omega arith)
written (b ∷ n) rest (suc len) e = ap (λ l. b ∷ l) (written n rest len (omega arith))

pub nothing_in : (xs : List ℕ) → length xs ≡ 0 → xs ≡ []
nothing_in [] e = refl
nothing_in (x ∷ xs) e = absurd (omega arith)
