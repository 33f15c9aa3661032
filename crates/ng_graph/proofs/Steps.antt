-- Steps of the search.
use Rattle.std.proofs.Common.{◌≡◌, refl, sym, ◌∙◌, ap, subst, ℕ, zero, suc, ◌+◌, ◌≤◌, ◌<◌, Bool, true, false, List, [], ◌∷◌, ◌++◌, length, get_or, set, ◌⊎◌, inl, inr, arith, append-nil, append_assoc, length-append, take, replicate, slice_get, Some, IsTrue}
use Rattle.std.proofs.lemmas.List.{length-replicate}
use Rattle.ng_graph.specs.Walk.{In, Graph, HasEdge, Walk, IsOnCycle, Tells}
use Rattle.ng_graph.specs.Visit.{IsMarked, left, Visits, Searched}

pub in_left : (xs ys : List ℕ) (k : ℕ) → In xs k → In (xs ++ ys) k
in_left [] ys k h = absurd h
in_left (x ∷ xs) ys k (inl e) = inl e
in_left (x ∷ xs) ys k (inr h) = inr (in_left xs ys k h)

pub in_right : (xs ys : List ℕ) (k : ℕ) → In ys k → In (xs ++ ys) k
in_right [] ys k h = h
in_right (x ∷ xs) ys k h = inr (in_right xs ys k h)

pub in_cases : (xs ys : List ℕ) (k : ℕ) → In (xs ++ ys) k → In xs k ⊎ In ys k
in_cases [] ys k h = inr h
in_cases (x ∷ xs) ys k (inl e) = inl (inl e)
in_cases (x ∷ xs) ys k (inr h) = elim (in_cases xs ys k h) [ inl i ↦ inl (inr i) | inr j ↦ inr j ]

set_marks : (m : List Bool) (i k : ℕ) → IsMarked (set m i true) k → IsMarked m k ⊎ (i ≡ k)
set_marks [] i k h = inl h
set_marks (x ∷ m) zero zero h = inr refl
set_marks (x ∷ m) zero (suc k) h = inl h
set_marks (x ∷ m) (suc i) zero h = inl h
set_marks (x ∷ m) (suc i) (suc k) h = elim (set_marks m i k h) [ inl a ↦ inl a | inr e ↦ inr (ap suc e) ]

set_keeps : (m : List Bool) (i k : ℕ) → IsMarked m k → IsMarked (set m i true) k
set_keeps [] i k h = h
set_keeps (x ∷ m) zero zero h = refl
set_keeps (x ∷ m) zero (suc k) h = h
set_keeps (x ∷ m) (suc i) zero h = h
set_keeps (x ∷ m) (suc i) (suc k) h = set_keeps m i k h

set_here : (m : List Bool) (i : ℕ) → i < length m → IsMarked (set m i true) i
set_here [] i h = absurd (omega arith)
set_here (x ∷ m) zero h = refl
set_here (x ∷ m) (suc i) h = set_here m i (omega arith)

set_left : (m : List Bool) (i : ℕ) → i < length m → get_or m i false ≡ false → 1 + left (set m i true) ≡ left m
set_left [] i h e = absurd (omega arith)
set_left (true ∷ m) zero h e = absurd (cc)
set_left (false ∷ m) zero h e = omega arith
set_left (true ∷ m) (suc i) h e = set_left m i (omega arith) e
set_left (false ∷ m) (suc i) h e = omega (arith, set_left m i (omega arith) e)

set_length : (m : List Bool) (i : ℕ) → length (set m i true) ≡ length m
set_length [] i = refl
set_length (x ∷ m) zero = refl
set_length (x ∷ m) (suc i) = omega (arith, set_length m i)

pub visits_start : (m : List Bool) (p : List ℕ) → Visits [] m m p p
visits_start m p = record { more = []; queued = sym (append-nil p); wanted = λ k h. h; inside = λ k h. absurd h; marks = λ k h. inl h; keeps = λ k h. h; all = λ k h b. absurd h; same = refl; falls = omega arith }

pub visits_none : (w : ℕ) (m : List Bool) (p : List ℕ) → IsMarked m w → Visits (w ∷ []) m m p p
visits_none w m p h = record {
  more = [];
  queued = sym (append-nil p);
  wanted = λ k i. absurd i;
  inside = λ k i. absurd i;
  marks = λ k i. inl i;
  keeps = λ k i. i;
  all = λ k i b. elim i [ inl e ↦ subst (IsMarked m) e h | inr none ↦ absurd none ];
  same = refl;
  falls = omega arith;
}

-- a number that is no node's
pub visits_outside : (w : ℕ) (m : List Bool) (p : List ℕ) → length m ≤ w → Visits (w ∷ []) m m p p
visits_outside w m p h = record {
  more = [];
  queued = sym (append-nil p);
  wanted = λ k i. absurd i;
  inside = λ k i. absurd i;
  marks = λ k i. inl i;
  keeps = λ k i. i;
  all = λ k i b. elim i [ inl e ↦ absurd (omega arith) | inr none ↦ absurd none ];
  same = refl;
  falls = omega arith;
}

pub visits_one : (w : ℕ) (m n : List Bool) (p q : List ℕ) → w < length m → get_or m w false ≡ false → n ≡ set m w true → q ≡ p ++ w ∷ [] → Visits (w ∷ []) m n p q
visits_one w m n p q h e en eq = subst (λ z. Visits (w ∷ []) m z p q) (sym en) (record {
  more = w ∷ [];
  queued = eq;
  wanted = λ k i. i;
  inside = λ k i. elim i [ inl b ↦ subst (λ z. z < length m) b h | inr none ↦ absurd none ];
  marks = λ k i. elim (set_marks m w k i) [ inl a ↦ inl a | inr b ↦ inr (inl b) ];
  keeps = λ k i. set_keeps m w k i;
  all = λ k i below. elim i [ inl b ↦ subst (IsMarked (set m w true)) b (set_here m w h) | inr none ↦ absurd none ];
  same = set_length m w;
  falls = set_left m w h e;
})

pub visits_then : (r s : List ℕ) (l m n : List Bool) (o p q : List ℕ) → Visits r l m o p → Visits s m n p q → Visits (r ++ s) l n o q
visits_then r s l m n o p q a b = record {
  more = a.more ++ b.more;
  queued = b.queued ∙ ap (λ z. z ++ b.more) a.queued ∙ append_assoc o a.more b.more;
  wanted = λ k i. elim (in_cases a.more b.more k i) [ inl x ↦ in_left r s k (a.wanted k x) | inr y ↦ in_right r s k (b.wanted k y) ];
  inside = λ k i. elim (in_cases a.more b.more k i) [ inl x ↦ a.inside k x | inr y ↦ subst (λ z. k < z) a.same (b.inside k y) ];
  marks = λ k i. elim (b.marks k i) [ inl x ↦ elim (a.marks k x) [ inl y ↦ inl y | inr y ↦ inr (in_left a.more b.more k y) ] | inr y ↦ inr (in_right a.more b.more k y) ];
  keeps = λ k i. b.keeps k (a.keeps k i);
  all = λ k i below. elim (in_cases r s k i) [ inl x ↦ b.keeps k (a.all k x below) | inr y ↦ b.all k y (subst (λ z. k < z) (sym a.same) below) ];
  same = b.same ∙ a.same;
  falls = omega (arith, length-append a.more b.more, a.falls, b.falls);
}

pub in_at : (xs : List ℕ) (i : ℕ) → i < length xs → In xs (get_or xs i 0)
in_at [] i h = absurd (omega arith)
in_at (x ∷ xs) zero h = inl refl
in_at (x ∷ xs) (suc i) h = inr (in_at xs i (omega arith))

pub take_next : (xs : List ℕ) (i : ℕ) → i < length xs → take i xs ++ get_or xs i 0 ∷ [] ≡ take (i + 1) xs
take_next [] i h = absurd (omega arith)
take_next (x ∷ xs) zero h = refl
take_next (x ∷ xs) (suc i) h = let e : suc (i + 1) ≡ suc i + 1 = omega arith in ap (λ z. x ∷ z) (take_next xs i (omega arith)) ∙ ap (λ k. take k (x ∷ xs)) e

-- ---- the search

take_front : (xs ys : List ℕ) (i : ℕ) → i ≤ length xs → take i (xs ++ ys) ≡ take i xs
take_front xs ys zero h = refl
take_front [] ys (suc i) h = absurd (omega arith)
take_front (x ∷ xs) ys (suc i) h = ap (λ z. x ∷ z) (take_front xs ys i (omega arith))

edge_in : (g : Graph) (a b : ℕ) (row : List ℕ) → slice_get g a ≡ Some row → HasEdge g a b → In row b
edge_in g a b row here (other, there, i) = let e : other ≡ row = (let f : Some other ≡ Some row = sym there ∙ here in cc) in subst (λ z. In z b) e i

-- one node more
pub searched_more : (g : Graph) (start : ℕ) (m n : List Bool) (q r : List ℕ) (at a : ℕ) (row : List ℕ) → Searched g start m q at → at < length q → get_or q at 0 ≡ a → slice_get g a ≡ Some row
    → Visits row m n q r → Searched g start n r (at + 1)
searched_more g start m n q r at a row s h e here v =
    let w : (k : ℕ) × Walk g start a k = s.reached a (subst (In q) e (in_at q at h)) in
    let step : (k : ℕ) → In row k → Walk g start k (suc w.0) = λ k i. (a, w.1, (row, here, i)) in
    let cut : take (at + 1) r ≡ take at q ++ a ∷ [] = ap (take (at + 1)) v.queued ∙ take_front q v.more (at + 1) (omega arith) ∙ sym (take_next q at h) ∙ ap (λ z. take at q ++ z ∷ []) e in
    record {
      long = v.same ∙ s.long;
      within = omega (arith, ap length v.queued, length-append q v.more);
      first = subst (λ z. In z start) (sym v.queued) (in_left q v.more start s.first);
      below = λ k i. elim (in_cases q v.more k (subst (λ z. In z k) v.queued i)) [ inl x ↦ s.below k x | inr y ↦ subst (λ z. k < z) s.long (v.inside k y) ];
      reached = λ k i. elim (in_cases q v.more k (subst (λ z. In z k) v.queued i)) [ inl x ↦ s.reached k x | inr y ↦ (suc w.0, step k (v.wanted k y)) ];
      sound = λ k i. elim (v.marks k i) [ inl x ↦ s.sound k x | inr y ↦ (w.0, step k (v.wanted k y)) ];
      queued = λ k i. subst (λ z. In z k) (sym v.queued) (elim (v.marks k i) [ inl x ↦ in_left q v.more k (s.queued k x) | inr y ↦ in_right q v.more k y ]);
      closed = λ x b i edge within. elim (in_cases (take at q) (a ∷ []) x (subst (λ z. In z x) cut i)) [
        | inl j ↦ v.keeps b (s.closed x b j edge within)
        | inr j ↦ elim j [ inl f ↦ v.all b (edge_in g a b row here (subst (λ z. HasEdge g z b) (sym f) edge)) (subst (λ z. b < z) (sym s.long) within) | inr none ↦ absurd none ]
      ];
    }

has_row : (g : Graph) (a : ℕ) (row : List ℕ) → slice_get g a ≡ Some row → a < length g
has_row [] a row h = absurd (cc)
has_row (x ∷ g) zero row h = omega arith
has_row (x ∷ g) (suc a) row h = omega (arith, has_row g a row h)

edge_starts : (g : Graph) (a b : ℕ) → HasEdge g a b → a < length g
edge_starts g a b (row, here, i) = has_row g a row here

-- a walk of an edge or more begins with an edge
walk_begins : (g : Graph) (a b n : ℕ) → Walk g a b (suc n) → (c : ℕ) × HasEdge g a c
walk_begins g a b zero (c, w, edge) = (b, subst (λ z. HasEdge g z b) (sym w) edge)
walk_begins g a b (suc n) (c, w, edge) = walk_begins g a c n w

-- a walk of an edge or more starts at a node
pub walk_starts : (g : Graph) (a b n : ℕ) → Walk g a b (suc n) → a < length g
walk_starts g a b n w = let e : (c : ℕ) × HasEdge g a c = walk_begins g a b n w in edge_starts g a e.0 e.1

-- every walk of an edge or more ends at a marked node, if at a node
ends_marked : (g : Graph) (start : ℕ) (m : List Bool) (q : List ℕ) (at : ℕ) → Searched g start m q at → take at q ≡ q → (n k : ℕ) → k < length g → Walk g start k (suc n) → IsMarked m k
ends_marked g start m q at s e zero k h (c, w, edge) = s.closed c k (subst (λ z. In z c) (sym e) (subst (In q) w s.first)) edge h
ends_marked g start m q at s e (suc n) k h (c, w, edge) = s.closed c k (subst (λ z. In z c) (sym e) (s.queued c (ends_marked g start m q at s e n c (edge_starts g c k edge) w))) edge h

take_whole : (xs : List ℕ) (i : ℕ) → length xs ≤ i → take i xs ≡ xs
take_whole [] zero h = refl
take_whole [] (suc i) h = refl
take_whole (x ∷ xs) zero h = absurd (omega arith)
take_whole (x ∷ xs) (suc i) h = ap (λ z. x ∷ z) (take_whole xs i (omega arith))

pub searched_all : (g : Graph) (start : ℕ) (m : List Bool) (q : List ℕ) (at : ℕ) → Searched g start m q at → length q ≤ at → (IsMarked m start → IsOnCycle g start) × (IsOnCycle g start → IsMarked m start)
searched_all g start m q at s h = (s.sound start, λ (n, w). ends_marked g start m q at s (take_whole q at h) n start (walk_starts g start start n w) w)

-- what is no node is on no cycle
pub none_outside : (g : Graph) (start : ℕ) → length g ≤ start → (IsTrue false → IsOnCycle g start) × (IsOnCycle g start → IsTrue false)
none_outside g start h = (λ impossible. absurd (cc), λ (n, w). absurd (omega (arith, walk_starts g start start n w)))

-- what no edge leaves is on no cycle
pub none_left : (g : Graph) (start : ℕ) (row : List ℕ) → slice_get g start ≡ Some row → row ≡ [] → (IsTrue false → IsOnCycle g start) × (IsOnCycle g start → IsTrue false)
none_left g start row here e = (λ impossible. absurd (cc), λ (n, w). let f : (c : ℕ) × HasEdge g start c = walk_begins g start start n w in absurd (subst (λ z. In z f.0) e (edge_in g start f.0 row here f.1)))

no_marks : (n k : ℕ) → IsMarked (replicate n false) k → ⊥
no_marks zero k h = absurd (cc)
no_marks (suc n) zero h = absurd (cc)
no_marks (suc n) (suc k) h = no_marks n k h

pub searched_none : (g : Graph) (start n : ℕ) → n ≡ length g → start < length g → Searched g start (replicate n false) (start ∷ []) 0
searched_none g start n e h = record {
  long = length-replicate n false ∙ e;
  within = omega arith;
  first = inl refl;
  below = λ k i. elim i [ inl x ↦ subst (λ z. z < length g) x h | inr none ↦ absurd none ];
  reached = λ k i. elim i [ inl x ↦ (0, x) | inr none ↦ absurd none ];
  sound = λ k i. absurd (no_marks n k i);
  queued = λ k i. absurd (no_marks n k i);
  closed = λ a b i edge below. absurd i;
}

get_front : (xs : List Bool) (b : Bool) (k : ℕ) → k < length xs → get_or (xs ++ b ∷ []) k false ≡ get_or xs k false
get_front [] b k h = absurd (omega arith)
get_front (x ∷ xs) b zero h = refl
get_front (x ∷ xs) b (suc k) h = get_front xs b k (omega arith)

get_last : (xs : List Bool) (b : Bool) → get_or (xs ++ b ∷ []) (length xs) false ≡ b
get_last [] b = refl
get_last (x ∷ xs) b = get_last xs b

pub told_none : (g : Graph) → Tells g []
told_none g k h = absurd (omega arith)

split_below : (k n : ℕ) → k < suc n → (k < n) ⊎ (k ≡ n)
split_below zero zero h = inr refl
split_below zero (suc n) h = inl (omega arith)
split_below (suc k) zero h = absurd (omega arith)
split_below (suc k) (suc n) h = elim (split_below k n (omega arith)) [ inl a ↦ inl (omega arith) | inr e ↦ inr (ap suc e) ]

-- the answer at one node more
pub told_more : (g : Graph) (xs : List Bool) (b : Bool) → Tells g xs → (IsTrue b → IsOnCycle g (length xs)) × (IsOnCycle g (length xs) → IsTrue b) → Tells g (xs ++ b ∷ [])
told_more g xs b told here k h = elim (split_below k (length xs) (omega (arith, length-append xs (b ∷ [])))) [
  | inl below ↦ subst (λ z. (IsTrue z → IsOnCycle g k) × (IsOnCycle g k → IsTrue z)) (sym (get_front xs b k below)) (told k below)
  | inr e ↦ subst (λ z. (IsTrue (get_or (xs ++ b ∷ []) z false) → IsOnCycle g z) × (IsOnCycle g z → IsTrue (get_or (xs ++ b ∷ []) z false))) (sym e)
      (subst (λ z. (IsTrue z → IsOnCycle g (length xs)) × (IsOnCycle g (length xs) → IsTrue z)) (sym (get_last xs b)) here)
]
