-- Pieces of a list that have regions of their own, where what is handed in may stand among them.
use Rattle.std.specs.Prelude.{◌≡◌, ◌⊎◌, ℕ, List, [], ◌∷◌, ◌++◌, map, refl}
use Rattle.std.specs.List.{flat_map}
use Rattle.std.proofs.Common.{inl, inr, sym, subst}
use Rattle.ng_meaning.specs.Laws.Apart.{In, Apart, In-append, Apart-append}

-- items of each slot, which are handed in from elsewhere
abbrev pub Given : Type 0 → Type 0
Given I = ℕ → List I

-- which places take what is in a slot
abbrev pub Takers : Type 0 → Type 1
Takers I = ℕ → I → Type 0

-- Each item that is handed in is so once, is none of those in a region, and each slot has one place at most that takes it.
pub record Fair {I : Type 0} (given : Given I) (takes : Takers I) (Inside : I → Type 0) : Type 0 where
  pub apart : (k : ℕ) → Apart (given k)
  pub one : (j k : ℕ) (i : I) → In i (given j) → In i (given k) → j ≡ k
  pub beyond : (k : ℕ) (i : I) → In i (given k) → Inside i → ⊥
  pub once : (k : ℕ) (c d : I) → takes k c → takes k d → c ≡ d

-- an item that was handed in, to a place in a region
abbrev pub Taken : {I : Type 0} → Given I → Takers I → (I → Type 0) → I → Type 0
Taken given takes R i = (k : ℕ) × (c : _) × takes k c × R c × In i (given k)

-- items of which none stands twice, each of a region or handed in to a place of the region
pub record Piece {I : Type 0} (given : Given I) (takes : Takers I) (R : I → Type 0) (items : List I) : Type 0 where
  pub apart : Apart items
  pub from : (i : I) → In i items → R i ⊎ Taken given takes R i

-- one of some regions
abbrev pub Among : {B I : Type 0} → (B → I → Type 0) → List B → I → Type 0
Among R xs i = (x : _) × In x xs × R x i

module _ {I : Type 0} (given : Given I) (takes : Takers I) (Inside : I → Type 0) (fair : Fair given takes Inside) where
  -- pieces of regions that have nothing in common have nothing in common
  meets : (R S : I → Type 0) → ((i : I) → R i → Inside i) → ((i : I) → S i → Inside i) → ((i : I) → R i → S i → ⊥) → (i : I) → R i ⊎ Taken given takes R i → S i ⊎ Taken given takes S i → ⊥
  meets R S r s differ i (inl x) (inl y) = differ i x y
  meets R S r s differ i (inl x) (inr t) = fair.beyond t.0 i t.4 (r i x)
  meets R S r s differ i (inr t) (inl y) = fair.beyond t.0 i t.4 (s i y)
  meets R S r s differ i (inr t) (inr u) =
      let same : u.0 ≡ t.0 = fair.one u.0 t.0 i u.4 t.4 in
      let place : u.1 ≡ t.1 = fair.once t.0 u.1 t.1 (subst (λ k. takes k u.1) same u.2) t.2 in
      differ t.1 t.3 (subst S place u.3)

  -- a region that is larger
  pub widened : (R T : I → Type 0) (xs : List I) → ((i : I) → R i → T i) → Piece given takes R xs → Piece given takes T xs
  widened R T xs more p = record { apart = p.apart; from = λ i j. wider i (p.from i j) }
    where
      wider : (i : I) → R i ⊎ Taken given takes R i → T i ⊎ Taken given takes T i
      wider i (inl x) = inl (more i x)
      wider i (inr t) = inr (t.0, t.1, t.2, more t.1 t.3, t.4)

  -- nothing
  pub no_items : (R : I → Type 0) → Piece given takes R []
  no_items R = record { apart = tt; from = λ i j. absurd j }

  -- one item
  pub one_item : (R : I → Type 0) (x : I) → R x → Piece given takes R (x ∷ [])
  one_item R x r = record { apart = (λ j. j, tt); from = λ i j. elim j [ inl e ↦ inl (subst R (sym e) r) | inr none ↦ absurd none ] }

  -- what is handed in, at a place that takes it
  pub taken_items : (R : I → Type 0) (k : ℕ) (c : I) → takes k c → R c → Piece given takes R (given k)
  taken_items R k c t r = record { apart = fair.apart k; from = λ i j. inr (k, c, t, r, j) }

  -- two pieces in one region, of parts that have nothing in common
  pub joined_pieces : (R S T : I → Type 0) (xs ys : List I) → ((i : I) → R i → T i) → ((i : I) → S i → T i) → ((i : I) → T i → Inside i) → ((i : I) → R i → S i → ⊥)
      → Piece given takes R xs → Piece given takes S ys → Piece given takes T (xs ++ ys)
  joined_pieces R S T xs ys r s inside differ p q = record {
    apart = Apart-append xs ys p.apart q.apart (λ i j k. meets R S (λ x h. inside x (r x h)) (λ x h. inside x (s x h)) differ i (p.from i j) (q.from i k));
    from = λ i j. elim (In-append xs ys i j) [ inl k ↦ (widened R T xs r p).from i k | inr k ↦ (widened S T ys s q).from i k ];
  }

  -- a piece for each of some things, told apart by a key
  pub many_pieces : {B K : Type 0} (key : B → K) (f : B → List I) (R : B → I → Type 0) → ((x : B) (i : I) → R x i → Inside i) → ((x y : B) (i : I) → R x i → R y i → key x ≡ key y)
      → (xs : List B) → Apart (map key xs) → ((x : B) → In x xs → Piece given takes (R x) (f x)) → Piece given takes (Among R xs) (flat_map f xs)
  many_pieces key f R inside keyed [] apart p = no_items (Among R [])
  many_pieces key f R inside keyed (x ∷ xs) apart p =
      joined_pieces (R x) (Among R xs) (Among R (x ∷ xs)) (f x) (flat_map f xs)
      (λ i r. (x, inl refl, r)) (λ i a. (a.0, inr a.1, a.2)) (λ i a. inside a.0 i a.2)
      (λ i r a. apart.0 (subst (λ k. In k (map key xs)) (sym (keyed x a.0 i r a.2)) (key_in xs a.0 a.1)))
      (p x (inl refl)) (many_pieces key f R inside keyed xs apart.1 (λ y j. p y (inr j)))
    where
      key_in : (ys : List _) (y : _) → In y ys → In (key y) (map key ys)
      key_in [] y j = absurd j
      key_in (z ∷ ys) y (inl e) = inl (λ i. key (e i))
      key_in (z ∷ ys) y (inr j) = inr (key_in ys y j)
