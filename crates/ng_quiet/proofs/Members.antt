-- What is in a list, by recursion.
use Rattle.std.proofs.Common.{◌≡◌, refl, sym, ap, subst, ℕ, zero, suc, ◌<◌, Bool, true, false, List, [], ◌∷◌, ◌++◌, length, map, get_or, ◌⊎◌, inl, inr, Some, slice_get, arith}
use Rattle.std.specs.Prelude.{Contains}
use Rattle.std.specs.List.{flat_map}
use Rattle.ng_graph.specs.Walk.{In}

abbrev pub Has : {X : Type 0} → List X → X → Type 0
Has [] x = ⊥
Has (y ∷ ys) x = (y ≡ x) ⊎ Has ys x

pub has_left : {X : Type 0} (xs ys : List X) (x : X) → Has xs x → Has (xs ++ ys) x
has_left [] ys x h = absurd h
has_left (y ∷ xs) ys x (inl e) = inl e
has_left (y ∷ xs) ys x (inr h) = inr (has_left xs ys x h)

pub has_right : {X : Type 0} (xs ys : List X) (x : X) → Has ys x → Has (xs ++ ys) x
has_right [] ys x h = h
has_right (y ∷ xs) ys x h = inr (has_right xs ys x h)

pub has_cases : {X : Type 0} (xs ys : List X) (x : X) → Has (xs ++ ys) x → Has xs x ⊎ Has ys x
has_cases [] ys x h = inr h
has_cases (y ∷ xs) ys x (inl e) = inl (inl e)
has_cases (y ∷ xs) ys x (inr h) = elim (has_cases xs ys x h) [ inl i ↦ inl (inr i) | inr j ↦ inr j ]

has_at : {X : Type 0} (xs : List X) (k : ℕ) (x : X) → k < length xs → get_or xs k x ≡ x → Has xs x
has_at [] k x small is = absurd (omega arith)
has_at (y ∷ ys) zero x small is = inl is
has_at (y ∷ ys) (suc k) x small is = inr (has_at ys k x (omega arith) is)

pub has_from_contains : {X : Type 0} (xs : List X) (x : X) → Contains xs x → Has xs x
has_from_contains xs x (k, small, is) = has_at xs k x small is

pub contains_from_has : {X : Type 0} (xs : List X) (x : X) → Has xs x → Contains xs x
contains_from_has [] x h = absurd h
contains_from_has (y ∷ ys) x (inl e) = (0, omega arith, e)
contains_from_has (y ∷ ys) x (inr h) = let c : Contains ys x = contains_from_has ys x h in (suc c.0, omega (arith, c.1), c.2)

pub has_from_in : (xs : List ℕ) (k : ℕ) → In xs k → Has xs k
has_from_in [] k h = h
has_from_in (x ∷ xs) k (inl e) = inl e
has_from_in (x ∷ xs) k (inr h) = inr (has_from_in xs k h)

pub in_from_has : (xs : List ℕ) (k : ℕ) → Has xs k → In xs k
in_from_has [] k h = h
in_from_has (x ∷ xs) k (inl e) = inl e
in_from_has (x ∷ xs) k (inr h) = inr (in_from_has xs k h)

-- what is in one of the lists that a function gives
pub has_flat_map : {X Y : Type 0} (f : X → List Y) (xs : List X) (y : Y) → Has (flat_map f xs) y → (x : X) × Has xs x × Has (f x) y
has_flat_map f [] y h = absurd h
has_flat_map {X} f (x ∷ xs) y h = elim (has_cases (f x) (flat_map f xs) y h) [
  | inl i ↦ (x, inl refl, i)
  | inr j ↦ (let r : (z : X) × Has xs z × Has (f z) y = has_flat_map f xs y j in (r.0, inr r.1, r.2))
]

pub flat_map_has : {X Y : Type 0} (f : X → List Y) (xs : List X) (x : X) (y : Y) → Has xs x → Has (f x) y → Has (flat_map f xs) y
flat_map_has f [] x y h i = absurd h
flat_map_has {X} {Y} f (z ∷ xs) x y (inl e) i = has_left (f z) (flat_map f xs) y (subst (λ (w : X). Has (f w) y) (sym e) i)
flat_map_has f (z ∷ xs) x y (inr h) i = has_right (f z) (flat_map f xs) y (flat_map_has f xs x y h i)

-- ---- by positions

pub some_same : {X : Type 0} (x y : X) → Some x ≡ Some y → x ≡ y
some_same x y e = cc

pub has_at_get : {X : Type 0} (xs : List X) (k : ℕ) (x : X) → slice_get xs k ≡ Some x → Has xs x
has_at_get [] k x e = absurd (cc)
has_at_get (y ∷ ys) zero x e = inl (some_same y x e)
has_at_get (y ∷ ys) (suc k) x e = inr (has_at_get ys k x e)

pub get_has : {X : Type 0} (xs : List X) (x : X) → Has xs x → (k : ℕ) × (slice_get xs k ≡ Some x)
get_has [] x h = absurd h
get_has (y ∷ ys) x (inl e) = (0, ap Some e)
get_has (y ∷ ys) x (inr h) = let r : (k : ℕ) × (slice_get ys k ≡ Some x) = get_has ys x h in (suc r.0, r.1)

pub get_small : {X : Type 0} (xs : List X) (k : ℕ) (x : X) → slice_get xs k ≡ Some x → k < length xs
get_small [] k x e = absurd (cc)
get_small (y ∷ ys) zero x e = omega arith
get_small (y ∷ ys) (suc k) x e = omega (arith, get_small ys k x e)

pub get_map : {X Y : Type 0} (f : X → Y) (xs : List X) (k : ℕ) (y : Y) → slice_get (map f xs) k ≡ Some y → (x : X) × (slice_get xs k ≡ Some x) × (f x ≡ y)
get_map f [] k y e = absurd (cc)
get_map f (x ∷ xs) zero y e = (x, refl, some_same (f x) y e)
get_map f (x ∷ xs) (suc k) y e = get_map f xs k y e

pub map_get : {X Y : Type 0} (f : X → Y) (xs : List X) (k : ℕ) (x : X) → slice_get xs k ≡ Some x → slice_get (map f xs) k ≡ Some (f x)
map_get f [] k x e = absurd (cc)
map_get f (y ∷ ys) zero x e = ap Some (ap f (some_same y x e))
map_get f (y ∷ ys) (suc k) x e = map_get f ys k x e

pub get_push : {X : Type 0} (xs : List X) (x : X) (k : ℕ) (y : X) → slice_get (xs ++ x ∷ []) k ≡ Some y → (slice_get xs k ≡ Some y) ⊎ ((k ≡ length xs) × (x ≡ y))
get_push [] x zero y e = inr (refl, some_same x y e)
get_push [] x (suc k) y e = absurd (cc)
get_push (z ∷ xs) x zero y e = inl e
get_push (z ∷ xs) x (suc k) y e = elim (get_push xs x k y e) [ inl h ↦ inl h | inr h ↦ inr (ap suc h.0, h.1) ]

-- a test of each
pub test_map : {X : Type 0} (f : X → Bool) (xs : List X) (k : ℕ) → get_or (map f xs) k false ≡ true → (x : X) × (slice_get xs k ≡ Some x) × (f x ≡ true)
test_map f [] k e = absurd (cc)
test_map f (x ∷ xs) zero e = (x, refl, e)
test_map f (x ∷ xs) (suc k) e = test_map f xs k e

pub map_test : {X : Type 0} (f : X → Bool) (xs : List X) (k : ℕ) (x : X) → slice_get xs k ≡ Some x → get_or (map f xs) k false ≡ f x
map_test f [] k x e = absurd (cc)
map_test f (y ∷ xs) zero x e = ap f (some_same y x e)
map_test f (y ∷ xs) (suc k) x e = map_test f xs k x e
