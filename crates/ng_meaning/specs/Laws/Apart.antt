-- Lists without repeats.
use Rattle.std.specs.Prelude.{◌≡◌, ◌⊎◌, suc, ◌≤◌, length, List, [], ◌∷◌, ◌++◌, map, refl}
use Rattle.std.specs.List.{flat_map}
use Rattle.std.proofs.Common.{inl, inr, ap, sym, ◌∙◌, subst, arith}

-- an item is in a list
abbrev pub In : {A : Type 0} → A → List A → Type 0
In x [] = ⊥
In x (y ∷ ys) = (x ≡ y) ⊎ In x ys

-- no item stands twice
abbrev pub Apart : {A : Type 0} → List A → Type 0
Apart [] = Unit {0}
Apart (x ∷ xs) = (In x xs → ⊥) × Apart xs

module _ {A : Type 0} where
  pub In-append : (xs ys : List A) (x : A) → In x (xs ++ ys) → In x xs ⊎ In x ys
  In-append [] ys x h = inr h
  In-append (y ∷ xs) ys x (inl e) = inl (inl e)
  In-append (y ∷ xs) ys x (inr h) = elim (In-append xs ys x h) [ inl l ↦ inl (inr l) | inr r ↦ inr r ]

  pub In-left : (xs ys : List A) (x : A) → In x xs → In x (xs ++ ys)
  In-left [] ys x h = absurd h
  In-left (y ∷ xs) ys x (inl e) = inl e
  In-left (y ∷ xs) ys x (inr h) = inr (In-left xs ys x h)

  pub In-right : (xs ys : List A) (x : A) → In x ys → In x (xs ++ ys)
  In-right [] ys x h = h
  In-right (y ∷ xs) ys x h = inr (In-right xs ys x h)

  pub Apart-append : (xs ys : List A) → Apart xs → Apart ys → ((x : A) → In x xs → In x ys → ⊥) → Apart (xs ++ ys)
  Apart-append [] ys l r cross = r
  Apart-append (x ∷ xs) ys l r cross =
      (λ h. elim (In-append xs ys x h) [ inl i ↦ l.0 i | inr i ↦ cross x (inl refl) i ], Apart-append xs ys l.1 r (λ y i j. cross y (inr i) j))

  pub Apart-left : (xs ys : List A) → Apart (xs ++ ys) → Apart xs
  Apart-left [] ys h = tt
  Apart-left (x ∷ xs) ys h = (λ i. h.0 (In-left xs ys x i), Apart-left xs ys h.1)

  pub Apart-right : (xs ys : List A) → Apart (xs ++ ys) → Apart ys
  Apart-right [] ys h = h
  Apart-right (x ∷ xs) ys h = Apart-right xs ys h.1

  pub Apart-cross : (xs ys : List A) → Apart (xs ++ ys) → (x : A) → In x xs → In x ys → ⊥
  Apart-cross [] ys h x i j = i
  Apart-cross (y ∷ xs) ys h x (inl e) j = h.0 (In-right xs ys y (subst (λ (z : A). In z ys) e j))
  Apart-cross (y ∷ xs) ys h x (inr i) j = Apart-cross xs ys h.1 x i j

pub In-map : {A B : Type 0} (f : A → B) (xs : List A) (y : B) → In y (map f xs) → (x : A) × In x xs × (y ≡ f x)
In-map f [] y h = absurd h
In-map f (x ∷ xs) y (inl e) = (x, inl refl, e)
In-map f (x ∷ xs) y (inr h) = let r = In-map f xs y h in (r.0, inr r.1, r.2)

-- in what one item gives
given_by : {A B : Type 0} (f : A → List B) (x : A) (xs : List A) (y : B) → In y (f x) ⊎ ((z : A) × In z xs × In y (f z)) → (z : A) × In z (x ∷ xs) × In y (f z)
given_by f x xs y (inl i) = (x, inl refl, i)
given_by f x xs y (inr r) = (r.0, inr r.1, r.2)

pub In-flat_map : {A B : Type 0} (f : A → List B) (xs : List A) (y : B) → In y (flat_map f xs) → (z : A) × In z xs × In y (f z)
In-flat_map f [] y h = absurd h
In-flat_map f (x ∷ xs) y h = given_by f x xs y (elim (In-append (f x) (flat_map f xs) y h) [ inl i ↦ inl i | inr i ↦ inr (In-flat_map f xs y i) ])

-- ---- counting

-- a list without one of its items
without : {A : Type 0} (x : A) (ys : List A) → In x ys → (zs : List A) × (length ys ≡ suc (length zs)) × ((y : A) → In y ys → (y ≡ x) ⊎ In y zs)
without x [] i = absurd i
without x (y ∷ ys) (inl e) = (ys, refl, λ z j. elim j [ inl d ↦ inl (d ∙ sym e) | inr k ↦ inr k ])
without x (y ∷ ys) (inr i) =
    let r = without x ys i in
    (y ∷ r.0, ap suc r.1, λ z j. elim j [ inl d ↦ inr (inl d) | inr k ↦ elim (r.2 z k) [ inl d ↦ inl d | inr l ↦ inr (inr l) ] ])

-- Items of which none stands twice are no more than those of a list that has them all.
pub no_more_than : {A : Type 0} (xs ys : List A) → Apart xs → ((x : A) → In x xs → In x ys) → length xs ≤ length ys
no_more_than [] ys apart all = omega arith
no_more_than (x ∷ xs) ys apart all =
    let r = without x ys (all x (inl refl)) in
    let fewer = no_more_than xs r.0 apart.1 (λ y i. elim (r.2 y (all y (inr i))) [ inl e ↦ absurd (apart.0 (subst (λ z. In z xs) e i)) | inr k ↦ k ]) in
    omega (arith, r.1, fewer)
