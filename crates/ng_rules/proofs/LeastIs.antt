-- The least of a list is the first of those that no other is before.
use Rattle.std.proofs.Common.{◌≡◌, ◌≢◌, refl, sym, ◌∙◌, ap, ℕ, ◌<◌, ◌≤◌, ◌==◌, nat_lt, Bool, true, false, cond, ◌&&◌, ◌||◌, List, [], ◌∷◌, ◌++◌, ◌⊎◌, inl, inr, Some, arith}
use Rattle.std.proofs.Math.Bool.{or-true}
use Rattle.std.proofs.lemmas.Bool.{ltb-true, ltb-false, lt-ltb, eq-eqb}
use Rattle.std.proofs.lemmas.Bool.Decides.{eqb_tells}
use Rattle.std.specs.List.{AllByRecursion}
use Rattle.ng_ast.specs.declared.refusals.Refusal.{Refusal}
use Rattle.ng_breaks.specs.Least.{number, is_before, least_of, least}

-- a pair of numbers is less than another by the first of them, and by the second where these are equal
abbrev less : ℕ → ℕ → ℕ → ℕ → Bool
less p n q m = nat_lt p q || (p == q && nat_lt n m)

abbrev IsLess : ℕ → ℕ → ℕ → ℕ → Type 0
IsLess p n q m = (p < q) ⊎ ((p ≡ q) × (n < m))

abbrev IsNotLess : ℕ → ℕ → ℕ → ℕ → Type 0
IsNotLess p n q m = (q < p) ⊎ ((p ≡ q) × (m ≤ n))

less_by : (p n q m : ℕ) (s t u : Bool) → s ≡ nat_lt p q → t ≡ nat_lt n m → ((u ≡ true) × (p ≡ q)) ⊎ ((u ≡ false) × (p ≢ q)) → (s || (u && t)) ≡ true → IsLess p n q m
less_by p n q m true t u e f g h = inl (ltb-true p q (sym e))
less_by p n q m false true true e f (inl g) h = inr (g.1, ltb-true n m (sym f))
less_by p n q m false true true e f (inr g) h = absurd (let k : true ≡ false = g.0 in cc)
less_by p n q m false false true e f g h = absurd (cc)
less_by p n q m false t false e f g h = absurd (cc)

less_is : (p n q m : ℕ) → less p n q m ≡ true → IsLess p n q m
less_is p n q m h = less_by p n q m (nat_lt p q) (nat_lt n m) (p == q) refl refl (eqb_tells p q) h

not_less_by : (p n q m : ℕ) (s t u : Bool) → s ≡ nat_lt p q → t ≡ nat_lt n m → ((u ≡ true) × (p ≡ q)) ⊎ ((u ≡ false) × (p ≢ q)) → (s || (u && t)) ≡ false → IsNotLess p n q m
not_less_by p n q m true t u e f g h = absurd (cc)
not_less_by p n q m false true true e f g h = absurd (cc)
not_less_by p n q m false false u e f (inl g) h = inr (g.1, ltb-false n m (sym f))
not_less_by p n q m false false u e f (inr g) h = let k : q ≤ p = ltb-false p q (sym e) in let d : p ≢ q = g.1 in inl (omega (arith, d))
not_less_by p n q m false true false e f (inl g) h = absurd (let k : false ≡ true = g.0 in cc)
not_less_by p n q m false true false e f (inr g) h = let k : q ≤ p = ltb-false p q (sym e) in let d : p ≢ q = g.1 in inl (omega (arith, d))

not_less_is : (p n q m : ℕ) → less p n q m ≡ false → IsNotLess p n q m
not_less_is p n q m h = not_less_by p n q m (nat_lt p q) (nat_lt n m) (p == q) refl refl (eqb_tells p q) h

less_from : (p n q m : ℕ) → IsLess p n q m → less p n q m ≡ true
less_from p n q m (inl l) = ap (λ t. t || (p == q && nat_lt n m)) (lt-ltb p q l)
less_from p n q m (inr (e, l)) = ap (λ t. nat_lt p q || t) (ap (λ s. s && nat_lt n m) (eq-eqb p q e) ∙ lt-ltb n m l) ∙ or-true (nat_lt p q)

less_trans : (p n q m r k : ℕ) → IsLess p n q m → IsLess q m r k → IsLess p n r k
less_trans p n q m r k (inl a) (inl b) = inl (omega arith)
less_trans p n q m r k (inl a) (inr (e, b)) = inl (omega arith)
less_trans p n q m r k (inr (e, a)) (inl b) = inl (omega arith)
less_trans p n q m r k (inr (e, a)) (inr (f, b)) = inr (omega arith, omega arith)

less_than_not : (p n q m r k : ℕ) → IsLess p n q m → IsNotLess r k q m → IsLess p n r k
less_than_not p n q m r k (inl a) (inl b) = inl (omega arith)
less_than_not p n q m r k (inl a) (inr (e, b)) = inl (omega arith)
less_than_not p n q m r k (inr (e, a)) (inl b) = inl (omega arith)
less_than_not p n q m r k (inr (e, a)) (inr (f, b)) = inr (omega arith, omega arith)

before_trans : (x y z : Refusal) → is_before x y ≡ true → is_before y z ≡ true → is_before x z ≡ true
before_trans x y z e f = less_from x.place.byte (number x.rule) z.place.byte (number z.rule)
    (less_trans x.place.byte (number x.rule) y.place.byte (number y.rule) z.place.byte (number z.rule)
    (less_is x.place.byte (number x.rule) y.place.byte (number y.rule) e) (less_is y.place.byte (number y.rule) z.place.byte (number z.rule) f))

-- before one, and so before what isn't before that one
before_other : (x y z : Refusal) → is_before x y ≡ true → is_before z y ≡ false → is_before x z ≡ true
before_other x y z e f = less_from x.place.byte (number x.rule) z.place.byte (number z.rule)
    (less_than_not x.place.byte (number x.rule) y.place.byte (number y.rule) z.place.byte (number z.rule)
    (less_is x.place.byte (number x.rule) y.place.byte (number y.rule) e) (not_less_is z.place.byte (number z.rule) y.place.byte (number y.rule) f))

-- the first of those that no other is before
pub record IsFirstLeast (bs : List Refusal) (r : Refusal) : Type 0 where
  pub before : List Refusal
  pub behind : List Refusal
  pub whole : bs ≡ before ++ r ∷ behind
  pub first : AllByRecursion (λ b. is_before r b ≡ true) before
  pub least : AllByRecursion (λ b. is_before b r ≡ false) behind

hit_by : (a b r : Refusal) (bs before behind : List Refusal) → is_before b a ≡ true → b ∷ bs ≡ before ++ r ∷ behind → AllByRecursion (λ x. is_before r x ≡ true) before → is_before r a ≡ true
hit_by a b r bs [] behind h whole first = let e : b ≡ r = cc in ap (λ x. is_before x a) (sym e) ∙ h
hit_by a b r bs (c ∷ cs) behind h whole (p, q) = let e : b ≡ c = cc in before_trans r b a (ap (is_before r) e ∙ p) h

hit : (a b r : Refusal) (bs : List Refusal) → is_before b a ≡ true → IsFirstLeast (b ∷ bs) r → IsFirstLeast (a ∷ b ∷ bs) r
hit a b r bs h f = record {
  before = a ∷ f.before;
  behind = f.behind;
  whole = ap (λ l. a ∷ l) f.whole;
  first = (hit_by a b r bs f.before f.behind h f.whole f.first, f.first);
  least = f.least;
}

miss_by : (a b r : Refusal) (bs before behind : List Refusal) → is_before b a ≡ false → a ∷ bs ≡ before ++ r ∷ behind → AllByRecursion (λ x. is_before r x ≡ true) before
    → AllByRecursion (λ x. is_before x r ≡ false) behind → IsFirstLeast (a ∷ b ∷ bs) r
miss_by a b r bs [] behind h whole first least =
    let e : a ≡ r = cc in
    let f : bs ≡ behind = cc in
    record {
      before = [];
      behind = b ∷ behind;
      whole = ap (λ x. x ∷ b ∷ bs) e ∙ ap (λ l. r ∷ b ∷ l) f;
      first = tt;
      least = (ap (is_before b) (sym e) ∙ h, least);
    }
miss_by a b r bs (c ∷ cs) behind h whole (p, q) least =
    let e : a ≡ c = cc in
    let f : bs ≡ cs ++ r ∷ behind = cc in
    record {
      before = c ∷ b ∷ cs;
      behind = behind;
      whole = ap (λ x. x ∷ b ∷ bs) e ∙ ap (λ l. c ∷ b ∷ l) f;
      first = (p, (before_other r a b (ap (is_before r) e ∙ p) h, q));
      least = least;
    }

miss : (a b r : Refusal) (bs : List Refusal) → is_before b a ≡ false → IsFirstLeast (a ∷ bs) r → IsFirstLeast (a ∷ b ∷ bs) r
miss a b r bs h f = miss_by a b r bs f.before f.behind h f.whole f.first f.least

choose : (a b r : Refusal) (bs : List Refusal) (t : Bool) → is_before b a ≡ t → (least_of (Some b) bs ≡ Some r → IsFirstLeast (b ∷ bs) r) → (least_of (Some a) bs ≡ Some r → IsFirstLeast (a ∷ bs) r)
    → least_of (cond t (Some b) (Some a)) bs ≡ Some r → IsFirstLeast (a ∷ b ∷ bs) r
choose a b r bs true e f g h = hit a b r bs e (f h)
choose a b r bs false e f g h = miss a b r bs e (g h)

least_of_some : (a r : Refusal) (bs : List Refusal) → least_of (Some a) bs ≡ Some r → IsFirstLeast (a ∷ bs) r
least_of_some a r [] h =
    let e : a ≡ r = cc in
    record {
      before = [];
      behind = [];
      whole = ap (λ x. x ∷ []) e;
      first = tt;
      least = tt;
    }
least_of_some a r (b ∷ bs) h = choose a b r bs (is_before b a) refl (least_of_some b r bs) (least_of_some a r bs) h

-- the least of a list
pub least_is : (r : Refusal) (bs : List Refusal) → least bs ≡ Some r → IsFirstLeast bs r
least_is r [] h = absurd (cc)
least_is r (b ∷ bs) h = least_of_some b r bs h
