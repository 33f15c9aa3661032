-- The signs, and the longest one that a text begins with.
use Rattle.std.proofs.Common.{◌≡◌, ℕ, ◌≤◌, List, [], ◌∷◌, ◌++◌, length, refl, sym, ◌∙◌, ap, arith, inl, inr}
use Rattle.std.specs.Prelude.{Bool, true, false, cond, ◌==◌, ◌⊎◌, Option, Some}
use Rattle.ng_tokens.specs.declared.kinds.Sign.{Sign}
use Rattle.ng_tokens.specs.declared.kinds.Sign.TheVariants as s
use Rattle.ng_tokens.specs.declared.kinds.Shape.{Shape}
use Rattle.ng_tokens.specs.declared.kinds.Shape.TheVariants as shape
use Rattle.ng_tokens.specs.Lexis.{Text, begins, spelling}
use Rattle.ng_tokens.specs.Scan.{find, signs, shape as shape_at}

same_byte : (b c : ℕ) → (b == c) ≡ true → b ≡ c
same_byte b c e = grind arith

same_self : (b : ℕ) → (b == b) ≡ true
same_self b = grind arith

begins_if : (b c : ℕ) (w t : Text) → (begins w t ≡ true → (r : Text) × (t ≡ w ++ r)) → (x : Bool) → (b == c) ≡ x → cond x (begins w t) false ≡ true → (r : Text) × (c ∷ t ≡ (b ∷ w) ++ r)
begins_if b c w t go true f g = let h : (r : Text) × (t ≡ w ++ r) = go g in (h.0, ap (λ z. c ∷ z) h.1 ∙ ap (λ z. z ∷ w ++ h.0) (sym (same_byte b c f)))
begins_if b c w t go false f g = absurd (cc)

pub begins_is : (w t : Text) → begins w t ≡ true → (r : Text) × (t ≡ w ++ r)
begins_is [] t e = (t, refl)
begins_is (b ∷ w) [] e = absurd (cc)
begins_is (b ∷ w) (c ∷ t) e = begins_if b c w t (begins_is w t) (b == c) refl e

pub begins_self : (w r : Text) → begins w (w ++ r) ≡ true
begins_self [] r = refl
begins_self (b ∷ w) r = rw (same_self b) (begins_self w r)

-- the words of a table
abbrev Has : List (Text × Sign) → Text → Sign → Type 0
Has [] w x = ⊥
Has (e ∷ es) w x = ((e.0 ≡ w) × (e.1 ≡ x)) ⊎ Has es w x

abbrev NoneLonger : ℕ → List (Text × Sign) → Type 0
NoneLonger n [] = Unit {0}
NoneLonger n (e ∷ es) = (length e.0 ≤ n) × NoneLonger n es

abbrev Falls : List (Text × Sign) → Type 0
Falls [] = Unit {0}
Falls (e ∷ es) = NoneLonger (length e.0) es × Falls es

abbrev Spelled : List (Text × Sign) → Type 0
Spelled [] = Unit {0}
Spelled (e ∷ es) = (e.0 ≡ spelling e.1) × Spelled es

none_longer : (n : ℕ) (es : List (Text × Sign)) → NoneLonger n es → (w : Text) (x : Sign) → Has es w x → length w ≤ n
none_longer n [] h w x i = absurd i
none_longer n (e ∷ es) h w x (inl i) = omega (arith, ap length i.0, h.0)
none_longer n (e ∷ es) h w x (inr i) = none_longer n es h.1 w x i

pub no_true : (g : false ≡ true) → ⊥
no_true g = cc

abbrev pub Longer : Text → Text → Option (Shape × ℕ) → Type 0
Longer w t o = (q : Shape × ℕ) × (o ≡ Some q) × (length w ≤ q.1)

find_if : (v : Bool) (e : Text × Sign) (es : List (Text × Sign)) → Falls (e ∷ es) → (w : Text) (x : Sign) (t : Text) → begins w t ≡ true → (Has es w x → Longer w t (find es t))
    → begins e.0 t ≡ v → Has (e ∷ es) w x → Longer w t (cond v (Some (shape.Sign e.1, length e.0)) (find es t))
find_if true e es f w x t b go g (inl j) = ((shape.Sign e.1, length e.0), refl, omega (arith, ap length j.0))
find_if true e es f w x t b go g (inr j) = ((shape.Sign e.1, length e.0), refl, none_longer (length e.0) es f.0 w x j)
find_if false e es f w x t b go g (inl j) = absurd (no_true (sym g ∙ ap (λ z. begins z t) j.0 ∙ b))
find_if false e es f w x t b go g (inr j) = go j

pub find_long : (es : List (Text × Sign)) → Falls es → (w : Text) (x : Sign) → Has es w x → (t : Text) → begins w t ≡ true → Longer w t (find es t)
find_long [] f w x i t b = absurd i
find_long (e ∷ es) f w x i t b = find_if (begins e.0 t) e es f w x t b (λ j. find_long es f.1 w x j t b) refl i

abbrev pub Found : Text → Shape × ℕ → Type 0
Found t q = (x : Sign) × (r : Text) × (q.0 ≡ shape.Sign x) × (q.1 ≡ length (spelling x)) × (t ≡ spelling x ++ r)

found_if : (v : Bool) (e : Text × Sign) (es : List (Text × Sign)) → Spelled (e ∷ es) → (t : Text) (q : Shape × ℕ) → (find es t ≡ Some q → Found t q)
    → begins e.0 t ≡ v → cond v (Some (shape.Sign e.1, length e.0)) (find es t) ≡ Some q → Found t q
found_if true e es sp t q go g h =
    let b : (r : Text) × (t ≡ e.0 ++ r) = begins_is e.0 t g in
    let same : (shape.Sign e.1, length e.0) ≡ q = cc in
    (e.1, b.0, sym (ap (λ z. z.0) same), sym (ap (λ z. z.1) same) ∙ ap length sp.0, b.1 ∙ ap (λ z. z ++ b.0) sp.0)
found_if false e es sp t q go g h = go h

pub find_is : (es : List (Text × Sign)) → Spelled es → (t : Text) (q : Shape × ℕ) → find es t ≡ Some q → Found t q
find_is [] sp t q e = absurd (cc)
find_is (e ∷ es) sp t q f = found_if (begins e.0 t) e es sp t q (find_is es sp.1 t q) refl f

pub falls : Falls signs
unfolding signs
falls = search arith

pub spelled : Spelled signs
unfolding signs
spelled = (refl, (refl, (refl, (refl, (refl, (refl, (refl, (refl, (refl, (refl, (refl, (refl, (refl, (refl, (refl, (refl, (refl, (refl, (refl, (refl, (refl, (refl, (refl, (refl, (refl, (refl, (refl, (refl, (refl, (refl, (refl, (refl, tt))))))))))))))))))))))))))))))))

pub listed : (x : Sign) → Has signs (spelling x) x
unfolding signs
listed s.Same = inl (refl, refl)
listed s.NotSame = inr (inl (refl, refl))
listed s.Eq = inr (inr (inl (refl, refl)))
listed s.Ne = inr (inr (inr (inl (refl, refl))))
listed s.Le = inr (inr (inr (inr (inl (refl, refl)))))
listed s.Ge = inr (inr (inr (inr (inr (inl (refl, refl))))))
listed s.Or = inr (inr (inr (inr (inr (inr (inl (refl, refl)))))))
listed s.And = inr (inr (inr (inr (inr (inr (inr (inl (refl, refl))))))))
listed s.OrNull = inr (inr (inr (inr (inr (inr (inr (inr (inl (refl, refl)))))))))
listed s.SafeDot = inr (inr (inr (inr (inr (inr (inr (inr (inr (inl (refl, refl))))))))))
listed s.Lt = inr (inr (inr (inr (inr (inr (inr (inr (inr (inr (inl (refl, refl)))))))))))
listed s.Gt = inr (inr (inr (inr (inr (inr (inr (inr (inr (inr (inr (inl (refl, refl))))))))))))
listed s.Plus = inr (inr (inr (inr (inr (inr (inr (inr (inr (inr (inr (inr (inl (refl, refl)))))))))))))
listed s.Minus = inr (inr (inr (inr (inr (inr (inr (inr (inr (inr (inr (inr (inr (inl (refl, refl))))))))))))))
listed s.Star = inr (inr (inr (inr (inr (inr (inr (inr (inr (inr (inr (inr (inr (inr (inl (refl, refl)))))))))))))))
listed s.Slash = inr (inr (inr (inr (inr (inr (inr (inr (inr (inr (inr (inr (inr (inr (inr (inl (refl, refl))))))))))))))))
listed s.Percent = inr (inr (inr (inr (inr (inr (inr (inr (inr (inr (inr (inr (inr (inr (inr (inr (inl (refl, refl)))))))))))))))))
listed s.Not = inr (inr (inr (inr (inr (inr (inr (inr (inr (inr (inr (inr (inr (inr (inr (inr (inr (inl (refl, refl))))))))))))))))))
listed s.Dot = inr (inr (inr (inr (inr (inr (inr (inr (inr (inr (inr (inr (inr (inr (inr (inr (inr (inr (inl (refl, refl)))))))))))))))))))
listed s.Comma = inr (inr (inr (inr (inr (inr (inr (inr (inr (inr (inr (inr (inr (inr (inr (inr (inr (inr (inr (inl (refl, refl))))))))))))))))))))
listed s.Semicolon = inr (inr (inr (inr (inr (inr (inr (inr (inr (inr (inr (inr (inr (inr (inr (inr (inr (inr (inr (inr (inl (refl, refl)))))))))))))))))))))
listed s.Question = inr (inr (inr (inr (inr (inr (inr (inr (inr (inr (inr (inr (inr (inr (inr (inr (inr (inr (inr (inr (inr (inl (refl, refl))))))))))))))))))))))
listed s.Colon = inr (inr (inr (inr (inr (inr (inr (inr (inr (inr (inr (inr (inr (inr (inr (inr (inr (inr (inr (inr (inr (inr (inl (refl, refl)))))))))))))))))))))))
listed s.Bar = inr (inr (inr (inr (inr (inr (inr (inr (inr (inr (inr (inr (inr (inr (inr (inr (inr (inr (inr (inr (inr (inr (inr (inl (refl, refl))))))))))))))))))))))))
listed s.Assign = inr (inr (inr (inr (inr (inr (inr (inr (inr (inr (inr (inr (inr (inr (inr (inr (inr (inr (inr (inr (inr (inr (inr (inr (inl (refl, refl)))))))))))))))))))))))))
listed s.Hash = inr (inr (inr (inr (inr (inr (inr (inr (inr (inr (inr (inr (inr (inr (inr (inr (inr (inr (inr (inr (inr (inr (inr (inr (inr (inl (refl, refl))))))))))))))))))))))))))
listed s.OpenRound = inr (inr (inr (inr (inr (inr (inr (inr (inr (inr (inr (inr (inr (inr (inr (inr (inr (inr (inr (inr (inr (inr (inr (inr (inr (inr (inl (refl, refl)))))))))))))))))))))))))))
listed s.CloseRound = inr (inr (inr (inr (inr (inr (inr (inr (inr (inr (inr (inr (inr (inr (inr (inr (inr (inr (inr (inr (inr (inr (inr (inr (inr (inr (inr (inl (refl, refl))))))))))))))))))))))))))))
listed s.OpenSquare = inr (inr (inr (inr (inr (inr (inr (inr (inr (inr (inr (inr (inr (inr (inr (inr (inr (inr (inr (inr (inr (inr (inr (inr (inr (inr (inr (inr (inl (refl, refl)))))))))))))))))))))))))))))
listed s.CloseSquare = inr (inr (inr (inr (inr (inr (inr (inr (inr (inr (inr (inr (inr (inr (inr (inr (inr (inr (inr (inr (inr (inr (inr (inr (inr (inr (inr (inr (inr (inl (refl, refl))))))))))))))))))))))))))))))
listed s.OpenBrace = inr (inr (inr (inr (inr (inr (inr (inr (inr (inr (inr (inr (inr (inr (inr (inr (inr (inr (inr (inr (inr (inr (inr (inr (inr (inr (inr (inr (inr (inr (inl (refl, refl)))))))))))))))))))))))))))))))
listed s.CloseBrace = inr (inr (inr (inr (inr (inr (inr (inr (inr (inr (inr (inr (inr (inr (inr (inr (inr (inr (inr (inr (inr (inr (inr (inr (inr (inr (inr (inr (inr (inr (inr (inl (refl, refl))))))))))))))))))))))))))))))))

-- no sign begins as a number, a name, a variable or a literal does
pub not_digit : (x : Sign) (r : Text) → shape_at (spelling x ++ r) ≡ find signs (spelling x ++ r)
unfolding shape_at
not_digit s.Same r = refl
not_digit s.NotSame r = refl
not_digit s.Eq r = refl
not_digit s.Ne r = refl
not_digit s.Le r = refl
not_digit s.Ge r = refl
not_digit s.Or r = refl
not_digit s.And r = refl
not_digit s.OrNull r = refl
not_digit s.SafeDot r = refl
not_digit s.Lt r = refl
not_digit s.Gt r = refl
not_digit s.Plus r = refl
not_digit s.Minus r = refl
not_digit s.Star r = refl
not_digit s.Slash r = refl
not_digit s.Percent r = refl
not_digit s.Not r = refl
not_digit s.Dot r = refl
not_digit s.Comma r = refl
not_digit s.Semicolon r = refl
not_digit s.Question r = refl
not_digit s.Colon r = refl
not_digit s.Bar r = refl
not_digit s.Assign r = refl
not_digit s.Hash r = refl
not_digit s.OpenRound r = refl
not_digit s.CloseRound r = refl
not_digit s.OpenSquare r = refl
not_digit s.CloseSquare r = refl
not_digit s.OpenBrace r = refl
not_digit s.CloseBrace r = refl

find_self : (x : Sign) → find signs (spelling x) ≡ Some (shape.Sign x, length (spelling x))
unfolding signs
find_self s.Same = refl
find_self s.NotSame = refl
find_self s.Eq = refl
find_self s.Ne = refl
find_self s.Le = refl
find_self s.Ge = refl
find_self s.Or = refl
find_self s.And = refl
find_self s.OrNull = refl
find_self s.SafeDot = refl
find_self s.Lt = refl
find_self s.Gt = refl
find_self s.Plus = refl
find_self s.Minus = refl
find_self s.Star = refl
find_self s.Slash = refl
find_self s.Percent = refl
find_self s.Not = refl
find_self s.Dot = refl
find_self s.Comma = refl
find_self s.Semicolon = refl
find_self s.Question = refl
find_self s.Colon = refl
find_self s.Bar = refl
find_self s.Assign = refl
find_self s.Hash = refl
find_self s.OpenRound = refl
find_self s.CloseRound = refl
find_self s.OpenSquare = refl
find_self s.CloseSquare = refl
find_self s.OpenBrace = refl
find_self s.CloseBrace = refl

pub one_spelling : (x y : Sign) → spelling x ≡ spelling y → shape.Sign x ≡ shape.Sign y
one_spelling x y e =
    let h : Some (shape.Sign x, length (spelling x)) ≡ Some (shape.Sign y, length (spelling y)) = sym (find_self x) ∙ ap (λ z. find signs z) e ∙ find_self y in
    ap (λ q. q.0) (inner h)
  where
    inner : {p q : Shape × ℕ} → Some p ≡ Some q → p ≡ q
    inner h = cc

pub same_front : (a b z r : Text) → a ++ z ≡ b ++ r → length a ≡ length b → a ≡ b
same_front [] [] z r e l = refl
same_front [] (c ∷ b) z r e l = absurd (omega arith)
same_front (c ∷ a) [] z r e l = absurd (omega arith)
same_front (c ∷ a) (d ∷ b) z r e l =
    let h : c ≡ d = cc in let t : a ++ z ≡ b ++ r = cc in
    ap (λ w. c ∷ w) (same_front a b z r t (omega arith)) ∙ ap (λ w. w ∷ b) h
