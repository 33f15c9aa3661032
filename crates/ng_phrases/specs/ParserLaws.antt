-- Steps of parsers.
use Rattle.std.proofs.Common.{◌≡◌, [], ◌∷◌, ◌++◌, refl, sym, ap, subst, inl, inr}
use Rattle.std.specs.Prelude.{Ok, Err, ◌⊎◌}
use Rattle.ng_ast.specs.declared.Place.{Place}
use Rattle.ng_tokens.specs.Lexis.{Text, step, steps}
use Rattle.ng_phrases.specs.Parser.{Readers, Stop, Outcome, Parser, and_then, Gets, Means}

pub steps-append : (p : Place) (x y : Text) → steps p (x ++ y) ≡ steps (steps p x) y
steps-append p [] y = refl
steps-append p (b ∷ x) y = steps-append (step p b) x y

-- a value with the place and the text after it
abbrev done : {Q A : Type 0} → A → Place → Text → Outcome Q A
done a p t = Ok (a, p, t)

abbrev known : {Q A : Type 0} → A × Place × Text → Outcome Q A → A × Place × Text
known d (Ok u) = u
known d (Err e) = d

pub same_done : {Q A : Type 0} (u v : A × Place × Text) → ◌≡◌ {A = Outcome Q A} (Ok u) (Ok v) → u ≡ v
same_done u v e = ap (known u) e

pub err_no_ok : {Q A : Type 0} (e : Stop Q) (u : A × Place × Text) → ◌≡◌ {A = Outcome Q A} (Err e) (Ok u) → ⊥
err_no_ok e u h = cc

pub ok_no_err : {Q A : Type 0} (e : Stop Q) (u : A × Place × Text) → ◌≡◌ {A = Outcome Q A} (Ok u) (Err e) → ⊥
ok_no_err e u h = cc

pub same_stop : {Q A : Type 0} (e f : Stop Q) → ◌≡◌ {A = Outcome Q A} (Err e) (Err f) → e ≡ f
same_stop e f h = cc

-- ---- one parser after another

pub then_ok : {Q A B : Type 0} (o : Outcome Q A) (s : A → Parser Q B) (y : B × Place × Text) → and_then o s ≡ Ok y → (u : A × Place × Text) × (o ≡ Ok u) × (s u.0 u.1 u.2 ≡ Ok y)
then_ok (Ok u) s y e = (u, refl, e)
then_ok (Err f) s y e = absurd (err_no_ok f y e)

pub then_err : {Q A B : Type 0} (o : Outcome Q A) (s : A → Parser Q B) (f : Stop Q) → and_then o s ≡ Err f → (o ≡ Err f) ⊎ ((u : A × Place × Text) × (o ≡ Ok u) × (s u.0 u.1 u.2 ≡ Err f))
then_err {A = A} (Ok u) s f e = inr (u, refl, e)
then_err {A = A} (Err g) s f e = let same : g ≡ f = same_stop g f e in inl (ap (λ h. Err h) same)

pub gets_then : (R : Readers) {A B : Type 0} (o : Outcome R.Question A) (s : A → Parser R.Question B) (v : A × Place × Text) (w : B × Place × Text)
    → Gets R v o → Gets R w (s v.0 v.1 v.2) → Gets R w (and_then o s)
gets_then R (Ok u) s v w h i = let e : v ≡ u = sym h in let P : _ → Type 0 = λ (y : _ × Place × Text). Gets R w (s y.0 y.1 y.2) in subst P e i
gets_then R (Err Stop.Syntax) s v w h i = h
gets_then R (Err Stop.Limit) s v w h i = tt
gets_then R (Err (Stop.Refused q)) s v w h i = h

pub means_map : (R : Readers) (O P : Type 0) (e : Stop R.Question) → (O → P) → Means R O e → Means R P e
means_map R O P Stop.Syntax f m = tt
means_map R O P Stop.Limit f m = f m
means_map R O P (Stop.Refused q) f m = λ u. f (m u)
