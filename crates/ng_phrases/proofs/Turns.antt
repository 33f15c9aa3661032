-- One turn of the parser of a list: the steps of a loop that reads one.
use Rattle.std.proofs.Common.{◌≡◌, ℕ, zero, suc, ◌<◌, true, false, List, [], ◌∷◌, ◌++◌, length, refl, sym, ◌∙◌, arith}
use Rattle.std.specs.Prelude.{Bool, Ok, Err}
use Rattle.ng_ast.specs.declared.Place.{Place}
use Rattle.ng_tokens.specs.Lexis.{Text}
use Rattle.ng_phrases.specs.Parser.{Stop, Outcome, Parser}
use Rattle.ng_phrases.specs.Parse.{each}

module _ {Q A : Type 0} (more : Text → Bool) (item : Parser Q A) (good : List A → Bool) (n : ℕ) (found : List A) (p : Place) (t : Text) where
  pub each_stops : more t ≡ false → each more item good (suc n) found p t ≡ Ok (found, p, t)
  unfolding each
  each_stops e = rw e refl

  pub each_fails : (e : Stop Q) → more t ≡ true → item p t ≡ Err e → each more item good (suc n) found p t ≡ Err e
  unfolding each
  each_fails e h i = rw (h, i) refl

  pub each_fills : (a : A) (q : Place) (u : Text) → more t ≡ true → item p t ≡ Ok (a, q, u) → good (found ++ a ∷ []) ≡ false → each more item good (suc n) found p t ≡ Err Stop.Limit
  unfolding each
  each_fills a q u h i g = rw (h, i, g) refl

  pub each_goes_on : (a : A) (q : Place) (u : Text) → more t ≡ true → item p t ≡ Ok (a, q, u) → good (found ++ a ∷ []) ≡ true → each more item good (suc n) found p t ≡ each more item good n (found ++ a ∷ []) q u
  unfolding each
  each_goes_on a q u h i g = rw (h, i, g) refl

-- ---- enough turns

-- what is left after an item is less than before it
abbrev pub Falls : {Q A : Type 0} → Parser Q A → Type 0
Falls {A = A} item = (p : Place) (t : Text) (a : A) (q : Place) (u : Text) → item p t ≡ Ok (a, q, u) → length u < length t

-- Where each item takes some of the text, more turns than bytes are as good as any.
module _ {Q A : Type 0} (more : Text → Bool) (item : Parser Q A) (good : List A → Bool) (falls : Falls item) where
  enough_by : (n m : ℕ) (found : List A) (p : Place) (t : Text)
      → ((found : List A) (q : Place) (u : Text) → length u < length t → each more item good n found q u ≡ each more item good m found q u)
      → (b : Bool) → more t ≡ b → (o : Outcome Q A) → item p t ≡ o → each more item good (suc n) found p t ≡ each more item good (suc m) found p t
  enough_by n m found p t go false e o f = each_stops more item good n found p t e ∙ sym (each_stops more item good m found p t e)
  enough_by n m found p t go true e (Err x) f = each_fails more item good n found p t x e f ∙ sym (each_fails more item good m found p t x e f)
  enough_by n m found p t go true e (Ok (a, q, u)) f = by (good (found ++ a ∷ [])) refl
    where
      by : (c : Bool) → good (found ++ a ∷ []) ≡ c → each more item good (suc n) found p t ≡ each more item good (suc m) found p t
      by true g = each_goes_on more item good n found p t a q u e f g ∙ go (found ++ a ∷ []) q u (falls p t a q u f) ∙ sym (each_goes_on more item good m found p t a q u e f g)
      by false g = each_fills more item good n found p t a q u e f g ∙ sym (each_fills more item good m found p t a q u e f g)

  pub each_enough : (n m : ℕ) (found : List A) (p : Place) (t : Text) → length t < n → length t < m → each more item good n found p t ≡ each more item good m found p t
  each_enough zero m found p t h i = absurd (omega arith)
  each_enough (suc n) zero found p t h i = absurd (omega arith)
  each_enough (suc n) (suc m) found p t h i = enough_by n m found p t (λ now q u less. each_enough n m now q u (omega arith) (omega arith)) (more t) refl (item p t) refl
