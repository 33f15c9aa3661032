-- What a phrase reads, limits left aside, and where it passes a limit.
use Rattle.std.specs.Prelude.{◌≡◌, ◌⊎◌, Bool, true, false, List, [], ◌∷◌, ◌++◌}
use Rattle.ng_ast.specs.declared.Place.{Place}
use Rattle.ng_tokens.specs.Lexis.{Text, steps}
use Rattle.ng_phrases.specs.Parser.{Readers}
use Rattle.ng_phrases.specs.Phrase.{Phrase}

-- a phrase and then one that may depend on its value
pub record Then {A B : Type 0} (first : Place → Text → Text → A → Type 0) (second : A → Place → Text → Text → B → Type 0) (p : Place) (x z : Text) (b : B) : Type 0 where
  pub front : Text
  pub back : Text
  pub value : A
  pub parts : x ≡ front ++ back
  pub begins_so : first p front (back ++ z) value
  pub goes_on : second value (steps p front) back z b

-- a phrase stands at the front, and the one after it passes a limit
pub record Later {A : Type 0} (first : Place → Text → Text → A → Type 0) (over : A → Place → Text → Type 0) (p : Place) (t : Text) : Type 0 where
  pub front : Text
  pub back : Text
  pub value : A
  pub parts : t ≡ front ++ back
  pub begins_so : first p front back value
  pub passes : over value (steps p front) back

-- phrases one after another, as long as there are more
pub data Many {A : Type 0} (more : Text → Bool) (item : Place → Text → Text → A → Type 0) : Place → Text → Text → List A → Type 0 where
  done : {p : Place} {z : Text} → more z ≡ false → Many more item p [] z []
  next : {p : Place} {z : Text} {a : A} {found : List A} (x y : Text) → more (x ++ (y ++ z)) ≡ true → item p x (y ++ z) a → Many more item (steps p x) y z found
      → Many more item p (x ++ y) z (a ∷ found)

-- values, and those of phrases that come
abbrev pub Extends : {A : Type 0} → (Text → Bool) → (Place → Text → Text → A → Type 0) → List A → Place → Text → Text → List A → Type 0
Extends {A} more item start p x z all = (found : List A) × (all ≡ start ++ found) × Many more item p x z found

-- one of several phrases passes a limit, or those found until then fail the test
pub data SomeOver {A : Type 0} (more : Text → Bool) (item : Place → Text → Text → A → Type 0) (over : Place → Text → Type 0) (good : List A → Bool) : Place → Text → List A → Type 0 where
  now : {p : Place} {t : Text} {found : List A} → more t ≡ true → over p t → SomeOver more item over good p t found
  full : {p : Place} {a : A} {found : List A} (x y : Text) → more (x ++ y) ≡ true → item p x y a → good (found ++ a ∷ []) ≡ false → SomeOver more item over good p (x ++ y) found
  later : {p : Place} {a : A} {found : List A} (x y : Text) → more (x ++ y) ≡ true → item p x y a → SomeOver more item over good (steps p x) y (found ++ a ∷ [])
      → SomeOver more item over good p (x ++ y) found

module _ {R : Readers} {H : Type 0} (inner : Place → Text → Text → H → Type 0) where
  -- The text is this phrase at the place, before another text, for the value.
  unfoldable pub reads : {A : Type 0} → Phrase R H A → Place → Text → Text → A → Type 0
  reads (Phrase.pure a) p x z b = (x ≡ []) × (b ≡ a)
  reads (Phrase.bind r f) p x z b = Then (reads r) (λ a. reads (f a)) p x z b
  reads Phrase.here p x z q = (x ≡ []) × (q ≡ p)
  reads (Phrase.ahead see) p x z a = (x ≡ []) × (a ≡ see z)
  reads Phrase.refuse p x z b = ⊥
  reads (Phrase.within b) p x z u = x ≡ []
  reads (Phrase.leaf l) p x z a = l.reads p x z a
  reads (Phrase.many more l some item good start) p x z all = Extends more (Then l.reads (λ k. reads (item k))) start p x z all
  reads Phrase.hole p x z a = inner p x z a

  -- A front of the text at the place is this phrase begun, and passes a limit.
  unfoldable pub over : (Place → Text → Type 0) → {A : Type 0} → Phrase R H A → Place → Text → Type 0
  over passes (Phrase.pure a) p t = ⊥
  over passes (Phrase.bind r f) p t = over passes r p t ⊎ Later (reads r) (λ a. over passes (f a)) p t
  over passes Phrase.here p t = ⊥
  over passes (Phrase.ahead see) p t = ⊥
  over passes Phrase.refuse p t = ⊥
  over passes (Phrase.within b) p t = b ≡ false
  over passes (Phrase.leaf l) p t = l.over p t
  over passes (Phrase.many more l some item good start) p t =
      SomeOver more (Then l.reads (λ k. reads (item k))) (λ q u. l.over q u ⊎ Later l.reads (λ k. over passes (item k)) q u) good p t start
  over passes Phrase.hole p t = passes p t
