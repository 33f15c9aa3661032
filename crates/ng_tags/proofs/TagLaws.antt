-- Attributes: one at most stands at the front of a text, and how it leads on.
use Rattle.std.proofs.Common.{◌≡◌, ℕ, [], ◌∷◌, ◌++◌, refl, sym, ◌∙◌, ap, subst, inl, inr}
use Rattle.std.specs.Prelude.{Bool, true, false, ◌||◌, ◌==◌, ◌⊎◌}
use Rattle.ng_ast.specs.declared.Place.{Place}
use Rattle.ng_ast.specs.declared.TAttr.{TAttr}
use Rattle.ng_ast.specs.declared.AttrForm.{AttrForm}
use Rattle.ng_tokens.specs.Lexis.{Text, is_blank, all, steps}
use Rattle.ng_lex.specs.declared.attributes.NameForm.{NameForm}
use Rattle.ng_lex.specs.Letters.{Letters, Decodes}
use Rattle.ng_lex.specs.Words.{IsBlank, IsGap, at_front}
use Rattle.ng_lex.specs.Names.{in_attribute, IsAttribute, form_of}
use Rattle.ng_lex.specs.Values.{Says, without_value}
use Rattle.ng_lex.specs.Attributes.{differs, in_bare, IsBare, ends_bare, Marked, attribute}
use Rattle.ng_tags.specs.Tags.{ends_attribute, ValuedAt, AloneAt, SaysAt, AttributeAt}
use Rattle.ng_attributes.proofs.Texts.{some_one, both_true, not_both, same_byte, same_runs}
use Rattle.ng_lex.proofs.Decoding.{one_decoding}
use Rattle.ng_tags.proofs.ValueLaws.{says_one}

-- ---- bytes

pub or_true : (x y : Bool) → (x || y) ≡ true → (x ≡ true) ⊎ (y ≡ true)
or_true true y e = inl refl
or_true false y e = inr e

blank_no_attribute : (b : ℕ) → is_blank b ≡ true → in_attribute b ≡ false
blank_no_attribute b e = rw e refl

pub attribute_no_blank : (b : ℕ) → in_attribute b ≡ true → is_blank b ≡ false
attribute_no_blank b e = by (is_blank b) refl
  where
    by : (v : Bool) → is_blank b ≡ v → v ≡ false
    by true f = absurd (not_both (in_attribute b) e (blank_no_attribute b f))
    by false f = refl

blank_no_bare : (b : ℕ) → is_blank b ≡ true → in_bare b ≡ false
blank_no_bare b e = rw e refl

pub bare_no_blank : (b : ℕ) → in_bare b ≡ true → is_blank b ≡ false
bare_no_blank b e = by (is_blank b) refl
  where
    by : (v : Bool) → is_blank b ≡ v → v ≡ false
    by true f = absurd (not_both (in_bare b) e (blank_no_bare b f))
    by false f = refl

pub ends_no_bare : (b : ℕ) → ends_bare b ≡ true → in_bare b ≡ false
ends_no_bare b e = by (or_true (is_blank b) (b == 62) e)
  where
    by : (is_blank b ≡ true) ⊎ ((b == 62) ≡ true) → in_bare b ≡ false
    by (inl f) = blank_no_bare b f
    by (inr f) = rw (same_byte b 62 f) refl

pub ends_no_attribute : (b : ℕ) → ends_attribute b ≡ true → in_attribute b ≡ false
ends_no_attribute b e = by (or_true (is_blank b || b == 62) (b == 47) e)
  where
    first : (is_blank b ≡ true) ⊎ ((b == 62) ≡ true) → in_attribute b ≡ false
    first (inl f) = blank_no_attribute b f
    first (inr f) = rw (same_byte b 62 f) refl

    by : ((is_blank b || b == 62) ≡ true) ⊎ ((b == 47) ≡ true) → in_attribute b ≡ false
    by (inl f) = first (or_true (is_blank b) (b == 62) f)
    by (inr f) = rw (same_byte b 47 f) refl

blank_ends : (b : ℕ) → is_blank b ≡ true → ends_attribute b ≡ true
blank_ends b e = rw e refl

pub front_weaker : (p q : ℕ → Bool) → ((b : ℕ) → p b ≡ true → q b ≡ false) → (t : Text) → at_front p t ≡ true → at_front q t ≡ false
front_weaker p q law [] h = refl
front_weaker p q law (b ∷ t) h = law b h

-- a byte that no blank is, at the front
abbrev pub Starts : (ℕ → Bool) → Text → Type 0
Starts p t = (b : ℕ) × (y : Text) × (t ≡ b ∷ y) × (p b ≡ true)

pub starts_false : (p q : ℕ → Bool) → ((b : ℕ) → p b ≡ true → q b ≡ false) → (t : Text) → Starts p t → at_front q t ≡ false
starts_false p q law t (b, y, e, h) = ap (at_front q) e ∙ law b h

pub starts_append : (p : ℕ → Bool) (t z : Text) → Starts p t → Starts p (t ++ z)
starts_append p t z (b, y, e, h) = (b, y ++ z, ap (λ k. k ++ z) e, h)

pub gap_blank : (w : Text) → IsGap w → IsBlank w
gap_blank [] h = absurd h
gap_blank (b ∷ w) h = h

pub gap_starts : (w z : Text) → IsGap w → at_front ends_attribute (w ++ z) ≡ true
gap_starts [] z h = absurd h
gap_starts (b ∷ w) z h = blank_ends b (both_true (is_blank b) (all is_blank w) h).0

pub attribute_all : (n : Text) → IsAttribute n → all in_attribute n ≡ true
attribute_all [] h = absurd h
attribute_all (b ∷ n) h = h

pub attribute_starts : (n : Text) → IsAttribute n → Starts in_attribute n
attribute_starts [] h = absurd h
attribute_starts (b ∷ n) h = (b, n, refl, (both_true (in_attribute b) (all in_attribute n) h).0)

pub bare_all : (x : Text) → IsBare x → all in_bare x ≡ true
bare_all [] h = absurd h
bare_all (b ∷ x) h = h

bare_starts : (x : Text) → IsBare x → Starts in_bare x
bare_starts [] h = absurd h
bare_starts (b ∷ x) h = (b, x, refl, (both_true (in_bare b) (all in_bare x) h).0)

-- ---- values

pub same_tail : (b : ℕ) {x y : Text} → b ∷ x ≡ b ∷ y → x ≡ y
same_tail b e = cc

not_byte : (q : ℕ) (x z t : Text) → in_bare q ≡ false → IsBare x → x ++ z ≡ q ∷ t → ⊥
not_byte q [] z t h i e = i
not_byte q (b ∷ x) z t h i e = let s : b ≡ q = cc in not_both (in_bare q) (ap in_bare (sym s) ∙ (both_true (in_bare b) (all in_bare x) i).0) h

differ_marks : {x y : Text} → 34 ∷ x ≡ 39 ∷ y → ⊥
differ_marks e = cc

abbrev pub SameMarked : Text → Text → Text → Text → Text → Text → Type 0
SameMarked m x r k y z = (m ≡ k) × (x ≡ y) × (r ≡ z)

quoted_one : (q : ℕ) (x y r z : Text) → differs q q ≡ false → all (differs q) x ≡ true → all (differs q) y ≡ true → q ∷ (x ++ (q ∷ r)) ≡ q ∷ (y ++ (q ∷ z)) → SameMarked (q ∷ []) x r (q ∷ []) y z
quoted_one q x y r z d h i e =
    let g = same_runs (differs q) x y (q ∷ r) (q ∷ z) (same_tail q e) h i d d in
    (refl, g.0, same_tail q g.1)

pub one_marked : {m x r k y z : Text} → Marked m x r → Marked k y z → m ++ (x ++ (m ++ r)) ≡ k ++ (y ++ (k ++ z)) → SameMarked m x r k y z
one_marked {r = r} {z = z} (Marked.double x h) (Marked.double y i) e = quoted_one 34 x y r z refl h i e
one_marked (Marked.double x h) (Marked.single y i) e = absurd (differ_marks e)
one_marked {r = r} {z = z} (Marked.double x h) (Marked.bare y i stop) e = absurd (not_byte 34 y z (x ++ (34 ∷ r)) refl i (sym e))
one_marked (Marked.single x h) (Marked.double y i) e = absurd (differ_marks (sym e))
one_marked {r = r} {z = z} (Marked.single x h) (Marked.single y i) e = quoted_one 39 x y r z refl h i e
one_marked {r = r} {z = z} (Marked.single x h) (Marked.bare y i stop) e = absurd (not_byte 39 y z (x ++ (39 ∷ r)) refl i (sym e))
one_marked {r = r} {z = z} (Marked.bare x h stop) (Marked.double y i) e = absurd (not_byte 34 x r (y ++ (34 ∷ z)) refl h e)
one_marked {r = r} {z = z} (Marked.bare x h stop) (Marked.single y i) e = absurd (not_byte 39 x r (y ++ (39 ∷ z)) refl h e)
one_marked {r = r} {z = z} (Marked.bare x h stop) (Marked.bare y i halt) e =
    let g = same_runs in_bare x y r z e (bare_all x h) (bare_all y i) (front_weaker ends_bare in_bare ends_no_bare r stop) (front_weaker ends_bare in_bare ends_no_bare z halt) in
    (refl, g.0, g.1)

pub marked_starts : {m x r : Text} → Marked m x r → at_front is_blank (m ++ (x ++ (m ++ r))) ≡ false
marked_starts (Marked.double x h) = refl
marked_starts (Marked.single x h) = refl
marked_starts {r = r} (Marked.bare x h stop) = starts_false in_bare is_blank bare_no_blank (x ++ r) (starts_append in_bare x r (bare_starts x h))

-- ---- one attribute

pub equals_stops : (w z : Text) → IsBlank w → at_front in_attribute (w ++ (61 ∷ z)) ≡ false
equals_stops [] z h = refl
equals_stops (b ∷ w) z h = blank_no_attribute b (both_true (is_blank b) (all is_blank w) h).0

-- what two attributes with values that stand at one place have in common
pub record SameValued (f g : NameForm) (s u : Place) (ls ks : Letters) (q o : Place) (r z : Text) : Type 0 where
  pub forms : f ≡ g
  pub insides : s ≡ u
  pub letters : ls ≡ ks
  pub places : q ≡ o
  pub rests : r ≡ z

pub one_valued : (p : Place) (t : Text) (f g : NameForm) (s u : Place) (ls ks : Letters) (q o : Place) (r z : Text) → ValuedAt p t f s ls q r → ValuedAt p t g u ks o z → SameValued f g s u ls ks q o r z
one_valued p t f g s u ls ks q o r z h i =
    let hv : Text = h.v ++ (h.m ++ (h.x ++ (h.m ++ r))) in
    let iv : Text = i.v ++ (i.m ++ (i.x ++ (i.m ++ z))) in
    let names = same_runs in_attribute h.n i.n (h.w ++ (61 ∷ hv)) (i.w ++ (61 ∷ iv)) (sym h.is ∙ i.is) (attribute_all h.n h.name) (attribute_all i.n i.name) (equals_stops h.w hv h.before) (equals_stops i.w iv i.before) in
    let gaps = same_runs is_blank h.w i.w (61 ∷ hv) (61 ∷ iv) names.1 h.before i.before refl refl in
    let inner = same_runs is_blank h.v i.v (h.m ++ (h.x ++ (h.m ++ r))) (i.m ++ (i.x ++ (i.m ++ z))) (same_tail 61 gaps.1) h.behind i.behind (marked_starts h.marked) (marked_starts i.marked) in
    let marks = one_marked h.marked i.marked inner.1 in
    let same : s ≡ u = h.inside ∙ ap (λ k. steps p (k ++ (h.w ++ (61 ∷ (h.v ++ h.m))))) names.0 ∙ ap (λ k. steps p (i.n ++ (k ++ (61 ∷ (h.v ++ h.m))))) gaps.0
    ∙ ap (λ k. steps p (i.n ++ (i.w ++ (61 ∷ (k ++ h.m))))) inner.0 ∙ ap (λ k. steps p (i.n ++ (i.w ++ (61 ∷ (i.v ++ k))))) marks.0 ∙ sym i.inside in
    let after : q ≡ o = h.at ∙ ap (λ k. steps p (k ++ (h.w ++ (61 ∷ (h.v ++ (h.m ++ (h.x ++ h.m))))))) names.0 ∙ ap (λ k. steps p (i.n ++ (k ++ (61 ∷ (h.v ++ (h.m ++ (h.x ++ h.m))))))) gaps.0
    ∙ ap (λ k. steps p (i.n ++ (i.w ++ (61 ∷ (k ++ (h.m ++ (h.x ++ h.m))))))) inner.0 ∙ ap (λ k. steps p (i.n ++ (i.w ++ (61 ∷ (i.v ++ (k ++ (h.x ++ k))))))) marks.0
    ∙ ap (λ k. steps p (i.n ++ (i.w ++ (61 ∷ (i.v ++ (i.m ++ (k ++ i.m))))))) marks.1 ∙ sym i.at in
    record {
      forms = some_one (sym h.form ∙ ap form_of names.0 ∙ i.form);
      insides = same;
      letters = one_decoding s h.x ls ks h.decodes (subst (λ k. Decodes k h.x ks) (sym same) (subst (λ k. Decodes u k ks) (sym marks.1) i.decodes));
      places = after;
      rests = marks.2;
    }

same_attribute : (p : Place) (f g : NameForm) (a b : AttrForm) → f ≡ g → a ≡ b → attribute p f a ≡ attribute p g b
same_attribute p f g a b e d = ap (λ k. attribute p k a) e ∙ ap (attribute p g) d

abbrev SameRead : TAttr → Place → Text → TAttr → Place → Text → Type 0
SameRead one q r two o z = (one ≡ two) × (q ≡ o) × (r ≡ z)

pub alone_stops : (r : Text) → at_front ends_attribute r ≡ true → at_front in_attribute r ≡ false
alone_stops r h = front_weaker ends_attribute in_attribute ends_no_attribute r h

one_alone : (p : Place) (t : Text) (one two : TAttr) (q o : Place) (r z : Text) → AloneAt p t one q r → AloneAt p t two o z → SameRead one q r two o z
one_alone p t one two q o r z h i =
    let names = same_runs in_attribute h.n i.n r z (sym h.is ∙ i.is) (attribute_all h.n h.name) (attribute_all i.n i.name) (alone_stops r h.ends) (alone_stops z i.ends) in
    let forms : h.f ≡ i.f = some_one (sym h.form ∙ ap form_of names.0 ∙ i.form) in
    let says : h.says ≡ i.says = some_one (sym h.without ∙ ap without_value forms ∙ i.without) in
    (h.all ∙ same_attribute p h.f i.f h.says i.says forms says ∙ sym i.all, h.at ∙ ap (steps p) names.0 ∙ sym i.at, names.1)

pub alone_unvalued : (p : Place) (t : Text) (one : TAttr) (q o : Place) (r z : Text) (f : NameForm) (s : Place) (ls : Letters) → AloneAt p t one q r → ValuedAt p t f s ls o z → ⊥
alone_unvalued p t one q o r z f s ls h i =
    let iv : Text = i.v ++ (i.m ++ (i.x ++ (i.m ++ z))) in
    let names = same_runs in_attribute h.n i.n r (i.w ++ (61 ∷ iv)) (sym h.is ∙ i.is) (attribute_all h.n h.name) (attribute_all i.n i.name) (alone_stops r h.ends) (equals_stops i.w iv i.before) in
    h.unvalued i.w iv i.before names.1

one_said : (p : Place) (t : Text) (one two : TAttr) (q o : Place) (r z : Text) → SaysAt p t one q r → SaysAt p t two o z → SameRead one q r two o z
one_said p t one two q o r z h i =
    let k = one_valued p t h.f i.f h.s i.s h.ls i.ls q o r z h.valued i.valued in
    let moved : Says i.f i.s i.ls h.form = subst (λ v. Says i.f i.s v h.form) k.letters (subst (λ v. Says i.f v h.ls h.form) k.insides (subst (λ v. Says v h.s h.ls h.form) k.forms h.says)) in
    (h.all ∙ same_attribute p h.f i.f h.form i.form k.forms (says_one i.f i.s i.ls h.form i.form moved i.says) ∙ sym i.all, k.places, k.rests)

pub one_attribute : (p : Place) (t : Text) (one two : TAttr) (q o : Place) (r z : Text) → AttributeAt p t one q r → AttributeAt p t two o z → SameRead one q r two o z
one_attribute p t one two q o r z (inl h) (inl i) = one_alone p t one two q o r z h i
one_attribute p t one two q o r z (inl h) (inr i) = absurd (alone_unvalued p t one q o r z i.f i.s i.ls h i.valued)
one_attribute p t one two q o r z (inr h) (inl i) = absurd (alone_unvalued p t two o q z r h.f h.s h.ls i h.valued)
one_attribute p t one two q o r z (inr h) (inr i) = one_said p t one two q o r z h i

pub starts_attribute : (p : Place) (t : Text) (one : TAttr) (q : Place) (r : Text) → AttributeAt p t one q r → Starts in_attribute t
starts_attribute p t one q r (inl h) = let g = starts_append in_attribute h.n r (attribute_starts h.n h.name) in (g.0, g.1, h.is ∙ g.2, g.3)
starts_attribute p t one q r (inr h) = let v = h.valued in let g = starts_append in_attribute v.n (v.w ++ (61 ∷ (v.v ++ (v.m ++ (v.x ++ (v.m ++ r)))))) (attribute_starts v.n v.name) in (g.0, g.1, v.is ∙ g.2, g.3)
