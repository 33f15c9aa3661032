-- A phrase reads at most one front of a text, and for one value.
use Rattle.std.proofs.Common.{◌≡◌, ℕ, zero, suc, Bool, true, false, List, [], ◌∷◌, ◌++◌, refl, sym, ◌∙◌, ap, subst, append_assoc}
use Rattle.std.proofs.lemmas.List.{append_cancel_left}
use Rattle.ng_ast.specs.declared.Place.{Place}
use Rattle.ng_tokens.specs.Lexis.{Text, steps}
use Rattle.ng_phrases.specs.Parser.{Readers, Agree}
use Rattle.ng_phrases.specs.Phrase.{Phrase}
use Rattle.ng_phrases.specs.Reading.{Then, Many, Extends, reads}
use Rattle.ng_phrases.specs.Nested.{reads_below, Nests}

module _ {A B : Type 0} (r s : Place → Text → Text → A → Type 0) (t u : A → Place → Text → Text → B → Type 0) where
  -- where the fronts are one, so are the rests
  rests : Agree r s → ((a : A) → Agree (t a) (u a)) → (p : Place) (x z y w : Text) (a b : B) (h : Then r t p x z a) (i : Then s u p y w b) → h.front ++ (h.back ++ z) ≡ i.front ++ (i.back ++ w)
      → (h.front ≡ i.front) × (h.value ≡ i.value) → (x ≡ y) × (a ≡ b)
  rests one two p x z y w a b h i e k =
      let back : h.back ++ z ≡ i.back ++ w = append_cancel_left h.front (h.back ++ z) (i.back ++ w) (e ∙ ap (λ (v : Text). v ++ (i.back ++ w)) (sym k.0)) in
      let at : u h.value (steps p h.front) i.back w b = subst (λ (v : A). u v (steps p h.front) i.back w b) (sym k.1) (subst (λ (v : Text). u i.value (steps p v) i.back w b) (sym k.0) i.goes_on) in
      let m = (two h.value).same (steps p h.front) h.back z i.back w a b h.goes_on at back in
      (h.parts ∙ ap (λ (v : Text). v ++ h.back) k.0 ∙ ap (λ (v : Text). i.front ++ v) m.0 ∙ sym i.parts, m.1)

  agree_then : Agree r s → ((a : A) → Agree (t a) (u a)) → Agree (Then r t) (Then s u)
  agree_then one two = record {
    same = λ p x z y w a b h i e.
        let f : h.front ++ (h.back ++ z) ≡ i.front ++ (i.back ++ w) =
        sym (append_assoc h.front h.back z) ∙ ap (λ (v : Text). v ++ z) (sym h.parts) ∙ e ∙ ap (λ (v : Text). v ++ w) i.parts ∙ append_assoc i.front i.back w in
        rests one two p x z y w a b h i f (one.same p h.front (h.back ++ z) i.front (i.back ++ w) h.value i.value h.begins_so i.begins_so f);
  }

-- ---- lists

-- what a list is, by its first phrase
abbrev Listed : {A : Type 0} → (Text → Bool) → (Place → Text → Text → A → Type 0) → Place → Text → Text → List A → Type 0
Listed more r p x z [] = (x ≡ []) × (more z ≡ false)
Listed {A} more r p x z (a ∷ found) = (front back : Text) × (x ≡ front ++ back) × (more (front ++ (back ++ z)) ≡ true) × r p front (back ++ z) a × Many more r (steps p front) back z found

listed : {A : Type 0} {more : Text → Bool} {r : Place → Text → Text → A → Type 0} {p : Place} {x z : Text} {l : List A} → Many more r p x z l → Listed more r p x z l
listed (Many.done e) = (refl, e)
listed (Many.next x y e h i) = (x, y, refl, e, h, i)

no_both : (b : Bool) → b ≡ true → b ≡ false → ⊥
no_both b e h = cc

module _ {A : Type 0} (more : Text → Bool) (r s : Place → Text → Text → A → Type 0) (one : Agree r s) where
  same_list : {p : Place} {x z : Text} {l : List A} → Many more r p x z l → (y w : Text) (m : List A) → Listed more s p y w m → x ++ z ≡ y ++ w → (x ≡ y) × (l ≡ m)
  same_list (Many.done e) y w [] h k = (sym h.0, refl)
  same_list {z = z} (Many.done e) y w (b ∷ m) h k =
      absurd (no_both (more z) (ap more (k ∙ ap (λ (v : Text). v ++ w) h.2 ∙ append_assoc h.0 h.1 w) ∙ h.3) e)
  same_list {z = z} (Many.next x v e g i) y w [] h k =
      absurd (no_both (more w) (ap more (sym (ap (λ (u : Text). u ++ w) h.0) ∙ sym k ∙ append_assoc x v z) ∙ e) h.1)
  same_list {p = p} {z = z} (Many.next {a = a} {found = found} x v e g i) y w (b ∷ m) h k =
      let f : x ++ (v ++ z) ≡ h.0 ++ (h.1 ++ w) = sym (append_assoc x v z) ∙ k ∙ ap (λ (u : Text). u ++ w) h.2 ∙ append_assoc h.0 h.1 w in
      let o = one.same p x (v ++ z) h.0 (h.1 ++ w) a b g h.4 f in
      let back : v ++ z ≡ h.1 ++ w = append_cancel_left x (v ++ z) (h.1 ++ w) (f ∙ ap (λ (u : Text). u ++ (h.1 ++ w)) (sym o.0)) in
      let n = same_list i h.1 w m (listed (subst (λ (u : Text). Many more s (steps p u) h.1 w m) (sym o.0) h.5)) back in
      (ap (λ (u : Text). u ++ v) o.0 ∙ ap (λ (u : Text). h.0 ++ u) n.0 ∙ sym h.2, ap (λ c. c ∷ found) o.1 ∙ ap (λ l. b ∷ l) n.1)

  agree_many : (start : List A) → Agree (Extends more r start) (Extends more s start)
  agree_many start = record {
    same = λ p x z y w l m h i e.
        let n = same_list h.2 y w i.0 (listed i.2) e in
        (n.0, h.1 ∙ ap (λ found. start ++ found) n.1 ∙ sym i.1);
  }

-- ---- every phrase

module _ {R : Readers} {H : Type 0} (inner other : Place → Text → Text → H → Type 0) (hole : Agree inner other) where
  pub agree : {A : Type 0} (g : Phrase R H A) → Agree (reads inner g) (reads other g)
  unfolding reads
  agree (Phrase.pure a) = record { same = λ p x z y w b c h i e. (h.0 ∙ sym i.0, h.1 ∙ sym i.1) }
  agree (Phrase.bind r f) = agree_then (reads inner r) (reads other r) (λ a. reads inner (f a)) (λ a. reads other (f a)) (agree r) (λ a. agree (f a))
  agree Phrase.here = record { same = λ p x z y w b c h i e. (h.0 ∙ sym i.0, h.1 ∙ sym i.1) }
  agree (Phrase.ahead see) = record {
    same = λ p x z y w b c h i e.
        let f : z ≡ w = sym (ap (λ (v : Text). v ++ z) h.0) ∙ e ∙ ap (λ (v : Text). v ++ w) i.0 in
        (h.0 ∙ sym i.0, h.1 ∙ ap see f ∙ sym i.1);
  }
  agree Phrase.refuse = record { same = λ p x z y w b c h i e. absurd h }
  agree (Phrase.within b) = record { same = λ p x z y w u v h i e. (h ∙ sym i, refl) }
  agree (Phrase.leaf l) = l.one
  agree (Phrase.many more l some item good start) =
      agree_many more (Then l.reads (λ k. reads inner (item k))) (Then l.reads (λ k. reads other (item k)))
      (agree_then l.reads l.reads (λ k. reads inner (item k)) (λ k. reads other (item k)) l.one (λ k. agree (item k))) start
  agree Phrase.hole = hole

-- ---- a phrase in itself

module _ {R : Readers} {H : Type 0} (g : Phrase R H H) where
  agree_below : (n m : ℕ) → Agree (reads_below g n) (reads_below g m)
  unfolding reads_below
  agree_below zero m = record { same = λ p x z y w a b h i e. absurd h }
  agree_below (suc n) zero = record { same = λ p x z y w a b h i e. absurd i }
  agree_below (suc n) (suc m) = agree (reads_below g n) (reads_below g m) (agree_below n m) g

  pub agree_any : Agree (Nests g) (Nests g)
  agree_any = record { same = λ p x z y w a b h i e. (agree_below h.0 i.0).same p x z y w a b h.1 i.1 e }
