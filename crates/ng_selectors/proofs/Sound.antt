-- What the parsers give, the grammar reads.
use Rattle.std.proofs.Common.{◌≡◌, ℕ, zero, suc, List, [], ◌∷◌, ◌++◌, length, take, refl, sym, ◌∙◌, ap, subst, append_assoc, inl, inr}
use Rattle.std.proofs.lemmas.List.{append-nil, take-append-drop}
use Rattle.std.specs.Prelude.{Bool, true, false, cond, codes, ◌⊎◌, Option, Some, None}
use Rattle.std.specs.List.{prefix_len}
use Rattle.ng_tokens.specs.Lexis.{Text, all, is_blank, is_letter, is_word, is_quote}
use Rattle.ng_ast.specs.declared.One.{One}
use Rattle.ng_ast.specs.declared.SelPart.{SelPart}
use Rattle.ng_ast.specs.declared.SelPart.TheVariants as kind
use Rattle.ng_ast.specs.declared.Selector.{Selector}
use Rattle.ng_selectors.specs.Grammar.{is_lower, is_tag_byte, is_identifier_byte, IsTag, IsIdentifier, ReadsValue, ReadsPart, ReadsParts, ReadsOne, ReadsAlternatives, ReadsSelector}
use Rattle.ng_selectors.specs.Parse.{Outcome, Parser, and_then, ◌>>=◌, ◌>>◌, pure, strip, without, expect, after, if_after, is_empty, sees, run, until, identifier, name, value, valued, named, attribute, class, begins_part, tag, filled, part, parts_within, parts, one, negation, alternative, skip_blanks, blanks, comma, alternatives_within, alternatives, selector_of, selector_with}
use Rattle.ng_selectors.proofs.Words.{same_found, strip_is, run_is, until_is, front_passes}
use Rattle.ng_selectors.proofs.Complete.{tag_begins, identifier_begins, name_begins, complete}

-- what stood at the front is this, and r is left
abbrev pub Took : {A : Type 0} → (Text → A → Type 0) → Text → A → Text → Type 0
Took R t a r = (x : Text) × R x a × (t ≡ x ++ r)

-- ---- steps

abbrev Then : {A B : Type 0} → Outcome A → (A → Parser B) → B × Text → Type 0
Then {A} o f q = (p : A × Text) × (o ≡ Some p) × (f p.0 p.1 ≡ Some q)

then_is : {A B : Type 0} (o : Outcome A) (f : A → Parser B) (q : B × Text) → and_then o f ≡ Some q → Then o f q
then_is None f q e = absurd cc
then_is (Some p) f q e = (p, refl, e)

-- behind a sign
sign_is : {B : Type 0} (w : Text) (p : Parser B) (t : Text) (q : B × Text) → and_then (expect w t) (λ _. p) ≡ Some q → (u : Text) × (t ≡ w ++ u) × (p u ≡ Some q)
sign_is w p t q e = by (strip w t) refl e
  where
    by : (o : Option Text) → strip w t ≡ o → and_then (without o) (λ _. p) ≡ Some q → (u : Text) × (t ≡ w ++ u) × (p u ≡ Some q)
    by None f g = absurd cc
    by (Some u) f g = (u, strip_is w t u f, g)

-- the one or the other
either_is : {A : Type 0} (w : Text) (p d : Parser A) (t : Text) (q : A × Text) → after w p d t ≡ Some q → ((u : Text) × (t ≡ w ++ u) × (p u ≡ Some q)) ⊎ (d t ≡ Some q)
either_is w p d t q e = by (strip w t) refl e
  where
    by : (o : Option Text) → strip w t ≡ o → if_after o p (d t) ≡ Some q → ((u : Text) × (t ≡ w ++ u) × (p u ≡ Some q)) ⊎ (d t ≡ Some q)
    by None f g = inr g
    by (Some u) f g = inl (u, strip_is w t u f, g)

pure_is : {A : Type 0} (a b : A) (t r : Text) → pure a t ≡ Some (b, r) → (a ≡ b) × (t ≡ r)
pure_is a b t r e = let same : (a, t) ≡ (b, r) = same_found e in (ap (λ z. z.0) same, ap (λ z. z.1) same)

-- one piece behind another
joined : (t x u y r s : Text) → t ≡ x ++ u → u ≡ y ++ r → r ≡ s → t ≡ (x ++ y) ++ s
joined t x u y r s e f g = e ∙ ap (λ z. x ++ z) (f ∙ ap (λ z. y ++ z) g) ∙ sym (append_assoc x y s)

-- a piece between two signs
enclosed : (t w u x v c z r : Text) → t ≡ w ++ u → u ≡ x ++ v → v ≡ c ++ z → z ≡ r → t ≡ (w ++ (x ++ c)) ++ r
enclosed t w u x v c z r e f g h =
    e ∙ ap (λ q. w ++ q) (f ∙ ap (λ q. x ++ q) (g ∙ ap (λ q. c ++ q) h)) ∙ sym (append_assoc w (x ++ c) r ∙ ap (λ q. w ++ q) (append_assoc x c r))

-- ---- values

quoted_is : (q : ℕ) → is_quote q ≡ true → (t u v r : Text) → t ≡ q ∷ u → until q u ≡ Some (v, r) → Took ReadsValue t v r
quoted_is q h t u v r e f =
    let g = until_is q u v r f in
    (q ∷ (v ++ q ∷ []), ReadsValue.quoted q v h g.0, e ∙ ap (λ z. q ∷ z) (g.1 ∙ sym (append_assoc v (q ∷ []) r)))

bare_is : (t v r : Text) → name t ≡ Some (v, r) → Took ReadsValue t v r
bare_is t v r e = let g = run_is is_letter is_word t v r name_begins e in (v, ReadsValue.bare g.0, g.1)

value_is : (t v r : Text) → value t ≡ Some (v, r) → Took ReadsValue t v r
value_is t v r e = single (either_is (codes "'") (until 39) (after (codes "\"") (until 34) name) t (v, r) e)
  where
    double : ((u : Text) × (t ≡ codes "\"" ++ u) × (until 34 u ≡ Some (v, r))) ⊎ (name t ≡ Some (v, r)) → Took ReadsValue t v r
    double (inl h) = quoted_is 34 refl t h.0 v r h.1 h.2
    double (inr h) = bare_is t v r h

    single : ((u : Text) × (t ≡ codes "'" ++ u) × (until 39 u ≡ Some (v, r))) ⊎ (after (codes "\"") (until 34) name t ≡ Some (v, r)) → Took ReadsValue t v r
    single (inl h) = quoted_is 39 refl t h.0 v r h.1 h.2
    single (inr h) = double (either_is (codes "\"") (until 34) name t (v, r) h)

-- ---- parts

identifier_is : (t a r : Text) → identifier t ≡ Some (a, r) → IsIdentifier a × (t ≡ a ++ r)
identifier_is t a r e = run_is is_identifier_byte is_identifier_byte t a r identifier_begins e

-- a value and the bracket that closes
valued_is : (a t : Text) (p : SelPart) (r : Text) → valued a t ≡ Some (p, r) → (v x : Text) × ReadsValue x v × (t ≡ x ++ 93 ∷ r) × (kind.Is a v ≡ p)
valued_is a t p r e =
    let s : Then (value t) (λ v. expect (codes "]") >> pure (kind.Is a v)) (p, r) = then_is (value t) (λ v. expect (codes "]") >> pure (kind.Is a v)) (p, r) e in
    let v = s.0.0 in
    let h = value_is t v s.0.1 s.1 in
    let g = sign_is (codes "]") (pure (kind.Is a v)) s.0.1 (p, r) s.2 in
    let same = pure_is (kind.Is a v) p g.0 r g.2 in
    (v, h.0, h.1, h.2 ∙ ap (λ z. h.0 ++ z) (g.1 ∙ ap (λ z. 93 ∷ z) same.1), same.0)

attribute_is : (d : ℕ) (t u : Text) (p : SelPart) (r : Text) → t ≡ 91 ∷ u → attribute u ≡ Some (p, r) → Took (ReadsPart d) t p r
attribute_is d t u p r e f =
    let s : Then (identifier u) named (p, r) = then_is (identifier u) named (p, r) f in
    by s.0.0 s.0.1 (identifier_is u s.0.0 s.0.1 s.1) (either_is (codes "]") (pure (kind.Has s.0.0)) (expect (codes "=") >> valued s.0.0) s.0.1 (p, r) s.2)
  where
    by : (a z : Text) → IsIdentifier a × (u ≡ a ++ z) → ((w : Text) × (z ≡ codes "]" ++ w) × (pure (kind.Has a) w ≡ Some (p, r))) ⊎ ((expect (codes "=") >> valued a) z ≡ Some (p, r)) → Took (ReadsPart d) t p r
    by a z h (inl g) =
        let same = pure_is (kind.Has a) p g.0 r g.2 in (
          91 ∷ (a ++ 93 ∷ []),
          subst (λ q. ReadsPart d (91 ∷ (a ++ 93 ∷ [])) q) same.0 (ReadsPart.has a h.0),
          enclosed t (codes "[") u a z (codes "]") g.0 r e h.1 g.1 same.1,
        )
    by a z h (inr g) =
        let s = sign_is (codes "=") (valued a) z (p, r) g in
        let v = valued_is a s.0 p r s.2 in (
          91 ∷ (a ++ 61 ∷ (v.1 ++ 93 ∷ [])),
          subst (λ q. ReadsPart d (91 ∷ (a ++ 61 ∷ (v.1 ++ 93 ∷ []))) q) v.4 (ReadsPart.equals a v.1 h.0 v.2),
          e ∙ ap (λ w. 91 ∷ w) (h.1 ∙ ap (λ w. a ++ w) (s.1 ∙ ap (λ w. 61 ∷ w) (v.3 ∙ sym (append_assoc v.1 (93 ∷ []) r))) ∙ sym (append_assoc a (61 ∷ (v.1 ++ 93 ∷ [])) r)),
        )

class_is : (d : ℕ) (t u : Text) (p : SelPart) (r : Text) → t ≡ 46 ∷ u → class u ≡ Some (p, r) → Took (ReadsPart d) t p r
class_is d t u p r e f =
    let s : Then (identifier u) (λ c. pure (kind.Class c)) (p, r) = then_is (identifier u) (λ c. pure (kind.Class c)) (p, r) f in
    let h = identifier_is u s.0.0 s.0.1 s.1 in
    let same = pure_is (kind.Class s.0.0) p s.0.1 r s.2 in
    (46 ∷ s.0.0, subst (λ q. ReadsPart d (46 ∷ s.0.0) q) same.0 (ReadsPart.class s.0.0 h.0), e ∙ ap (λ w. 46 ∷ w) (h.1 ∙ ap (λ w. s.0.0 ++ w) same.1))

abbrev pub Deeper : ℕ → Parser SelPart → Type 0
Deeper d deeper = (t : Text) (p : SelPart) (r : Text) → deeper t ≡ Some (p, r) → Took (ReadsPart d) t p r

pub part_is : (d : ℕ) (deeper : Parser SelPart) → Deeper d deeper → (t : Text) (p : SelPart) (r : Text) → part deeper t ≡ Some (p, r) → Took (ReadsPart d) t p r
unfolding part
part_is d deeper go t p r e = bracket (either_is (codes "[") attribute (after (codes ".") class deeper) t (p, r) e)
  where
    point : ((u : Text) × (t ≡ codes "." ++ u) × (class u ≡ Some (p, r))) ⊎ (deeper t ≡ Some (p, r)) → Took (ReadsPart d) t p r
    point (inl h) = class_is d t h.0 p r h.1 h.2
    point (inr h) = go t p r h

    bracket : ((u : Text) × (t ≡ codes "[" ++ u) × (attribute u ≡ Some (p, r))) ⊎ (after (codes ".") class deeper t ≡ Some (p, r)) → Took (ReadsPart d) t p r
    bracket (inl h) = attribute_is d t h.0 p r h.1 h.2
    bracket (inr h) = point (either_is (codes ".") class deeper t (p, r) h)

-- ---- alternatives

abbrev Many : ℕ → Parser SelPart → Parser (List SelPart)
Many n deeper = part deeper >>= λ p. parts_within deeper n >>= λ ps. pure (p ∷ ps)

parts_if : (d n : ℕ) (deeper : Parser SelPart) → Deeper d deeper → (t : Text) (ps : List SelPart) (r : Text) → ((u : Text) (qs : List SelPart) (s : Text) → parts_within deeper n u ≡ Some (qs, s) → Took (ReadsParts d) u qs s)
    → (x : Bool) → cond x (Many n deeper t) (Some ([], t)) ≡ Some (ps, r) → Took (ReadsParts d) t ps r
parts_if d n deeper deep t ps r go false e =
    let same = pure_is [] ps t r e in
    ([], subst (λ qs. ReadsParts d [] qs) same.0 ReadsParts.none, same.1)
parts_if d n deeper deep t ps r go true e =
    let s : Then (part deeper t) (λ p. parts_within deeper n >>= λ qs. pure (p ∷ qs)) (ps, r) = then_is (part deeper t) (λ p. parts_within deeper n >>= λ qs. pure (p ∷ qs)) (ps, r) e in
    let h = part_is d deeper deep t s.0.0 s.0.1 s.1 in
    let v : Then (parts_within deeper n s.0.1) (λ qs. pure (s.0.0 ∷ qs)) (ps, r) = then_is (parts_within deeper n s.0.1) (λ qs. pure (s.0.0 ∷ qs)) (ps, r) s.2 in
    let k = go s.0.1 v.0.0 v.0.1 v.1 in
    let same = pure_is (s.0.0 ∷ v.0.0) ps v.0.1 r v.2 in (
      h.0 ++ k.0,
      subst (λ qs. ReadsParts d (h.0 ++ k.0) qs) same.0 (ReadsParts.more h.0 k.0 h.1 k.1),
      joined t h.0 s.0.1 k.0 v.0.1 r h.2 k.2 same.1,
    )

parts_within_is : (d : ℕ) (deeper : Parser SelPart) → Deeper d deeper → (n : ℕ) (t : Text) (ps : List SelPart) (r : Text) → parts_within deeper n t ≡ Some (ps, r) → Took (ReadsParts d) t ps r
parts_within_is d deeper deep zero t ps r e = absurd cc
parts_within_is d deeper deep (suc n) t ps r e = parts_if d n deeper deep t ps r (parts_within_is d deeper deep n) (sees begins_part t) e

pub parts_is : (d : ℕ) (deeper : Parser SelPart) → Deeper d deeper → (t : Text) (ps : List SelPart) (r : Text) → parts deeper t ≡ Some (ps, r) → Took (ReadsParts d) t ps r
unfolding parts
parts_is d deeper deep t ps r e = parts_within_is d deeper deep (suc (length t)) t ps r e

-- what stands before the parts
abbrev Tagged : Text → Option Text → Text → Type 0
Tagged t None r = t ≡ r
Tagged t (Some a) r = IsTag a × (t ≡ a ++ r)

tag_is : (t : Text) (o : Option Text) (r : Text) → tag t ≡ Some (o, r) → Tagged t o r
tag_is t o r e = by (sees is_lower t) e
  where
    by : (x : Bool) → cond x ((run is_lower is_tag_byte >>= λ a. pure (Some a)) t) (Some (None, t)) ≡ Some (o, r) → Tagged t o r
    by false f = let same = pure_is None o t r f in subst (λ z. Tagged t z r) same.0 same.1
    by true f =
        let s : Then (run is_lower is_tag_byte t) (λ a. pure (Some a)) (o, r) = then_is (run is_lower is_tag_byte t) (λ a. pure (Some a)) (o, r) f in
        let same = pure_is (Some s.0.0) o s.0.1 r s.2 in
        let h = run_is is_lower is_tag_byte t s.0.0 s.0.1 tag_begins s.1 in
        subst (λ z. Tagged t z r) same.0 (h.0, h.1 ∙ ap (λ z. s.0.0 ++ z) same.1)

filled_is : (d : ℕ) (t u v : Text) (o : Option Text) (ps : List SelPart) (a : One) (r : Text) → Tagged t o u → ReadsParts d v ps → u ≡ v ++ r → filled o ps r ≡ Some (a, r) → Took (ReadsOne d) t a r
filled_is d t u v None [] a r h k e f = absurd cc
filled_is d t u v None (p ∷ ps) a r h k e f =
    let one : One = record { tag = None; parts = p ∷ ps } in
    (v, subst (λ z. ReadsOne d v z) (pure_is one a r r f).0 (ReadsOne.untagged v k), h ∙ e)
filled_is d t u v (Some b) ps a r h k e f =
    let one : One = record { tag = Some b; parts = ps } in
    (b ++ v, subst (λ z. ReadsOne d (b ++ v) z) (pure_is one a r r f).0 (ReadsOne.tagged b v h.0 k), h.1 ∙ ap (λ z. b ++ z) e ∙ sym (append_assoc b v r))

filled_left : (o : Option Text) (ps : List SelPart) (a : One) (t r : Text) → filled o ps t ≡ Some (a, r) → t ≡ r
filled_left None [] a t r e = absurd cc
filled_left None (p ∷ ps) a t r e = let one : One = record { tag = None; parts = p ∷ ps } in (pure_is one a t r e).1
filled_left (Some b) ps a t r e = let one : One = record { tag = Some b; parts = ps } in (pure_is one a t r e).1

abbrev Bare : Parser SelPart → Parser One
Bare deeper = tag >>= λ o. parts deeper >>= λ ps. filled o ps

bare_one : (d : ℕ) (deeper : Parser SelPart) → Deeper d deeper → (t : Text) (a : One) (r : Text) → Bare deeper t ≡ Some (a, r) → Took (ReadsOne d) t a r
bare_one d deeper deep t a r e =
    let s : Then (tag t) (λ o. parts deeper >>= λ ps. filled o ps) (a, r) = then_is (tag t) (λ o. parts deeper >>= λ ps. filled o ps) (a, r) e in
    let v : Then (parts deeper s.0.1) (λ ps. filled s.0.0 ps) (a, r) = then_is (parts deeper s.0.1) (λ ps. filled s.0.0 ps) (a, r) s.2 in
    let k = parts_is d deeper deep s.0.1 v.0.0 v.0.1 v.1 in
    let left = filled_left s.0.0 v.0.0 a v.0.1 r v.2 in
    filled_is d t s.0.1 k.0 s.0.0 v.0.0 a r (tag_is t s.0.0 s.0.1 s.1) k.1 (k.2 ∙ ap (λ z. k.0 ++ z) left) (subst (λ z. filled s.0.0 v.0.0 z ≡ Some (a, r)) left v.2)

pub one_is : (d : ℕ) (deeper : Parser SelPart) → Deeper d deeper → (t : Text) (a : One) (r : Text) → one deeper t ≡ Some (a, r) → Took (ReadsOne d) t a r
unfolding one
one_is d deeper deep t a r e = by (either_is (codes "*") (pure (record { tag = None; parts = [] })) (Bare deeper) t (a, r) e)
  where
    by : ((u : Text) × (t ≡ codes "*" ++ u) × (pure (record { tag = None; parts = [] }) u ≡ Some (a, r))) ⊎ (Bare deeper t ≡ Some (a, r)) → Took (ReadsOne d) t a r
    by (inl h) =
        let all : One = record { tag = None; parts = [] } in
        let same = pure_is all a h.0 r h.2 in
        (codes "*", subst (λ z. ReadsOne d (codes "*") z) same.0 ReadsOne.everything, h.1 ∙ ap (λ z. 42 ∷ z) same.1)
    by (inr h) = bare_one d deeper deep t a r h

pub negation_is : (d : ℕ) → Deeper d (negation d)
unfolding negation
negation_is zero t p r e = absurd cc
negation_is (suc d) t p r e =
    let f = λ (a : One). expect (codes ")") >> pure (kind.Not a) in
    let s = sign_is (codes ":not(") (one (negation d) >>= f) t (p, r) e in
    let v : Then (one (negation d) s.0) f (p, r) = then_is (one (negation d) s.0) f (p, r) s.2 in
    let k = one_is d (negation d) (negation_is d) s.0 v.0.0 v.0.1 v.1 in
    let w = sign_is (codes ")") (pure (kind.Not v.0.0)) v.0.1 (p, r) v.2 in
    let same = pure_is (kind.Not v.0.0) p w.0 r w.2 in (
      codes ":not(" ++ (k.0 ++ codes ")"),
      subst (λ z. ReadsPart (suc d) (codes ":not(" ++ (k.0 ++ codes ")")) z) same.0 (ReadsPart.except k.0 k.1),
      enclosed t (codes ":not(") s.0 k.0 v.0.1 (codes ")") w.0 r s.1 k.2 w.1 same.1,
    )

pub alternative_is : (t : Text) (a : One) (r : Text) → alternative t ≡ Some (a, r) → Took (ReadsOne 1) t a r
unfolding alternative
alternative_is t a r e = one_is 1 (negation 1) (negation_is 1) t a r e

-- ---- lists

blank_front : (t : Text) → (v : Text) × (all is_blank v ≡ true) × (t ≡ v ++ skip_blanks t)
blank_front t = (take (prefix_len is_blank t) t, front_passes is_blank t, sym (take-append-drop (prefix_len is_blank t) t))

pub comma_is : (t : Text) (q : Unit {0} × Text) → comma t ≡ Some q → (v w : Text) × (all is_blank v ≡ true) × (all is_blank w ≡ true) × (t ≡ v ++ 44 ∷ (w ++ q.1))
comma_is t q e =
    let v = blank_front t in
    let s = sign_is (codes ",") blanks (skip_blanks t) q e in
    let w = blank_front s.0 in
    let left : skip_blanks s.0 ≡ q.1 = ap (λ z. z.1) (same_found s.2) in
    (v.0, w.0, v.1, w.1, v.2 ∙ ap (λ z. v.0 ++ z) (s.1 ∙ ap (λ z. 44 ∷ z) (w.2 ∙ ap (λ z. w.0 ++ z) left)))

empty_is : (t : Text) → is_empty t ≡ true → t ≡ []
empty_is [] e = refl
empty_is (b ∷ t) e = absurd cc

-- all of the text was read
abbrev AllRead : Text → List One → Text → Type 0
AllRead t found r = (r ≡ []) × ReadsAlternatives t found

abbrev Others : ℕ → One → Parser (List One)
Others n a = comma >> (alternatives_within n >>= λ found. pure (a ∷ found))

list_if : (n : ℕ) (t u : Text) (a : One) (found : List One) (r : Text) → Took (ReadsOne 1) t a u → ((v : Text) (others : List One) (s : Text) → alternatives_within n v ≡ Some (others, s) → AllRead v others s)
    → (x : Bool) → is_empty u ≡ x → cond x (Some (a ∷ [], u)) (Others n a u) ≡ Some (found, r) → AllRead t found r
list_if n t u a found r h go true f e =
    let same = pure_is (a ∷ []) found u r e in
    let none : u ≡ [] = empty_is u f in (
      sym same.1 ∙ none,
      subst (λ z. ReadsAlternatives t z) same.0 (subst (λ z. ReadsAlternatives z (a ∷ [])) (sym (h.2 ∙ ap (λ z. h.0 ++ z) none ∙ append-nil h.0)) (ReadsAlternatives.one h.1)),
    )
list_if n t u a found r h go false f e =
    let next = λ (others : List One). pure (a ∷ others) in
    let s : Then (comma u) (λ _. alternatives_within n >>= next) (found, r) = then_is (comma u) (λ _. alternatives_within n >>= next) (found, r) e in
    let c = comma_is u s.0 s.1 in
    let v : Then (alternatives_within n s.0.1) next (found, r) = then_is (alternatives_within n s.0.1) next (found, r) s.2 in
    let k = go s.0.1 v.0.0 v.0.1 v.1 in
    let same = pure_is (a ∷ v.0.0) found v.0.1 r v.2 in (
      sym same.1 ∙ k.0,
      subst (λ z. ReadsAlternatives t z) same.0 (
          subst (λ z. ReadsAlternatives z (a ∷ v.0.0)) (sym (h.2 ∙ ap (λ z. h.0 ++ z) c.4)) (ReadsAlternatives.several h.0 c.0 c.1 s.0.1 h.1 c.2 c.3 k.1)),
    )

list_is : (n : ℕ) (t : Text) (found : List One) (r : Text) → alternatives_within n t ≡ Some (found, r) → AllRead t found r
list_is zero t found r e = absurd cc
list_is (suc n) t found r e =
    let next = λ (a : One) (u : Text). cond (is_empty u) (Some (a ∷ [], u)) (Others n a u) in
    let s : Then (alternative t) next (found, r) = then_is (alternative t) next (found, r) e in
    list_if n t s.0.1 s.0.0 found r (alternative_is t s.0.0 s.0.1 s.1) (list_is n) (is_empty s.0.1) refl s.2

-- a selector that the function computes is one that the grammar reads
pub sound : (t : Text) (s : Selector) → selector_of t ≡ Some s → ReadsSelector t s
unfolding selector_of alternatives
sound t s e = by (alternatives_within (suc (length t)) t) refl e
  where
    by : (o : Outcome (List One)) → alternatives_within (suc (length t)) t ≡ o → selector_with o ≡ Some s → ReadsSelector t s
    by None f g = absurd cc
    by (Some p) f g = let found : Selector = record { list = p.0 } in let same : found ≡ s = cc in subst (λ z. ReadsSelector t z) same (list_is (suc (length t)) t p.0 p.1 f).1

-- a text is one selector at most
pub one_reading : (t : Text) (a b : Selector) → ReadsSelector t a → ReadsSelector t b → a ≡ b
one_reading t a b h k = let same : Some a ≡ Some b = sym (complete t a h) ∙ complete t b k in cc

pub same_reading : (t : Text) (a b : Selector) → selector_of t ≡ Some a → ReadsSelector t b → a ≡ b
same_reading t a b e h = one_reading t a b (sound t a e) h

pub no_reading : (t : Text) → selector_of t ≡ None → (s : Selector) → ReadsSelector t s → ⊥
no_reading t e s h = let same : None ≡ Some s = sym e ∙ complete t s h in cc
