-- Tags: a text is one at most, and what would be heavy there.
use Rattle.std.proofs.Common.{◌≡◌, ℕ, List, [], ◌∷◌, ◌++◌, drop, codes, refl, sym, ◌∙◌, ap, subst, append_assoc, arith, inl, inr}
use Rattle.std.proofs.lemmas.List.{append-nil}
use Rattle.std.specs.Prelude.{Bool, true, false, cond, ◌&&◌, ◌||◌, ◌==◌, ◌⊎◌}
use Rattle.ng_ast.specs.declared.Place.{Place}
use Rattle.ng_ast.specs.declared.TAttr.{TAttr}
use Rattle.ng_tokens.specs.Lexis.{Text, is_blank, all, begins, steps}
use Rattle.ng_lex.specs.declared.kinds.TokenKind.TheVariants as kind
use Rattle.ng_lex.specs.declared.markup.Markup.{Markup}
use Rattle.ng_lex.specs.declared.markup.Markup.TheVariants as m
use Rattle.ng_lex.specs.declared.markup.Shape.{Shape}
use Rattle.ng_lex.specs.declared.markup.Shape.TheVariants as s
use Rattle.ng_lex.specs.Words.{IsBlank, at_front}
use Rattle.ng_lex.specs.Attributes.{ReadsAttrs, OverAttrs, is_lower, in_tag, IsTag, is_void, is_dashed, IsPaired, IsSingle}
use Rattle.ng_lex.specs.Heads.{Bracketed}
use Rattle.ng_lex.specs.Lexis.{IsWritten}
use Rattle.ng_lex.specs.Heavy.{IsHeavy}
use Rattle.ng_lex.specs.Spans.{IsSpan}
use Rattle.ng_tags.specs.Tags.{ends_attribute}
use Rattle.ng_tags.specs.Tokens.{IsCalm}
use Rattle.ng_attributes.proofs.Texts.{both_true, no_true, not_both, same_byte, same_runs}
use Rattle.ng_tags.proofs.TagLaws.{or_true, same_tail}
use Rattle.ng_tags.proofs.TagSteps.{attrs_follow, over_follows, one_tag}

-- ---- names of tags

pub lower_in : (b : ℕ) → is_lower b ≡ true → in_tag b ≡ true
lower_in b e = rw e refl

pub tag_all : (tag : Text) → IsTag tag → all in_tag tag ≡ true
tag_all [] h = absurd (no_true h.0)
tag_all (b ∷ tag) h = let g = both_true (is_lower b) (all in_tag tag) h.0 in rw (lower_in b g.0) g.1

blank_no_tag : (b : ℕ) → is_blank b ≡ true → in_tag b ≡ false
blank_no_tag b f = grind arith

ends_no_tag : (b : ℕ) → ends_attribute b ≡ true → in_tag b ≡ false
ends_no_tag b e = by (or_true (is_blank b || b == 62) (b == 47) e)
  where
    first : (is_blank b ≡ true) ⊎ ((b == 62) ≡ true) → in_tag b ≡ false
    first (inl f) = blank_no_tag b f
    first (inr f) = rw (same_byte b 62 f) refl

    by : ((is_blank b || b == 62) ≡ true) ⊎ ((b == 47) ≡ true) → in_tag b ≡ false
    by (inl f) = first (or_true (is_blank b) (b == 62) f)
    by (inr f) = rw (same_byte b 47 f) refl

pub tag_stops : (x : Text) → at_front ends_attribute x ≡ true → at_front in_tag x ≡ false
tag_stops [] h = refl
tag_stops (b ∷ x) h = ends_no_tag b h

pub attrs_stop : {closed : Bool} {p : Place} {x : Text} {attrs : List TAttr} → ReadsAttrs closed p x attrs → at_front in_tag x ≡ false
attrs_stop {x = x} h = tag_stops x (subst (λ k. at_front ends_attribute k ≡ true) (append-nil x) (attrs_follow h []).0)

pub same_tag : (p : Place) (tag other x y : Text) (closed shut : Bool) (attrs more : List TAttr) → IsTag tag → IsTag other → ReadsAttrs closed (steps p (60 ∷ tag)) x attrs → ReadsAttrs shut (steps p (60 ∷ other)) y more
    → 60 ∷ (tag ++ x) ≡ 60 ∷ (other ++ y) → (tag ≡ other) × (closed ≡ shut) × (attrs ≡ more)
same_tag p tag other x y closed shut attrs more h i reads also e =
    let g = same_runs in_tag tag other x y (same_tail 60 e) (tag_all tag h) (tag_all other i) (attrs_stop reads) (attrs_stop also) in
    let moved : ReadsAttrs shut (steps p (60 ∷ tag)) x more = subst (λ k. ReadsAttrs shut (steps p (60 ∷ k)) x more) (sym g.0) (subst (λ k. ReadsAttrs shut (steps p (60 ∷ other)) k more) (sym g.1) also) in
    let one = one_tag reads [] (shut, []) more (x, append-nil x ∙ sym (append-nil x), moved) in
    (g.0, one.0, one.2)

pub single_paired : (tag other : Text) (closed : Bool) → IsSingle tag closed → IsPaired other → tag ≡ other → closed ≡ false → ⊥
single_paired tag other closed h i e c = open_ (is_void tag) (is_dashed tag) closed c h.1 (ap is_void e ∙ i.1)
  where
    open_ : (v d c : Bool) → c ≡ false → (v || (c && d)) ≡ true → v ≡ false → ⊥
    open_ true d c f g h = cc
    open_ false d true f g h = cc
    open_ false d false f g h = cc

-- ---- which parts begin like a tag

abbrev pub starts : Text → Bool
starts t = begins (60 ∷ []) t && at_front is_lower (drop 1 t)

abbrev pub ends : Text → Bool
ends t = begins (60 ∷ 47 ∷ []) t

lower_starts : (tag x : Text) → IsTag tag → starts (60 ∷ (tag ++ x)) ≡ true
lower_starts [] x h = absurd (no_true h.0)
lower_starts (b ∷ tag) x h = (both_true (is_lower b) (all in_tag tag) h.0).0

lower_no_end : (tag x : Text) → IsTag tag → ends (60 ∷ (tag ++ x)) ≡ false
lower_no_end [] x h = absurd (no_true h.0)
lower_no_end (b ∷ tag) x h = let f : (47 == b) ≡ false = (let g : is_lower b ≡ true = (both_true (is_lower b) (all in_tag tag) h.0).0 in grind arith) in rw f refl

-- a start tag, or the tag of a single element
pub record Tagged (p : Place) (a : Text) (c : Markup) : Type 0 where
  pub tag : Text
  pub x : Text
  pub closed : Bool
  pub attrs : List TAttr
  pub is : a ≡ 60 ∷ (tag ++ x)
  pub name : IsTag tag
  pub reads : ReadsAttrs closed (steps p (60 ∷ tag)) x attrs
  pub which : ((c ≡ m.Single tag attrs) × IsSingle tag closed) ⊎ ((c ≡ m.Start tag attrs) × IsPaired tag × (closed ≡ false))

bracket_by : (f : Text → Bool) (word a : Text) (p q : Place) (x : Text) → Bracketed p word a q x → ((z : Text) → f (word ++ z) ≡ false) → f a ≡ false
bracket_by f word a p q x b h = ap f b.is ∙ h _

pub tagged : (p : Place) (a : Text) (c : Markup) → starts a ≡ true → IsWritten p a c → Tagged p a c
tagged p a (m.Single tag attrs) e (x, closed, is, single, reads) = record { tag = tag; x = x; closed = closed; attrs = attrs; is = is; name = single.0; reads = reads; which = inl (refl, single) }
tagged p a (m.Start tag attrs) e (x, is, paired, reads) = record { tag = tag; x = x; closed = false; attrs = attrs; is = is; name = paired.0; reads = reads; which = inr (refl, paired, refl) }
tagged p a (m.Literal cs) e h = absurd h
tagged p a (m.Interpolation d) e (t, is, first, reads) = absurd (not_both (starts a) e (ap starts is))
tagged p a m.Comment e (t, is, first) = absurd (not_both (starts a) e (ap starts is))
tagged p a (m.End tag) e (w, is, paired, blank) = absurd (not_both (starts a) e (ap starts is))
tagged p a (m.If d n) e (q, x, b, reads) = absurd (not_both (starts a) e (bracket_by starts (codes "@if") a p q x b (λ z. refl)))
tagged p a (m.ElseIf d n) e (word, q, x, (w, gap, is), b, reads) = absurd (not_both (starts a) e (bracket_by starts word a p q x b (λ z. ap (λ k. starts (k ++ z)) is)))
tagged p a m.Else e (w, blank, is) = absurd (not_both (starts a) e (ap starts is))
tagged p a (m.For head) e (q, x, b, reads) = absurd (not_both (starts a) e (bracket_by starts (codes "@for") a p q x b (λ z. refl)))
tagged p a m.Empty e (w, blank, is) = absurd (not_both (starts a) e (ap starts is))
tagged p a (m.Switch d) e (q, x, b, reads) = absurd (not_both (starts a) e (bracket_by starts (codes "@switch") a p q x b (λ z. refl)))
tagged p a (m.Case d) e (q, x, b, reads) = absurd (not_both (starts a) e (bracket_by starts (codes "@case") a p q x b (λ z. refl)))
tagged p a m.Default e (w, blank, is) = absurd (not_both (starts a) e (ap starts is))
tagged p a (m.Let n d) e (x, t, is, (w, v, same, gap, blank, name), reads) = absurd (not_both (starts a) e (ap starts (is ∙ ap (λ k. k ++ (t ++ (59 ∷ []))) same)))
tagged p a m.Close e h = absurd (not_both (starts a) e (ap starts h))
tagged p a (m.Heavy shape) e h = absurd h

pub record Ended (a : Text) (c : Markup) : Type 0 where
  pub tag : Text
  pub w : Text
  pub is : a ≡ 60 ∷ 47 ∷ (tag ++ (w ++ (62 ∷ [])))
  pub name : IsPaired tag
  pub blank : IsBlank w
  pub which : c ≡ m.End tag

pub ended : (p : Place) (a : Text) (c : Markup) → ends a ≡ true → IsWritten p a c → Ended a c
ended p a (m.End tag) e (w, is, paired, blank) = record { tag = tag; w = w; is = is; name = paired; blank = blank; which = refl }
ended p a (m.Single tag attrs) e (x, closed, is, single, reads) = absurd (not_both (ends a) e (ap ends is ∙ lower_no_end tag x single.0))
ended p a (m.Start tag attrs) e (x, is, paired, reads) = absurd (not_both (ends a) e (ap ends is ∙ lower_no_end tag x paired.0))
ended p a (m.Literal cs) e h = absurd h
ended p a (m.Interpolation d) e (t, is, first, reads) = absurd (not_both (ends a) e (ap ends is))
ended p a m.Comment e (t, is, first) = absurd (not_both (ends a) e (ap ends is))
ended p a (m.If d n) e (q, x, b, reads) = absurd (not_both (ends a) e (bracket_by ends (codes "@if") a p q x b (λ z. refl)))
ended p a (m.ElseIf d n) e (word, q, x, (w, gap, is), b, reads) = absurd (not_both (ends a) e (bracket_by ends word a p q x b (λ z. ap (λ k. ends (k ++ z)) is)))
ended p a m.Else e (w, blank, is) = absurd (not_both (ends a) e (ap ends is))
ended p a (m.For head) e (q, x, b, reads) = absurd (not_both (ends a) e (bracket_by ends (codes "@for") a p q x b (λ z. refl)))
ended p a m.Empty e (w, blank, is) = absurd (not_both (ends a) e (ap ends is))
ended p a (m.Switch d) e (q, x, b, reads) = absurd (not_both (ends a) e (bracket_by ends (codes "@switch") a p q x b (λ z. refl)))
ended p a (m.Case d) e (q, x, b, reads) = absurd (not_both (ends a) e (bracket_by ends (codes "@case") a p q x b (λ z. refl)))
ended p a m.Default e (w, blank, is) = absurd (not_both (ends a) e (ap ends is))
ended p a (m.Let n d) e (x, t, is, (w, v, same, gap, blank, name), reads) = absurd (not_both (ends a) e (ap ends (is ∙ ap (λ k. k ++ (t ++ (59 ∷ []))) same)))
ended p a m.Close e h = absurd (not_both (ends a) e (ap ends h))
ended p a (m.Heavy shape) e h = absurd h

-- ---- tokens

pub span_starts : (a z : Text) → IsSpan kind.Start a z → starts a ≡ true
span_starts a z (t, is, lower, first) = ap starts is ∙ more t lower
  where
    more : (t : Text) → at_front is_lower t ≡ true → at_front is_lower (t ++ (62 ∷ [])) ≡ true
    more [] e = absurd (no_true e)
    more (b ∷ t) e = e

pub span_ends : (a z : Text) → IsSpan kind.End a z → ends a ≡ true
span_ends a z (t, is, first) = ap ends is

-- ---- what would be heavy

heavy_starts : (p : Place) (t : Text) (shape : Shape) → IsHeavy p t shape → (begins (60 ∷ []) t ≡ false) ⊎ ((shape ≡ s.Tag) × (starts t ≡ true))
heavy_starts p t s.Interpolation (x, r, is, first, over) = inl (ap (begins (60 ∷ [])) is)
heavy_starts p t s.Tag (tag, x, is, h, over) = inr (refl, ap starts is ∙ lower_starts tag x h)
heavy_starts p t s.If (w, x, is, blank, over) = inl (ap (begins (60 ∷ [])) is)
heavy_starts p t s.ElseIf (word, (w, gap, same), (v, x, is, blank, over)) = inl (ap (begins (60 ∷ [])) is ∙ ap (λ k. begins (60 ∷ []) (k ++ (v ++ (40 ∷ x)))) same)
heavy_starts p t s.For (w, x, is, blank, over) = inl (ap (begins (60 ∷ [])) is)
heavy_starts p t s.Switch (w, x, is, blank, over) = inl (ap (begins (60 ∷ [])) is)
heavy_starts p t s.Case (w, x, is, blank, over) = inl (ap (begins (60 ∷ [])) is)
heavy_starts p t s.Let (x, y, n, is, (w, v, same, gap, blank, name), over) = inl (ap (begins (60 ∷ [])) is ∙ ap (λ k. begins (60 ∷ []) (k ++ y)) same)

tag_heavy : (p : Place) (tag x : Text) → IsTag tag → at_front in_tag x ≡ false → IsHeavy p (60 ∷ (tag ++ x)) s.Tag → OverAttrs (steps p (60 ∷ tag)) x
tag_heavy p tag x h stops (other, y, is, i, over) =
    let g = same_runs in_tag tag other x y (same_tail 60 is) (tag_all tag h) (tag_all other i) stops (tag_stops y (over_follows over).0) in
    subst (λ k. OverAttrs (steps p (60 ∷ k)) x) (sym g.0) (subst (OverAttrs (steps p (60 ∷ other))) (sym g.1) over)

-- a tag is calm where its attributes are
pub tag_calm : (p : Place) (a tag x z : Text) → a ≡ 60 ∷ (tag ++ x) → IsTag tag → at_front in_tag (x ++ z) ≡ false → (OverAttrs (steps p (60 ∷ tag)) (x ++ z) → ⊥) → IsCalm p a z
tag_calm p a tag x z e h stops none shape i = by (heavy_starts p (a ++ z) shape i)
  where
    whole : a ++ z ≡ 60 ∷ (tag ++ (x ++ z))
    whole = ap (λ k. k ++ z) e ∙ ap (λ k. 60 ∷ k) (append_assoc tag x z)

    by : (begins (60 ∷ []) (a ++ z) ≡ false) ⊎ ((shape ≡ s.Tag) × (starts (a ++ z) ≡ true)) → ⊥
    by (inl f) = no_true (sym f ∙ ap (begins (60 ∷ [])) whole)
    by (inr f) = none (tag_heavy p tag (x ++ z) h stops (subst (λ k. IsHeavy p k s.Tag) whole (subst (IsHeavy p (a ++ z)) f.0 i)))

-- an end tag is calm
pub end_calm_by : (p : Place) (a z : Text) → ends a ≡ true → IsCalm p a z
end_calm_by p a z e shape i = by a e (heavy_starts p (a ++ z) shape i)
  where
    by : (a : Text) → ends a ≡ true → (begins (60 ∷ []) (a ++ z) ≡ false) ⊎ ((shape ≡ s.Tag) × (starts (a ++ z) ≡ true)) → ⊥
    by [] f g = no_true f
    by (b ∷ []) f g = two b f
      where
        two : (b : ℕ) → cond (60 == b) false false ≡ true → ⊥
        two b f = go (60 == b) f
          where
            go : (v : Bool) → cond v false false ≡ true → ⊥
            go true f = no_true f
            go false f = no_true f
    by (b ∷ c ∷ t) f g = both b c f g
      where
        both : (b c : ℕ) → cond (60 == b) (cond (47 == c) true false) false ≡ true → (cond (60 == b) true false ≡ false) ⊎ ((shape ≡ s.Tag) × ((cond (60 == b) true false && is_lower c) ≡ true)) → ⊥
        both b c f (inl g) = first (60 == b) (cond (47 == c) true false) f g
          where
            first : (u v : Bool) → cond u v false ≡ true → cond u true false ≡ false → ⊥
            first true v f g = no_true (sym g)
            first false v f g = no_true f
        both b c f (inr g) = second (60 == b) (47 == c) refl f g.1
          where
            lower_47 : (47 == c) ≡ true → is_lower c ≡ false
            lower_47 e = rw (sym (same_byte 47 c e)) refl

            second : (u v : Bool) → (47 == c) ≡ v → cond u (cond v true false) false ≡ true → (cond u true false && is_lower c) ≡ true → ⊥
            second true true e f g = not_both (is_lower c) g (lower_47 e)
            second true false e f g = no_true f
            second false v e f g = no_true f
