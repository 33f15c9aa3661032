-- The attributes of a tag, one after another.
use Rattle.std.proofs.Common.{◌≡◌, ℕ, List, [], ◌∷◌, ◌++◌, refl, sym, ◌∙◌, ap, subst, append_assoc, arith, inl, inr}
use Rattle.std.proofs.lemmas.List.{append-nil}
use Rattle.std.specs.Prelude.{Bool, true, false, ◌||◌, ◌==◌, ◌⊎◌}
use Rattle.ng_ast.specs.declared.Place.{Place}
use Rattle.ng_ast.specs.declared.TAttr.{TAttr}
use Rattle.ng_tokens.specs.Lexis.{Text, is_blank, begins, steps}
use Rattle.ng_lex.specs.Letters.{Decodes}
use Rattle.ng_lex.specs.Words.{IsBlank, IsGap, at_front}
use Rattle.ng_lex.specs.Names.{in_attribute}
use Rattle.ng_lex.specs.Values.{OverValue}
use Rattle.ng_lex.specs.Attributes.{ends_bare, Marked, ReadsAttr, ending, ReadsAttrs, OverAttrs}
use Rattle.ng_attributes.specs.Runs.{Run}
use Rattle.ng_tags.specs.Tags.{ends_attribute, NoEquals, ValuedAt, AttributeAt, OverAttributeAt, ReadsTag, GoesTag}
use Rattle.ng_attributes.proofs.Texts.{first_byte, no_true, not_both, same_byte, same_runs, steps_append, begins_self}
use Rattle.ng_tags.proofs.TagLaws.{or_true, attribute_no_blank, Starts, starts_append, gap_blank, gap_starts, attribute_starts, same_tail, one_valued, alone_unvalued, one_attribute, starts_attribute}

-- ---- between the grammar and the front of a text

front_more : (p : ℕ → Bool) (z y : Text) → at_front p z ≡ true → at_front p (z ++ y) ≡ true
front_more p [] y h = absurd (no_true h)
front_more p (b ∷ z) y h = h

-- the text isn't empty
abbrev IsSome : Text → Type 0
IsSome z = (b : ℕ) × (y : Text) × (z ≡ b ∷ y)

front_less : (p : ℕ → Bool) (z y : Text) → IsSome z → at_front p (z ++ y) ≡ true → at_front p z ≡ true
front_less p z y (b, x, e) h = ap (at_front p) e ∙ sym (ap (λ k. at_front p (k ++ y)) e) ∙ h

front_some : (p : ℕ → Bool) (z : Text) → at_front p z ≡ true → IsSome z
front_some p [] h = absurd (no_true h)
front_some p (b ∷ z) h = (b, z, refl)

marked_more : {m x z : Text} → Marked m x z → (y : Text) → Marked m x (z ++ y)
marked_more (Marked.double x h) y = Marked.double x h
marked_more (Marked.single x h) y = Marked.single x h
marked_more {z = z} (Marked.bare x h stop) y = Marked.bare x h (front_more ends_bare z y stop)

marked_less : {m x r : Text} → Marked m x r → (z y : Text) → r ≡ z ++ y → IsSome z → Marked m x z
marked_less (Marked.double x h) z y e s = Marked.double x h
marked_less (Marked.single x h) z y e s = Marked.single x h
marked_less (Marked.bare x h stop) z y e s = Marked.bare x h (front_less ends_bare z y s (ap (at_front ends_bare) (sym e) ∙ stop))

attribute_at : {p : Place} {x z : Text} {one : TAttr} → ReadsAttr p x z one → (y : Text) → at_front ends_attribute (z ++ y) ≡ true → NoEquals (z ++ y) → AttributeAt p (x ++ (z ++ y)) one (steps p x) (z ++ y)
attribute_at {z = z} (ReadsAttr.without {f = f} {form = form} n name named alone) y ends unvalued =
    inl (record { n = n; f = f; says = form; name = name; form = named; without = alone; is = refl; at = refl; all = refl; unvalued = unvalued; ends = ends })
attribute_at {p = p} {z = z} (ReadsAttr.having {f = f} {form = form} {ls = ls} n w v m x name named bw bv marked decodes says) y ends unvalued = inr (record {
  f = f;
  s = steps p (n ++ (w ++ (61 ∷ (v ++ m))));
  ls = ls;
  form = form;
  valued = record {
    n = n;
    w = w;
    v = v;
    m = m;
    x = x;
    name = name;
    form = named;
    before = bw;
    behind = bv;
    marked = marked_more marked y;
    is = regroup n w v m x (z ++ y);
    inside = refl;
    at = refl;
    decodes = decodes;
  };
  says = says;
  all = refl;
  ends = ends;
})
  where
    regroup : (n w v m x r : Text) → (n ++ (w ++ (61 ∷ (v ++ (m ++ (x ++ m)))))) ++ r ≡ n ++ (w ++ (61 ∷ (v ++ (m ++ (x ++ (m ++ r))))))
    regroup n w v m x r = simp append_assoc refl

-- how the attribute at the front is written
record Written (p : Place) (t : Text) (one : TAttr) (q : Place) (r : Text) : Type 0 where
  x : Text
  is : t ≡ x ++ r
  at : q ≡ steps p x
  reads : (z y : Text) → r ≡ z ++ y → IsSome z → ReadsAttr p x z one
  some : IsSome r

written : (p : Place) (t : Text) (one : TAttr) (q : Place) (r : Text) → AttributeAt p t one q r → Written p t one q r
written p t one q r (inl h) = record {
  x = h.n;
  is = h.is;
  at = h.at;
  reads = λ z y e s. subst (λ k. ReadsAttr p h.n z k) (sym h.all) (ReadsAttr.without h.n h.name h.form h.without);
  some = front_some ends_attribute r h.ends;
}
written p t one q r (inr h) = let v = h.valued in record {
  x = v.n ++ (v.w ++ (61 ∷ (v.v ++ (v.m ++ (v.x ++ v.m)))));
  is = v.is ∙ sym (regroup v.n v.w v.v v.m v.x r);
  at = v.at;
  reads = λ z y e s. subst (λ k. ReadsAttr p (v.n ++ (v.w ++ (61 ∷ (v.v ++ (v.m ++ (v.x ++ v.m)))))) z k) (sym h.all)
      (ReadsAttr.having v.n v.w v.v v.m v.x v.name v.form v.before v.behind (marked_less v.marked z y e s)
      (subst (λ k. Decodes k v.x h.ls) v.inside v.decodes) (subst (λ k. Rattle.ng_lex.specs.Values.Says h.f k h.ls h.form) v.inside h.says));
  some = front_some ends_attribute r h.ends;
}
  where
    regroup : (n w v m x r : Text) → (n ++ (w ++ (61 ∷ (v ++ (m ++ (x ++ m)))))) ++ r ≡ n ++ (w ++ (61 ∷ (v ++ (m ++ (x ++ (m ++ r))))))
    regroup n w v m x r = simp append_assoc refl

attribute_here : (p : Place) (t : Text) (one : TAttr) (q : Place) (r : Text) → (k : Written p t one q r) → ReadsAttr p k.x r one
attribute_here p t one q r k = k.reads r [] (sym (append-nil r)) k.some

-- ---- what comes after an attribute

-- `>` or `/`
abbrev is_ending : ℕ → Bool
is_ending b = b == 62 || b == 47

ending_no_blank : (b : ℕ) → is_ending b ≡ true → is_blank b ≡ false
ending_no_blank b e = by (or_true (b == 62) (b == 47) e)
  where
    by : ((b == 62) ≡ true) ⊎ ((b == 47) ≡ true) → is_blank b ≡ false
    by (inl f) = rw (same_byte b 62 f) refl
    by (inr f) = rw (same_byte b 47 f) refl

ending_no_attribute : (b : ℕ) → is_ending b ≡ true → in_attribute b ≡ false
ending_no_attribute b e = by (or_true (b == 62) (b == 47) e)
  where
    by : ((b == 62) ≡ true) ⊎ ((b == 47) ≡ true) → in_attribute b ≡ false
    by (inl f) = rw (same_byte b 62 f) refl
    by (inr f) = rw (same_byte b 47 f) refl

ending_starts : (closed : Bool) (y : Text) → Starts is_ending (ending closed ++ y)
ending_starts false y = (62, y, refl, refl)
ending_starts true y = (47, 62 ∷ y, refl, refl)

stops : (p : ℕ → Bool) → ((b : ℕ) → p b ≡ true → is_blank b ≡ false) → (t : Text) → Starts p t → at_front is_blank t ≡ false
stops p law t (b, y, e, h) = ap (at_front is_blank) e ∙ law b h

same_start : (p q : ℕ → Bool) → ((b : ℕ) → q b ≡ true → p b ≡ false) → (t : Text) → Starts p t → Starts q t → ⊥
same_start p q law t (b, y, e, h) (c, z, f, i) = let g : b ∷ y ≡ c ∷ z = sym e ∙ f in let s : b ≡ c = cc in not_both (p c) (ap p (sym s) ∙ h) (law c i)

no_equals : (p : ℕ → Bool) → ((b : ℕ) → p b ≡ true → is_blank b ≡ false) → p 61 ≡ false → (w t : Text) → IsBlank w → Starts p t → NoEquals (w ++ t)
no_equals p law none w t blank starts = λ u z bu e.
    let g = same_runs is_blank w u t (61 ∷ z) e blank bu (stops p law t starts) refl in
    by starts z g.1
  where
    by : Starts p t → (z : Text) → t ≡ 61 ∷ z → ⊥
    by (b, y, e, h) z f = let i : b ∷ y ≡ 61 ∷ z = sym e ∙ f in let s : b ≡ 61 = cc in not_both (p 61) (ap p (sym s) ∙ h) none

-- what comes after an attribute: it isn't read as part of it
abbrev pub Follows : Text → Type 0
Follows z = (at_front ends_attribute z ≡ true) × NoEquals z

ending_ends : (closed : Bool) (y : Text) → at_front ends_attribute (ending closed ++ y) ≡ true
ending_ends false y = refl
ending_ends true y = refl

blank_then : (w z : Text) → IsBlank w → at_front ends_attribute z ≡ true → at_front ends_attribute (w ++ z) ≡ true
blank_then [] z h e = e
blank_then (b ∷ w) z h e = gap_starts (b ∷ w) z h

reads_starts : {p : Place} {x z : Text} {one : TAttr} → ReadsAttr p x z one → Starts in_attribute x
reads_starts (ReadsAttr.without n name named alone) = attribute_starts n name
reads_starts (ReadsAttr.having n w v m x name named bw bv marked decodes says) = starts_append in_attribute n (w ++ (61 ∷ (v ++ (m ++ (x ++ m))))) (attribute_starts n name)

follows_end : (closed : Bool) (w y : Text) → IsBlank w → Follows (w ++ (ending closed ++ y))
follows_end closed w y h = (blank_then w (ending closed ++ y) h (ending_ends closed y), no_equals is_ending ending_no_blank refl w (ending closed ++ y) h (ending_starts closed y))

follows_gap : (w x y : Text) → IsGap w → Starts in_attribute x → Follows (w ++ (x ++ y))
follows_gap w x y h s = (gap_starts w (x ++ y) h, no_equals in_attribute attribute_no_blank refl w (x ++ y) (gap_blank w h) (starts_append in_attribute x y s))

pub attrs_follow : {closed : Bool} {p : Place} {z : Text} {attrs : List TAttr} → ReadsAttrs closed p z attrs → (y : Text) → Follows (z ++ y)
attrs_follow {closed = closed} (ReadsAttrs.no_more w h) y = subst Follows (sym (append_assoc w (ending closed) y)) (follows_end closed w y h)
attrs_follow (ReadsAttrs.another w x z gap one more) y = subst Follows (sym (append_assoc w (x ++ z) y ∙ ap (λ k. w ++ k) (append_assoc x z y))) (follows_gap w x (z ++ y) gap (reads_starts one))

pub over_follows : {p : Place} {z : Text} → OverAttrs p z → Follows z
over_follows (OverAttrs.this_one u n w v m x z gap name named bw bv marked decodes over) = follows_gap u n (w ++ (61 ∷ (v ++ (m ++ (x ++ (m ++ z)))))) gap (attribute_starts n name)
over_follows (OverAttrs.later_one w x z gap one over) = follows_gap w x z gap (reads_starts one)

pub attrs_some : {closed : Bool} {p : Place} {z : Text} {attrs : List TAttr} → ReadsAttrs closed p z attrs → IsSome z
attrs_some {z = z} h = let f : at_front ends_attribute (z ++ []) ≡ true = (attrs_follow h []).0 in front_some ends_attribute z (subst (λ k. at_front ends_attribute k ≡ true) (append-nil z) f)

-- ---- what a reading begins with

-- where all attributes are read
record Ended (at : Place × Text) (i : Bool × Text) (attrs : List TAttr) : Type 0 where
  w : Text
  blank : IsBlank w
  is : at.1 ≡ w ++ (ending i.0 ++ i.1)
  none : attrs ≡ []

-- an attribute, and those after it
record Led (at : Place × Text) (i : Bool × Text) (attrs : List TAttr) : Type 0 where
  w : Text
  t : Text
  one : TAttr
  q : Place
  r : Text
  others : List TAttr
  gap : IsGap w
  is : at.1 ≡ w ++ t
  here : AttributeAt (steps at.0 w) t one q r
  more : ReadsTag i (q, r) others
  all : attrs ≡ one ∷ others

first_of : {closed : Bool} {p : Place} {z : Text} {attrs : List TAttr} → ReadsAttrs closed p z attrs → (y : Text) → Ended (p, z ++ y) (closed, y) attrs ⊎ Led (p, z ++ y) (closed, y) attrs
first_of {closed = closed} (ReadsAttrs.no_more w h) y = inl (record { w = w; blank = h; is = append_assoc w (ending closed) y; none = refl })
first_of {closed = closed} {p = p} (ReadsAttrs.another {one = one} {others = others} w x z gap here more) y =
    let f = attrs_follow more y in
    inr (record {
      w = w;
      t = x ++ (z ++ y);
      one = one;
      q = steps (steps p w) x;
      r = z ++ y;
      others = others;
      gap = gap;
      is = append_assoc w (x ++ z) y ∙ ap (λ k. w ++ k) (append_assoc x z y);
      here = attribute_at here y f.0 f.1;
      more = (z, refl, subst (λ k. ReadsAttrs closed k z others) (steps_append p w x) more);
      all = refl;
    })

reading_first : (at : Place × Text) (i : Bool × Text) (attrs : List TAttr) → ReadsTag i at attrs → Ended at i attrs ⊎ Led at i attrs
reading_first (p, t) (closed, y) attrs (x, e, h) = subst (λ k. Ended (p, k) (closed, y) attrs ⊎ Led (p, k) (closed, y) attrs) (sym e) (first_of h y)

-- a value that passes a limit, and the white space before its attribute
record OverFirst (at : Place × Text) : Type 0 where
  w : Text
  t : Text
  gap : IsGap w
  is : at.1 ≡ w ++ t
  here : OverAttributeAt (steps at.0 w) t

record OverLater (at : Place × Text) : Type 0 where
  w : Text
  t : Text
  one : TAttr
  q : Place
  r : Text
  gap : IsGap w
  is : at.1 ≡ w ++ t
  here : AttributeAt (steps at.0 w) t one q r
  over : OverAttrs q r

over_first : {p : Place} {t : Text} → OverAttrs p t → OverFirst (p, t) ⊎ OverLater (p, t)
over_first {p = p} (OverAttrs.this_one {f = f} {ls = ls} u n w v m x z gap name named bw bv marked decodes over) = inl (record {
  w = u;
  t = n ++ (w ++ (61 ∷ (v ++ (m ++ (x ++ (m ++ z))))));
  gap = gap;
  is = refl;
  here = record {
    f = f;
    s = steps p (u ++ (n ++ (w ++ (61 ∷ (v ++ m)))));
    ls = ls;
    q = steps (steps p u) (n ++ (w ++ (61 ∷ (v ++ (m ++ (x ++ m))))));
    r = z;
    valued = record {
      n = n;
      w = w;
      v = v;
      m = m;
      x = x;
      name = name;
      form = named;
      before = bw;
      behind = bv;
      marked = marked;
      is = refl;
      inside = steps_append p u (n ++ (w ++ (61 ∷ (v ++ m))));
      at = refl;
      decodes = decodes;
    };
    over = over;
  };
})
over_first {p = p} (OverAttrs.later_one {one = one} w x z gap here over) =
    let f = over_follows over in
    inr (record {
      w = w;
      t = x ++ z;
      one = one;
      q = steps (steps p w) x;
      r = z;
      gap = gap;
      is = refl;
      here = subst (λ k. AttributeAt (steps p w) (x ++ k) one (steps (steps p w) x) k) (append-nil z)
          (attribute_at here [] (subst (λ k. at_front ends_attribute k ≡ true) (sym (append-nil z)) f.0) (subst NoEquals (sym (append-nil z)) f.1));
      over = subst (λ k. OverAttrs k z) (steps_append p w x) over;
    })

-- ---- an attribute first

same_gaps : (w t u s : Text) → w ++ t ≡ u ++ s → IsBlank w → IsBlank u → Starts in_attribute t → Starts in_attribute s → (w ≡ u) × (t ≡ s)
same_gaps w t u s e h i k j = same_runs is_blank w u t s e h i (stops in_attribute attribute_no_blank t k) (stops in_attribute attribute_no_blank s j)

no_ending : (w t u s : Text) → w ++ t ≡ u ++ s → IsBlank w → IsBlank u → Starts in_attribute t → Starts is_ending s → ⊥
no_ending w t u s e h i k j =
    let g = same_runs is_blank w u t s e h i (stops in_attribute attribute_no_blank t k) (stops is_ending ending_no_blank s j) in
    same_start in_attribute is_ending ending_no_attribute t k (subst (Starts is_ending) (sym g.1) j)

module _ (p : Place) (t w s : Text) (one : TAttr) (q : Place) (r : Text) (gap : IsGap w) (is : t ≡ w ++ s) (here : AttributeAt (steps p w) s one q r) where
  attribute_back : (i : Bool × Text) (attrs : List TAttr) → ReadsTag i (p, t) attrs → (more : List TAttr) × (attrs ≡ one ∷ more) × ReadsTag i (q, r) more
  attribute_back i attrs h = by (reading_first (p, t) i attrs h)
    where
      by : Ended (p, t) i attrs ⊎ Led (p, t) i attrs → (more : List TAttr) × (attrs ≡ one ∷ more) × ReadsTag i (q, r) more
      by (inl k) = absurd (no_ending w s k.w (ending i.0 ++ i.1) (sym is ∙ k.is) (gap_blank w gap) k.blank (starts_attribute (steps p w) s one q r here) (ending_starts i.0 i.1))
      by (inr k) =
          let g = same_gaps w s k.w k.t (sym is ∙ k.is) (gap_blank w gap) (gap_blank k.w k.gap) (starts_attribute (steps p w) s one q r here) (starts_attribute (steps p k.w) k.t k.one k.q k.r k.here) in
          let moved : AttributeAt (steps p w) s k.one k.q k.r = subst (λ v. AttributeAt (steps p v) s k.one k.q k.r) (sym g.0) (subst (λ v. AttributeAt (steps p k.w) v k.one k.q k.r) (sym g.1) k.here) in
          let same = one_attribute (steps p w) s k.one one k.q q k.r r moved here in
          (k.others, k.all ∙ ap (λ v. v ∷ k.others) same.0, subst (λ v. ReadsTag i (v, r) k.others) same.1 (subst (λ v. ReadsTag i (k.q, v) k.others) same.2 k.more))

  attribute_calm : (OverAttributeAt (steps p w) s → ⊥) → OverAttrs p t → OverAttrs q r
  attribute_calm none h = by (over_first h)
    where
      by : OverFirst (p, t) ⊎ OverLater (p, t) → OverAttrs q r
      by (inl k) =
          let v = k.here.valued in
          let front : Starts in_attribute k.t = (let a = starts_append in_attribute v.n (v.w ++ (61 ∷ (v.v ++ (v.m ++ (v.x ++ (v.m ++ k.here.r)))))) (attribute_starts v.n v.name) in (a.0, a.1, v.is ∙ a.2, a.3)) in
          let g = same_gaps w s k.w k.t (sym is ∙ k.is) (gap_blank w gap) (gap_blank k.w k.gap) (starts_attribute (steps p w) s one q r here) front in
          absurd (none (subst (λ u. OverAttributeAt (steps p u) s) (sym g.0) (subst (λ u. OverAttributeAt (steps p k.w) u) (sym g.1) k.here)))
      by (inr k) =
          let g = same_gaps w s k.w k.t (sym is ∙ k.is) (gap_blank w gap) (gap_blank k.w k.gap) (starts_attribute (steps p w) s one q r here) (starts_attribute (steps p k.w) k.t k.one k.q k.r k.here) in
          let moved : AttributeAt (steps p w) s k.one k.q k.r = subst (λ v. AttributeAt (steps p v) s k.one k.q k.r) (sym g.0) (subst (λ v. AttributeAt (steps p k.w) v k.one k.q k.r) (sym g.1) k.here) in
          let same = one_attribute (steps p w) s k.one one k.q q k.r r moved here in
          subst (λ v. OverAttrs v r) same.1 (subst (λ v. OverAttrs k.q v) same.2 k.over)

  attribute_ahead : (i : Bool × Text) (more : List TAttr) → ReadsTag i (q, r) more → ReadsTag i (p, t) (one ∷ more)
  attribute_ahead i more (x, e, h) =
      let k = written (steps p w) s one q r here in (
        w ++ (k.x ++ x),
        is ∙ ap (λ v. w ++ v) (k.is ∙ ap (λ v. k.x ++ v) e ∙ sym (append_assoc k.x x i.1)) ∙ sym (append_assoc w (k.x ++ x) i.1),
        ReadsAttrs.another w k.x x gap (k.reads x i.1 e (attrs_some h)) (subst (λ v. ReadsAttrs i.0 v x more) (k.at ∙ sym (steps_append p w k.x)) h),
      )

  attribute_heavy : OverAttrs q r → OverAttrs p t
  attribute_heavy h =
      let k = written (steps p w) s one q r here in
      subst (OverAttrs p) (sym (is ∙ ap (λ v. w ++ v) k.is))
      (OverAttrs.later_one w k.x r gap (attribute_here (steps p w) s one q r k) (subst (λ v. OverAttrs v r) (k.at ∙ sym (steps_append p w k.x)) h))

  pub attribute_goes : (OverAttributeAt (steps p w) s → ⊥) → GoesTag p t (one ∷ []) q r
  attribute_goes none = record { ahead = attribute_ahead; back = attribute_back; heavy = attribute_heavy; calm = attribute_calm none }

-- ---- the end of a tag, and what is no tag

pub attribute_over : (p : Place) (t w s : Text) → IsGap w → t ≡ w ++ s → OverAttributeAt (steps p w) s → OverAttrs p t
attribute_over p t w s gap is k =
    let v = k.valued in
    let inside : k.s ≡ steps p (w ++ (v.n ++ (v.w ++ (61 ∷ (v.v ++ v.m))))) = v.inside ∙ sym (steps_append p w (v.n ++ (v.w ++ (61 ∷ (v.v ++ v.m))))) in
    subst (OverAttrs p) (sym (is ∙ ap (λ u. w ++ u) v.is))
    (OverAttrs.this_one w v.n v.w v.v v.m v.x k.r gap v.name v.form v.before v.behind v.marked (subst (λ u. Decodes u v.x k.ls) inside v.decodes) (subst (λ u. OverValue k.f u k.ls) inside k.over))

-- nothing but white space stands before the end of the tag
pub end_reads : (p : Place) (t w y : Text) (closed : Bool) → IsBlank w → t ≡ w ++ (ending closed ++ y) → ReadsTag (closed, y) (p, t) []
end_reads p t w y closed h e = (w ++ ending closed, e ∙ sym (append_assoc w (ending closed) y), ReadsAttrs.no_more w h)

pub end_calm : (p : Place) (t w y : Text) (closed : Bool) → IsBlank w → t ≡ w ++ (ending closed ++ y) → OverAttrs p t → ⊥
end_calm p t w y closed h e over = by (over_first over)
  where
    by : OverFirst (p, t) ⊎ OverLater (p, t) → ⊥
    by (inl k) =
        let v = k.here.valued in
        let a = starts_append in_attribute v.n (v.w ++ (61 ∷ (v.v ++ (v.m ++ (v.x ++ (v.m ++ k.here.r)))))) (attribute_starts v.n v.name) in
        no_ending k.w k.t w (ending closed ++ y) (sym k.is ∙ e) (gap_blank k.w k.gap) h (a.0, a.1, v.is ∙ a.2, a.3) (ending_starts closed y)
    by (inr k) = no_ending k.w k.t w (ending closed ++ y) (sym k.is ∙ e) (gap_blank k.w k.gap) h (starts_attribute (steps p k.w) k.t k.one k.q k.r k.here) (ending_starts closed y)

begins_ending : (closed : Bool) (y : Text) → begins (ending closed) (ending closed ++ y) ≡ true
begins_ending closed y = begins_self (ending closed) y

-- No tag goes on where no end of one stands, nor an attribute after white space.
pub tag_unread : (p : Place) (t w s : Text) → Run is_blank t w s → begins (ending false) s ≡ false → begins (ending true) s ≡ false
    → ((w ≡ []) ⊎ ((one : TAttr) (q : Place) (r : Text) → AttributeAt (steps p w) s one q r → ⊥)) → (i : Bool × Text) (attrs : List TAttr) → ReadsTag i (p, t) attrs → ⊥
tag_unread p t w s run open_ closed none i attrs h = by (reading_first (p, t) i attrs h)
  where
    no_end : (c : Bool) → begins (ending c) s ≡ false
    no_end false = open_
    no_end true = closed

    no_gap : (u : Text) → IsGap u → [] ≡ u → ⊥
    no_gap [] g e = g
    no_gap (b ∷ u) g e = absurd (cc)

    led : (k : Led (p, t) i attrs) → (w ≡ k.w) × (s ≡ k.t) → ((w ≡ []) ⊎ ((one : TAttr) (q : Place) (r : Text) → AttributeAt (steps p w) s one q r → ⊥)) → ⊥
    led k g (inl e) = no_gap k.w k.gap (sym e ∙ g.0)
    led k g (inr f) = f k.one k.q k.r (subst (λ v. AttributeAt (steps p v) s k.one k.q k.r) (sym g.0) (subst (λ v. AttributeAt (steps p k.w) v k.one k.q k.r) (sym g.1) k.here))

    by : Ended (p, t) i attrs ⊎ Led (p, t) i attrs → ⊥
    by (inl k) =
        let g = same_runs is_blank w k.w s (ending i.0 ++ i.1) (sym run.is ∙ k.is) run.passes k.blank run.stops (stops is_ending ending_no_blank (ending i.0 ++ i.1) (ending_starts i.0 i.1)) in
        not_both (begins (ending i.0) s) (ap (begins (ending i.0)) g.1 ∙ begins_ending i.0 i.1) (no_end i.0)
    by (inr k) = led k (same_runs is_blank w k.w s k.t (sym run.is ∙ k.is) run.passes (gap_blank k.w k.gap) run.stops (stops in_attribute attribute_no_blank k.t (starts_attribute (steps p k.w) k.t k.one k.q k.r k.here))) none

-- ---- one reading

no_slash : ◌≡◌ {A = ℕ} 62 47 → ⊥
no_slash e = omega arith

same_ends : (c d : Bool) (x y : Text) → ending c ++ x ≡ ending d ++ y → (c ≡ d) × (x ≡ y)
same_ends false false x y e = (refl, same_tail 62 e)
same_ends false true x y e = absurd (no_slash (first_byte e))
same_ends true false x y e = absurd (no_slash (first_byte (sym e)))
same_ends true true x y e = (refl, same_tail 62 (same_tail 47 e))

-- What one reading of a tag leaves and gives, each other one does.
pub one_tag : {closed : Bool} {p : Place} {z : Text} {attrs : List TAttr} → ReadsAttrs closed p z attrs → (y : Text) (i : Bool × Text) (others : List TAttr) → ReadsTag i (p, z ++ y) others
    → (closed ≡ i.0) × (y ≡ i.1) × (attrs ≡ others)
one_tag {closed = closed} {p = p} (ReadsAttrs.no_more w h) y i others k = by (reading_first (p, (w ++ ending closed) ++ y) i others k)
  where
    whole : (w ++ ending closed) ++ y ≡ w ++ (ending closed ++ y)
    whole = append_assoc w (ending closed) y

    by : Ended (p, (w ++ ending closed) ++ y) i others ⊎ Led (p, (w ++ ending closed) ++ y) i others → (closed ≡ i.0) × (y ≡ i.1) × ([] ≡ others)
    by (inl j) =
        let g = same_runs is_blank w j.w (ending closed ++ y) (ending i.0 ++ i.1) (sym whole ∙ j.is) h j.blank (stops is_ending ending_no_blank _ (ending_starts closed y)) (stops is_ending ending_no_blank _ (ending_starts i.0 i.1)) in
        let e = same_ends closed i.0 y i.1 g.1 in
        (e.0, e.1, sym j.none)
    by (inr j) = absurd (no_ending j.w j.t w (ending closed ++ y) (sym j.is ∙ whole) (gap_blank j.w j.gap) h (starts_attribute (steps p j.w) j.t j.one j.q j.r j.here) (ending_starts closed y))
one_tag {closed = closed} {p = p} (ReadsAttrs.another {one = one} {others = more} w x z gap here reads) y i others k =
    let f = attrs_follow reads y in
    let is : (w ++ (x ++ z)) ++ y ≡ w ++ (x ++ (z ++ y)) = append_assoc w (x ++ z) y ∙ ap (λ v. w ++ v) (append_assoc x z y) in
    let b = attribute_back p ((w ++ (x ++ z)) ++ y) w (x ++ (z ++ y)) one (steps (steps p w) x) (z ++ y) gap is (attribute_at here y f.0 f.1) i others k in
    let g = one_tag reads y i b.0 (subst (λ v. ReadsTag i (v, z ++ y) b.0) (sym (steps_append p w x)) b.2) in
    (g.0, g.1, ap (λ v. one ∷ v) g.2 ∙ sym b.1)

-- ---- what comes after a tag doesn't count

reads_more : {p : Place} {x z : Text} {one : TAttr} → ReadsAttr p x z one → (y : Text) → ReadsAttr p x (z ++ y) one
reads_more (ReadsAttr.without n name named alone) y = ReadsAttr.without n name named alone
reads_more (ReadsAttr.having n w v m x name named bw bv marked decodes says) y = ReadsAttr.having n w v m x name named bw bv (marked_more marked y) decodes says

-- what passes a limit does with more behind it
pub over_more : {p : Place} {t : Text} → OverAttrs p t → (y : Text) → OverAttrs p (t ++ y)
over_more {p = p} (OverAttrs.this_one u n w v m x z gap name named bw bv marked decodes over) y =
    subst (OverAttrs p) (sym (regroup u n w v m x z y)) (OverAttrs.this_one u n w v m x (z ++ y) gap name named bw bv (marked_more marked y) decodes over)
  where
    regroup : (u n w v m x z y : Text) → (u ++ (n ++ (w ++ (61 ∷ (v ++ (m ++ (x ++ (m ++ z)))))))) ++ y ≡ u ++ (n ++ (w ++ (61 ∷ (v ++ (m ++ (x ++ (m ++ (z ++ y))))))))
    regroup u n w v m x z y = simp append_assoc refl
over_more {p = p} (OverAttrs.later_one w x z gap one over) y =
    subst (OverAttrs p) (sym (append_assoc w (x ++ z) y ∙ ap (λ k. w ++ k) (append_assoc x z y))) (OverAttrs.later_one w x (z ++ y) gap (reads_more one y) (over_more over y))

-- a value at the front that passes a limit does so whatever comes behind the tag
over_moves : {p : Place} {x z : Text} {one : TAttr} → ReadsAttr p x z one → (y u : Text) → Follows (z ++ y) → Follows (z ++ u) → OverAttributeAt p (x ++ (z ++ y)) → OverAttributeAt p (x ++ (z ++ u))
over_moves {p = p} {z = z} (ReadsAttr.without {f = f} {form = form} n name named alone) y u i j k =
    absurd (alone_unvalued p (n ++ (z ++ y)) _ (steps p n) k.q (z ++ y) k.r k.f k.s k.ls
    (record { n = n; f = f; says = form; name = name; form = named; without = alone; is = refl; at = refl; all = refl; unvalued = i.1; ends = i.0 }) k.valued)
over_moves {p = p} {z = z} (ReadsAttr.having {f = f} {form = form} {ls = ls} n w v m x name named bw bv marked decodes says) y u i j k =
    let s : Place = steps p (n ++ (w ++ (61 ∷ (v ++ m)))) in
    let q : Place = steps p (n ++ (w ++ (61 ∷ (v ++ (m ++ (x ++ m)))))) in
    let same = one_valued p _ k.f f k.s s k.ls ls k.q q k.r (z ++ y) k.valued (here y) in
    record {
      f = f;
      s = s;
      ls = ls;
      q = q;
      r = z ++ u;
      valued = here u;
      over = subst (λ l. OverValue f s l) same.letters (subst (λ l. OverValue f l k.ls) same.insides (subst (λ l. OverValue l k.s k.ls) same.forms k.over));
    }
  where
    regroup : (n w v m x r : Text) → (n ++ (w ++ (61 ∷ (v ++ (m ++ (x ++ m)))))) ++ r ≡ n ++ (w ++ (61 ∷ (v ++ (m ++ (x ++ (m ++ r))))))
    regroup n w v m x r = simp append_assoc refl

    here : (r : Text) → ValuedAt p ((n ++ (w ++ (61 ∷ (v ++ (m ++ (x ++ m)))))) ++ (z ++ r)) f (steps p (n ++ (w ++ (61 ∷ (v ++ m))))) ls (steps p (n ++ (w ++ (61 ∷ (v ++ (m ++ (x ++ m))))))) (z ++ r)
    here r = record {
      n = n;
      w = w;
      v = v;
      m = m;
      x = x;
      name = name;
      form = named;
      before = bw;
      behind = bv;
      marked = marked_more marked r;
      is = regroup n w v m x (z ++ r);
      inside = refl;
      at = refl;
      decodes = decodes;
    }

-- attributes that pass no limit don't, whatever comes behind the tag
pub calm_more : {closed : Bool} {p : Place} {x : Text} {attrs : List TAttr} → ReadsAttrs closed p x attrs → (y u : Text) → (OverAttrs p (x ++ y) → ⊥) → OverAttrs p (x ++ u) → ⊥
calm_more {closed = closed} {p = p} (ReadsAttrs.no_more w h) y u none over = end_calm p ((w ++ ending closed) ++ u) w u closed h (append_assoc w (ending closed) u) over
calm_more {closed = closed} {p = p} (ReadsAttrs.another {one = one} {others = others} w x z gap here reads) y u none over =
    by (over_first (subst (OverAttrs p) (is u) over)) (λ n o. calm_more reads y u n o)
  where
    is : (r : Text) → (w ++ (x ++ z)) ++ r ≡ w ++ (x ++ (z ++ r))
    is r = append_assoc w (x ++ z) r ∙ ap (λ k. w ++ k) (append_assoc x z r)

    front : (r : Text) → Starts in_attribute (x ++ (z ++ r))
    front r = starts_append in_attribute x (z ++ r) (reads_starts here)

    at : (r : Text) → AttributeAt (steps p w) (x ++ (z ++ r)) one (steps (steps p w) x) (z ++ r)
    at r = let f = attrs_follow reads r in attribute_at here r f.0 f.1

    by : OverFirst (p, w ++ (x ++ (z ++ u))) ⊎ OverLater (p, w ++ (x ++ (z ++ u))) → ((OverAttrs (steps p (w ++ x)) (z ++ y) → ⊥) → OverAttrs (steps p (w ++ x)) (z ++ u) → ⊥) → ⊥
    by (inl k) go =
        let v = k.here.valued in
        let a = starts_append in_attribute v.n (v.w ++ (61 ∷ (v.v ++ (v.m ++ (v.x ++ (v.m ++ k.here.r)))))) (attribute_starts v.n v.name) in
        let g = same_gaps w (x ++ (z ++ u)) k.w k.t k.is (gap_blank w gap) (gap_blank k.w k.gap) (front u) (a.0, a.1, v.is ∙ a.2, a.3) in
        let moved : OverAttributeAt (steps p w) (x ++ (z ++ u)) = subst (λ j. OverAttributeAt (steps p j) (x ++ (z ++ u))) (sym g.0) (subst (λ j. OverAttributeAt (steps p k.w) j) (sym g.1) k.here) in
        none (subst (OverAttrs p) (sym (is y)) (attribute_over p (w ++ (x ++ (z ++ y))) w (x ++ (z ++ y)) gap refl (over_moves here u y (attrs_follow reads u) (attrs_follow reads y) moved)))
    by (inr k) go =
        let g = same_gaps w (x ++ (z ++ u)) k.w k.t k.is (gap_blank w gap) (gap_blank k.w k.gap) (front u) (starts_attribute (steps p k.w) k.t k.one k.q k.r k.here) in
        let moved : AttributeAt (steps p w) (x ++ (z ++ u)) k.one k.q k.r = subst (λ j. AttributeAt (steps p j) (x ++ (z ++ u)) k.one k.q k.r) (sym g.0) (subst (λ j. AttributeAt (steps p k.w) j k.one k.q k.r) (sym g.1) k.here) in
        let same = one_attribute (steps p w) (x ++ (z ++ u)) k.one one k.q (steps (steps p w) x) k.r (z ++ u) moved (at u) in
        let later : OverAttrs (steps p (w ++ x)) (z ++ u) = subst (λ j. OverAttrs j (z ++ u)) (same.1 ∙ sym (steps_append p w x)) (subst (λ j. OverAttrs k.q j) same.2 k.over) in
        go (λ o. none (subst (OverAttrs p) (sym (is y)) (OverAttrs.later_one w x (z ++ y) gap (reads_more here y) o))) later
