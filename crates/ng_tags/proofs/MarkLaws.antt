-- Values behind names: what is cut off is one at most.
use Rattle.std.proofs.Common.{◌≡◌, ℕ, [], ◌∷◌, ◌++◌, refl, sym, ◌∙◌, ap, subst, append_assoc}
use Rattle.std.specs.Prelude.{Bool, true, false, cond, ◌⊎◌}
use Rattle.std.proofs.Common.{inl, inr}
use Rattle.ng_ast.specs.declared.Place.{Place}
use Rattle.ng_tokens.specs.Lexis.{Text, is_blank, all, begins, steps}
use Rattle.ng_lex.specs.Words.{at_front}
use Rattle.ng_lex.specs.Attributes.{differs, in_bare, IsBare, ends_bare, Marked}
use Rattle.ng_attributes.specs.Runs.{Run}
use Rattle.ng_tags.specs.Tags.{NoEquals}
use Rattle.std.specs.Prelude.{Option, Some, None}
use Rattle.ng_attributes.specs.declared.at.At.{At}
use Rattle.ng_tags.specs.declared.marks.Assigned.TheVariants as a
use Rattle.ng_tags.specs.Marks.{MarkedAt, AssignedAt, Both, IsClosed, IsBareAt, IsMarked, IsAssigned}
use Rattle.ng_attributes.proofs.Texts.{not_both, same_runs, begins_self, steps_append}
use Rattle.ng_tags.proofs.TagLaws.{front_weaker, ends_no_bare, bare_all, same_tail, marked_starts}

-- no mark stands after the run
pub closed_none : (p : ℕ → Bool) (m t a z : Text) → Run p t a z → ((r : Text) → at_front p (m ++ r) ≡ false) → begins m z ≡ false → (x r : Text) → all p x ≡ true → t ≡ x ++ (m ++ r) → ⊥
closed_none p m t a z run stops none x r h e =
    let g = same_runs p x a (m ++ r) z (sym e ∙ run.is) h run.passes (stops r) run.stops in
    not_both (begins m z) (ap (begins m) (sym g.1) ∙ begins_self m r) none

no_bare : (x a : Text) → x ≡ a → a ≡ [] → IsBare x → ⊥
no_bare [] a e f h = h
no_bare (b ∷ x) a e f h = let g : b ∷ x ≡ [] = e ∙ f in cc

-- a run of bytes of bare values is no value where it's empty, or goes on otherwise
pub bare_none : (t a z : Text) → Run in_bare t a z → ((a ≡ []) ⊎ (at_front ends_bare z ≡ false)) → (x r : Text) → IsBare x → at_front ends_bare r ≡ true → t ≡ x ++ r → ⊥
bare_none t a z run why x r h ends e = by why (same_runs in_bare x a r z (sym e ∙ run.is) (bare_all x h) run.passes (front_weaker ends_bare in_bare ends_no_bare r ends) run.stops)
  where
    by : (a ≡ []) ⊎ (at_front ends_bare z ≡ false) → (x ≡ a) × (r ≡ z) → ⊥
    by (inl f) g = no_bare x a g.0 f h
    by (inr f) g = not_both (at_front ends_bare z) (ap (at_front ends_bare) (sym g.1) ∙ ends) f

pub bare_is : (a : Text) → (a ≡ [] → ⊥) → all in_bare a ≡ true → IsBare a
bare_is [] some h = absurd (some refl)
bare_is (b ∷ a) some h = h

-- ---- marks

abbrev NoneClosed : ℕ → Text → Type 0
NoneClosed q z = (x r : Text) → all (differs q) x ≡ true → z ≡ x ++ (q ∷ r) → ⊥

pub marked_double : (p s q : Place) (t z x r : Text) → t ≡ 34 ∷ z → all (differs 34) x ≡ true → z ≡ x ++ (34 ∷ r) → s ≡ steps p (34 ∷ []) → q ≡ steps s (x ++ (34 ∷ [])) → MarkedAt p t s x q r
marked_double p s q t z x r e h f i j =
    record { m = 34 ∷ []; marked = Marked.double x h; is = e ∙ ap (λ k. 34 ∷ k) f; inside = i; at = j ∙ ap (λ k. steps k (x ++ (34 ∷ []))) i }

pub marked_single : (p s q : Place) (t z x r : Text) → t ≡ 39 ∷ z → all (differs 39) x ≡ true → z ≡ x ++ (39 ∷ r) → s ≡ steps p (39 ∷ []) → q ≡ steps s (x ++ (39 ∷ [])) → MarkedAt p t s x q r
marked_single p s q t z x r e h f i j =
    record { m = 39 ∷ []; marked = Marked.single x h; is = e ∙ ap (λ k. 39 ∷ k) f; inside = i; at = j ∙ ap (λ k. steps k (x ++ (39 ∷ []))) i }

pub marked_bare : (p s q : Place) (t x r : Text) → IsBare x → at_front ends_bare r ≡ true → t ≡ x ++ r → s ≡ p → q ≡ steps p x → MarkedAt p t s x q r
marked_bare p s q t x r h stop e i j = record { m = []; marked = Marked.bare x h stop; is = e; inside = i; at = j ∙ ap (steps p) (sym (nil x)) }
  where
    nil : (x : Text) → x ++ [] ≡ x
    nil [] = refl
    nil (b ∷ x) = ap (λ k. b ∷ k) (nil x)

differ : {x y : Text} → 34 ∷ x ≡ 39 ∷ y → ⊥
differ e = cc

bare_first : (b : ℕ) (x r y : Text) → in_bare b ≡ false → IsBare x → x ++ r ≡ b ∷ y → ⊥
bare_first b [] r y h i e = i
bare_first b (c ∷ x) r y h i e = let s : c ≡ b = cc in first (in_bare c) (all in_bare x) i (ap in_bare s ∙ h)
  where
    first : (u v : Bool) → (cond u v false ≡ true) → u ≡ false → ⊥
    first true v f g = cc
    first false v f g = cc

-- what begins with a double quote that isn't closed is no value
pub double_none : (p : Place) (t z : Text) → t ≡ 34 ∷ z → ((x r : Text) → all (differs 34) x ≡ true → z ≡ x ++ ((34 ∷ []) ++ r) → ⊥) → (s q : Place) (x r : Text) → MarkedAt p t s x q r → ⊥
double_none p t z e none s q x r h = by h.marked (sym e ∙ h.is)
  where
    by : {m x r : Text} → Marked m x r → 34 ∷ z ≡ m ++ (x ++ (m ++ r)) → ⊥
    by {r = r} (Marked.double x i) f = none x r i (same_tail 34 f)
    by (Marked.single x i) f = differ f
    by {r = r} (Marked.bare x i stop) f = bare_first 34 x r z refl i (sym f)

pub single_none : (p : Place) (t z : Text) → t ≡ 39 ∷ z → ((x r : Text) → all (differs 39) x ≡ true → z ≡ x ++ ((39 ∷ []) ++ r) → ⊥) → (s q : Place) (x r : Text) → MarkedAt p t s x q r → ⊥
single_none p t z e none s q x r h = by h.marked (sym e ∙ h.is)
  where
    by : {m x r : Text} → Marked m x r → 39 ∷ z ≡ m ++ (x ++ (m ++ r)) → ⊥
    by (Marked.double x i) f = differ (sym f)
    by {r = r} (Marked.single x i) f = none x r i (same_tail 39 f)
    by {r = r} (Marked.bare x i stop) f = bare_first 39 x r z refl i (sym f)

-- what begins with no quote is a bare value, or none
pub other_none : (p : Place) (t : Text) → begins (34 ∷ []) t ≡ false → begins (39 ∷ []) t ≡ false → ((x r : Text) → IsBare x → at_front ends_bare r ≡ true → t ≡ x ++ r → ⊥) → (s q : Place) (x r : Text) → MarkedAt p t s x q r → ⊥
other_none p t double single none s q x r h = by h.marked h.is
  where
    by : {m x r : Text} → Marked m x r → t ≡ m ++ (x ++ (m ++ r)) → ⊥
    by (Marked.double x i) f = not_both (begins (34 ∷ []) t) (ap (begins (34 ∷ [])) f) double
    by (Marked.single x i) f = not_both (begins (39 ∷ []) t) (ap (begins (39 ∷ [])) f) single
    by {r = r} (Marked.bare x i stop) f = none x r i stop f

-- ---- `=`

-- none stands after the white space
pub no_sign : (t w z : Text) → Run is_blank t w z → begins (61 ∷ []) z ≡ false → NoEquals t
no_sign t w z run none = λ u y bu e.
    let g = same_runs is_blank u w (61 ∷ y) z (sym e ∙ run.is) bu run.passes refl run.stops in
    not_both (begins (61 ∷ []) z) (ap (begins (61 ∷ [])) (sym g.1)) none

module _ (p o k : Place) (t w z v y : Text) (first : Run is_blank t w (61 ∷ z)) (second : Run is_blank z v y) (o_is : o ≡ steps (steps p w) (61 ∷ [])) (k_is : k ≡ steps o v) where
  here : k ≡ steps p (w ++ (61 ∷ v))
  here = k_is ∙ ap (λ j. steps j v) o_is ∙ sym (steps_append (steps p w) (61 ∷ []) v) ∙ sym (steps_append p w (61 ∷ v))

  moved : (x : Text) → steps k x ≡ steps p (w ++ (61 ∷ (v ++ x)))
  moved x = ap (λ j. steps j x) here ∙ sym (steps_append p (w ++ (61 ∷ v)) x) ∙ ap (steps p) (append_assoc w (61 ∷ v) x)

  -- the value behind it
  pub sign_some : (s q : Place) (x r : Text) → MarkedAt k y s x q r → AssignedAt p t s x q r
  sign_some s q x r h = record {
    w = w;
    v = v;
    m = h.m;
    before = first.passes;
    behind = second.passes;
    marked = h.marked;
    is = first.is ∙ ap (λ j. w ++ (61 ∷ j)) (second.is ∙ ap (λ j. v ++ j) h.is);
    inside = h.inside ∙ moved h.m;
    at = h.at ∙ moved (h.m ++ (x ++ h.m));
  }

  pub sign_none : ((s q : Place) (x r : Text) → MarkedAt k y s x q r → ⊥) → (s q : Place) (x r : Text) → AssignedAt p t s x q r → ⊥
  sign_none none s q x r h =
      let hv : Text = h.m ++ (x ++ (h.m ++ r)) in
      let g = same_runs is_blank h.w w (61 ∷ (h.v ++ hv)) (61 ∷ z) (sym h.is ∙ first.is) h.before first.passes refl first.stops in
      let i = same_runs is_blank h.v v hv y (same_tail 61 g.1 ∙ second.is) h.behind second.passes (marked_starts h.marked) second.stops in
      none (steps k h.m) (steps k (h.m ++ (x ++ h.m))) x r (record { m = h.m; marked = h.marked; is = sym i.1; inside = refl; at = refl })

-- ---- what the code gives

pub double_marked : (at inside : At) (o : Option (At × At)) → at.text.now ≡ (34 ∷ []) ++ inside.text.now → inside.place ≡ steps at.place (34 ∷ []) → IsClosed (differs 34) (34 ∷ []) inside o → IsMarked at o
double_marked at inside None e p h = double_none at.place at.text.now inside.text.now e h
double_marked at inside (Some v) e p h =
    (marked_double at.place v.0.place v.1.place at.text.now inside.text.now v.0.text.now v.1.text.now e h.passes h.is (h.start ∙ p) (h.end ∙ ap (λ k. steps k (v.0.text.now ++ (34 ∷ []))) (sym h.start)), h.both)

pub single_marked : (at inside : At) (o : Option (At × At)) → at.text.now ≡ (39 ∷ []) ++ inside.text.now → inside.place ≡ steps at.place (39 ∷ []) → IsClosed (differs 39) (39 ∷ []) inside o → IsMarked at o
single_marked at inside None e p h = single_none at.place at.text.now inside.text.now e h
single_marked at inside (Some v) e p h =
    (marked_single at.place v.0.place v.1.place at.text.now inside.text.now v.0.text.now v.1.text.now e h.passes h.is (h.start ∙ p) (h.end ∙ ap (λ k. steps k (v.0.text.now ++ (39 ∷ []))) (sym h.start)), h.both)

pub bare_marked : (at : At) (o : Option (At × At)) → begins (34 ∷ []) at.text.now ≡ false → begins (39 ∷ []) at.text.now ≡ false → IsBareAt at o → IsMarked at o
bare_marked at None double single h = other_none at.place at.text.now double single h
bare_marked at (Some v) double single h = (marked_bare at.place v.0.place v.1.place at.text.now v.0.text.now v.1.text.now h.bare h.ends h.is h.start h.end, h.both)

module _ (at sign behind value : At) (w v : Text) (first : Run is_blank at.text.now w sign.text.now) (first_place : sign.place ≡ steps at.place w) (equals : sign.text.now ≡ (61 ∷ []) ++ behind.text.now) (equals_place : behind.place ≡ steps sign.place (61 ∷ []))
    (second : Run is_blank behind.text.now v value.text.now) (second_place : value.place ≡ steps behind.place v) where
  run_first : Run is_blank at.text.now w (61 ∷ behind.text.now)
  run_first = subst (Run is_blank at.text.now w) equals first

  place_behind : behind.place ≡ steps (steps at.place w) (61 ∷ [])
  place_behind = equals_place ∙ ap (λ k. steps k (61 ∷ [])) first_place

  pub assign_value : (inside rest : At) → MarkedAt value.place value.text.now inside.place inside.text.now rest.place rest.text.now × Both inside rest → IsAssigned at (a.Value inside rest)
  assign_value inside rest h = (
    sign_some at.place behind.place value.place at.text.now w behind.text.now v value.text.now run_first second place_behind second_place inside.place rest.place inside.text.now rest.text.now h.0,
    h.1,
  )

  pub assign_broken : (p : Place) → ((s q : Place) (x r : Text) → MarkedAt value.place value.text.now s x q r → ⊥) → IsAssigned at (a.Broken p)
  assign_broken p none = (
    λ no. no w behind.text.now first.passes run_first.is,
    sign_none at.place behind.place value.place at.text.now w behind.text.now v value.text.now run_first second place_behind second_place none,
  )
