-- The components whose alternatives by a mark of an element hit are those that the element matches.
use Rattle.std.proofs.Common.{◌≡◌, refl, sym, ◌∙◌, ap, subst, ℕ, zero, suc, ◌+◌, ◌==◌, Bool, true, false, cond, ◌&&◌, ◌||◌, bytes_eq, codes, List, [], ◌∷◌, ◌++◌, ◌⊎◌, inl, inr, Option, Some, None, arith}
use Rattle.std.proofs.lemmas.Bool.{eqb-true, eq-eqb}
use Rattle.std.specs.Prelude.{slice_get, nat_lt, ⊤}
use Rattle.std.specs.List.{list_any, list_all, slice_split}
use Rattle.std.specs.BTreeSet.{BTreeSet, contains}
use Rattle.std.specs.HashMap.{get}
use Rattle.std.specs.Ordering.{nat_cmp, is_eq}
use Rattle.std.specs.Option.{option_map_or}
use Rattle.ng_tokens.specs.Lexis.{is_blank}
use Rattle.ng_ast.specs.declared.Component.{Component}
use Rattle.ng_ast.specs.declared.One.{One}
use Rattle.ng_ast.specs.declared.SelPart.{SelPart, out-SelPart}
use Rattle.ng_ast.specs.declared.SelPart.TheOpen.{SelPart-F}
use Rattle.ng_selectors.specs.declared.Attr.{Attr}
use Rattle.ng_selectors.specs.Fits.{fits, tag_fits, one_fits, part_fits, layer_fits, has, has_class, has_word, is_filled}
use Rattle.ng_selectors.specs.FitsLaws.{one_fits_is}
use Rattle.ng_selectors.proofs.Splits.{has_word_is}
use Rattle.ng_hosts.specs.declared.marks.Mark.{Mark}
use Rattle.ng_hosts.specs.declared.marks.Mark.TheVariants as mark
use Rattle.ng_hosts.specs.declared.marks.MarkCounts.{MarkCounts}
use Rattle.ng_hosts.specs.declared.index.Entry.{Entry}
use Rattle.ng_hosts.specs.declared.index.SelectorIndex.{SelectorIndex}
use Rattle.ng_hosts.specs.Hosts.{Name}
use Rattle.ng_hosts.specs.Index.{part_mark, layer_mark, tag_mark, count, rarer, rarer_if, rarest, mark_of, is_attribute, is_class, is_tag, is_nothing, entry, entry_if, marked, entries, row, IsIndex, fits_at, entry_fits, hits, class_hits, value_hits, attr_hits, element_hits}

-- ---- truth

or_cases : (a b : Bool) → (a || b) ≡ true → (a ≡ true) ⊎ (b ≡ true)
or_cases true b h = inl refl
or_cases false b h = inr h

or_left : (a b : Bool) → a ≡ true → (a || b) ≡ true
or_left true b h = refl
or_left false b h = absurd (cc)

or_right : (a b : Bool) → b ≡ true → (a || b) ≡ true
or_right true b h = refl
or_right false b h = h

both : (a b : Bool) → a ≡ true → b ≡ true → (a && b) ≡ true
both true b h k = k
both false b h k = absurd (cc)

first_true : (a b : Bool) → (a && b) ≡ true → a ≡ true
first_true true b h = refl
first_true false b h = h

second_true : (a b : Bool) → (a && b) ≡ true → b ≡ true
second_true true b h = h
second_true false b h = absurd (cc)

same_truth : (a b : Bool) → (a ≡ true → b ≡ true) → (b ≡ true → a ≡ true) → a ≡ b
same_truth true b f g = sym (f refl)
same_truth false true f g = g refl
same_truth false false f g = refl

-- where one of the elements does
any_then : {X : Type 0} (p : X → Bool) (t : Bool) (xs : List X) → ((x : X) → p x ≡ true → t ≡ true) → list_any p xs ≡ true → t ≡ true
any_then p t [] each h = absurd (cc)
any_then p t (x ∷ xs) each h = elim (or_cases (p x) (list_any p xs) h) [
  | inl e ↦ each x e
  | inr e ↦ any_then p t xs each e
]

any_more : {X : Type 0} (p q : X → Bool) (xs : List X) → ((x : X) → p x ≡ true → q x ≡ true) → list_any p xs ≡ true → list_any q xs ≡ true
any_more p q [] each h = h
any_more p q (x ∷ xs) each h = elim (or_cases (p x) (list_any p xs) h) [
  | inl e ↦ or_left (q x) (list_any q xs) (each x e)
  | inr e ↦ or_right (q x) (list_any q xs) (any_more p q xs each e)
]

any_left : {X : Type 0} (p : X → Bool) (xs ys : List X) → list_any p xs ≡ true → list_any p (xs ++ ys) ≡ true
any_left p [] ys h = absurd (cc)
any_left p (x ∷ xs) ys h = elim (or_cases (p x) (list_any p xs) h) [
  | inl e ↦ or_left (p x) (list_any p (xs ++ ys)) e
  | inr e ↦ or_right (p x) (list_any p (xs ++ ys)) (any_left p xs ys e)
]

any_right : {X : Type 0} (p : X → Bool) (xs ys : List X) → list_any p ys ≡ true → list_any p (xs ++ ys) ≡ true
any_right p [] ys h = h
any_right p (x ∷ xs) ys h = or_right (p x) (list_any p (xs ++ ys)) (any_right p xs ys h)

-- ---- an entry that the element matches shows that it matches the component

module _ (cs : List Component) (tag : Name) (seen : List Attr) where
  one_of : (ones : List One) (j : ℕ) → option_map_or (one_fits tag seen) (slice_get ones j) false ≡ true → list_any (one_fits tag seen) ones ≡ true
  one_of [] j h = absurd (cc)
  one_of (o ∷ os) zero h = or_left (one_fits tag seen o) (list_any (one_fits tag seen) os) h
  one_of (o ∷ os) (suc j) h = or_right (one_fits tag seen o) (list_any (one_fits tag seen) os) (one_of os j h)

  component_fits : (o : Option Component) (j : ℕ) → option_map_or (λ c. option_map_or (one_fits tag seen) (slice_get c.selector.list j) false) o false ≡ true → option_map_or (λ c. fits c.selector tag seen) o false ≡ true
  unfolding fits
  component_fits None j h = h
  component_fits (Some c) j h = one_of c.selector.list j h

  hit_fits : (at : ℕ) (e : Entry) → hits cs tag seen at e ≡ true → fits_at cs tag seen at ≡ true
  hit_fits at e h =
      subst (λ k. fits_at cs tag seen k ≡ true) (eqb-true e.component at (first_true (e.component == at) (entry_fits cs tag seen e) h))
      (component_fits (slice_get cs e.component) e.alternative (second_true (e.component == at) (entry_fits cs tag seen e) h))

  row_fits : (at : ℕ) (es : List Entry) → list_any (hits cs tag seen at) es ≡ true → fits_at cs tag seen at ≡ true
  row_fits at es = any_then (hits cs tag seen at) (fits_at cs tag seen at) es (hit_fits at)

  attr_fits : (index : SelectorIndex) (at : ℕ) (a : Attr) → attr_hits cs tag seen index at a ≡ true → fits_at cs tag seen at ≡ true
  attr_fits index at a h = elim (or_cases (list_any (hits cs tag seen at) (row (get bytes_eq index.attributes a.name))) (value_hits cs tag seen index at a) h) [
    | inl e ↦ row_fits at (row (get bytes_eq index.attributes a.name)) e
    | inr e ↦ any_then (class_hits cs tag seen index at) (fits_at cs tag seen at) (slice_split is_blank a.value) (λ word f. row_fits at (row (get bytes_eq index.classes word)) f)
        (second_true (bytes_eq (codes "class") a.name) (list_any (class_hits cs tag seen index at) (slice_split is_blank a.value)) e)
  ]

  sound : (index : SelectorIndex) (at : ℕ) → element_hits cs tag seen index at ≡ true → fits_at cs tag seen at ≡ true
  sound index at h = elim (or_cases (list_any (hits cs tag seen at) index.unmarked.items || list_any (hits cs tag seen at) (row (get bytes_eq index.tags tag))) (list_any (attr_hits cs tag seen index at) seen) h) [
    | inl e ↦ elim (or_cases (list_any (hits cs tag seen at) index.unmarked.items) (list_any (hits cs tag seen at) (row (get bytes_eq index.tags tag))) e) [
      | inl f ↦ row_fits at index.unmarked.items f
      | inr f ↦ row_fits at (row (get bytes_eq index.tags tag)) f
    ]
    | inr e ↦ any_then (attr_hits cs tag seen index at) (fits_at cs tag seen at) seen (attr_fits index at) e
  ]

-- ---- each alternative that the element matches stands by a mark of the element

front_entry : (p : Entry → Bool) (b : Bool) (e : Entry) (es : List Entry) → b ≡ true → p e ≡ true → list_any p (entry_if b e ++ es) ≡ true
front_entry p true e es h k = or_left (p e) (list_any p es) k
front_entry p false e es h k = absurd (cc)

in_marked : (k : MarkCounts) (p : Entry → Bool) (w : Mark → Bool) (at n : ℕ) (ones : List One) (j : ℕ) (one : One) → slice_get ones j ≡ Some one → w (mark_of k one) ≡ true → p (entry at (n + j)) ≡ true
    → list_any p (marked k w at n ones) ≡ true
in_marked k p w at n [] j one is wanted hit = absurd (cc)
in_marked k p w at n (o ∷ os) zero one is wanted hit =
    let same : o ≡ one = cc in
    front_entry p (w (mark_of k o)) (entry at n) (marked k w at (n + 1) os) (ap (λ x. w (mark_of k x)) same ∙ wanted) (ap (λ m. p (entry at m)) (omega arith) ∙ hit)
in_marked k p w at n (o ∷ os) (suc j) one is wanted hit =
    any_right p (entry_if (w (mark_of k o)) (entry at n)) (marked k w at (n + 1) os) (in_marked k p w at (n + 1) os j one is wanted (ap (λ m. p (entry at m)) (omega arith) ∙ hit))

in_entries : (k : MarkCounts) (p : Entry → Bool) (w : Mark → Bool) (n : ℕ) (cs : List Component) (i : ℕ) (c : Component) (j : ℕ) (one : One) → slice_get cs i ≡ Some c → slice_get c.selector.list j ≡ Some one → w (mark_of k one) ≡ true
    → p (entry (n + i) j) ≡ true → list_any p (entries k w n cs) ≡ true
in_entries k p w n [] i c j one is at wanted hit = absurd (cc)
in_entries k p w n (d ∷ ds) zero c j one is at wanted hit =
    let same : c ≡ d = cc in
    any_left p (marked k w n 0 d.selector.list) (entries k w (n + 1) ds)
    (in_marked k p w n 0 d.selector.list j one (subst (λ x. slice_get x.selector.list j ≡ Some one) same at) wanted (ap (λ m. p (entry m (0 + j))) (omega arith) ∙ ap (λ m. p (entry (n + zero) m)) (omega arith) ∙ hit))
in_entries k p w n (d ∷ ds) (suc i) c j one is at wanted hit =
    any_right p (marked k w n 0 d.selector.list) (entries k w (n + 1) ds) (in_entries k p w (n + 1) ds i c j one is at wanted (ap (λ m. p (entry m j)) (omega arith) ∙ hit))

module _ (tag : Name) (seen : List Attr) where
  -- the element bears the mark
  abbrev Bears : Mark → Type 0
  Bears (mark.Attribute n) = has seen n ≡ true
  Bears (mark.Class c) = has_class seen c ≡ true
  Bears (mark.Tag t) = bytes_eq t tag ≡ true
  Bears mark.Nothing = ⊤

  some_mark : (m n : Mark) → Some m ≡ Some n → Bears m → Bears n
  some_mark m n e h = let same : m ≡ n = cc in subst Bears same h

  layer_bears : (l : SelPart-F SelPart One) (m : Mark) → layer_mark l ≡ Some m → layer_fits tag seen (one_fits tag seen) l ≡ true → Bears m
  layer_bears (SelPart-F.Has n) m is h = some_mark (mark.Attribute n) m is h
  layer_bears (SelPart-F.Is n v) m is h = some_mark (mark.Attribute n) m is (any_more (λ a. bytes_eq n a.name && bytes_eq v a.value) (λ a. bytes_eq n a.name) seen (λ a. first_true (bytes_eq n a.name) (bytes_eq v a.value)) h)
  layer_bears (SelPart-F.Class c) m is h = some_mark (mark.Class c) m is h
  layer_bears (SelPart-F.Not one) m is h = absurd (cc)

  part_bears : (p : SelPart) (m : Mark) → part_mark p ≡ Some m → part_fits tag seen p ≡ true → Bears m
  unfolding part_fits
  part_bears p m is h = layer_bears (out-SelPart p) m is h

  rarer_bears : (k : MarkCounts) (best m : Mark) → Bears best → Bears m → Bears (rarer k best m)
  rarer_bears k best m h i = elim (nat_lt (count k m) (count k best)) as (λ t. Bears (cond t m best)) [
    | true ↦ i
    | false ↦ h
  ]

  kept_bears : (k : MarkCounts) (best : Mark) (o : Option Mark) → Bears best → ((m : Mark) → o ≡ Some m → Bears m) → Bears (rarer_if k best o)
  kept_bears k best None h one = h
  kept_bears k best (Some m) h one = rarer_bears k best m h (one m refl)

  rarest_bears : (k : MarkCounts) (best : Mark) (ps : List SelPart) → Bears best → list_all (part_fits tag seen) ps ≡ true → Bears (rarest k best ps)
  rarest_bears k best [] h all = h
  rarest_bears k best (p ∷ ps) h all =
      rarest_bears k (rarer_if k best (part_mark p)) ps
      (kept_bears k best (part_mark p) h (λ m e. part_bears p m e (first_true (part_fits tag seen p) (list_all (part_fits tag seen) ps) all)))
      (second_true (part_fits tag seen p) (list_all (part_fits tag seen) ps) all)

  tag_bears : (t : Option Name) → tag_fits tag t ≡ true → Bears (tag_mark t)
  tag_bears None h = tt
  tag_bears (Some t) h = h

  -- the mark of an alternative that the element matches
  one_bears : (k : MarkCounts) (one : One) → one_fits tag seen one ≡ true → Bears (mark_of k one)
  one_bears k one h =
      let whole = sym (one_fits_is tag seen one) ∙ h in
      rarest_bears k (tag_mark one.tag) one.parts (tag_bears one.tag (first_true (tag_fits tag one.tag) (list_all (part_fits tag seen) one.parts) whole))
      (second_true (tag_fits tag one.tag) (list_all (part_fits tag seen) one.parts) whole)

-- one of the elements does, and where it stands
any_where : {X : Type 0} (p : X → Bool) (xs : List X) → list_any p xs ≡ true → (j : ℕ) × (x : X) × (slice_get xs j ≡ Some x) × (p x ≡ true)
any_where p [] h = absurd (cc)
any_where p (x ∷ xs) h = elim (or_cases (p x) (list_any p xs) h) [
  | inl e ↦ (0, x, refl, e)
  | inr e ↦ let w = any_where p xs e in (suc w.0, w.1, w.2, w.3)
]

module _ (cs : List Component) (tag : Name) (seen : List Attr) (index : SelectorIndex) (is : IsIndex index cs) where
  module _ (at : ℕ) (c : Component) (j : ℕ) (one : One) (here : slice_get cs at ≡ Some c) (there : slice_get c.selector.list j ≡ Some one) (match : one_fits tag seen one ≡ true) where
    entry_hits : hits cs tag seen at (entry at j) ≡ true
    entry_hits = both (at == at) (entry_fits cs tag seen (entry at j)) (eq-eqb at at refl)
        (ap (λ o. option_map_or (λ d. option_map_or (one_fits tag seen) (slice_get d.selector.list j) false) o false) here ∙ ap (λ o. option_map_or (one_fits tag seen) o false) there ∙ match)

    stands : (w : Mark → Bool) → w (mark_of is.counts one) ≡ true → list_any (hits cs tag seen at) (entries is.counts w 0 cs) ≡ true
    stands w wanted = in_entries is.counts (hits cs tag seen at) w 0 cs at c j one here there wanted (ap (λ k. hits cs tag seen at (entry k j)) (omega arith) ∙ entry_hits)

    by_attribute : (n : Name) → mark_of is.counts one ≡ mark.Attribute n → (a : Attr) → bytes_eq n a.name ≡ true → attr_hits cs tag seen index at a ≡ true
    by_attribute n m a e =
        or_left (list_any (hits cs tag seen at) (row (get bytes_eq index.attributes a.name))) (value_hits cs tag seen index at a)
        (ap (list_any (hits cs tag seen at)) (is.attributes a.name) ∙ stands (is_attribute a.name) (ap (is_attribute a.name) m ∙ e))

    by_word : (n : Name) → mark_of is.counts one ≡ mark.Class n → (word : Name) → bytes_eq n word ≡ true → class_hits cs tag seen index at word ≡ true
    by_word n m word e = ap (list_any (hits cs tag seen at)) (is.classes word) ∙ stands (is_class word) (ap (is_class word) m ∙ e)

    by_class : (n : Name) → mark_of is.counts one ≡ mark.Class n → (a : Attr) → (bytes_eq (codes "class") a.name && has_word n a.value) ≡ true → attr_hits cs tag seen index at a ≡ true
    by_class n m a e =
        or_right (list_any (hits cs tag seen at) (row (get bytes_eq index.attributes a.name))) (value_hits cs tag seen index at a)
        (both (bytes_eq (codes "class") a.name) (list_any (class_hits cs tag seen index at) (slice_split is_blank a.value)) (first_true (bytes_eq (codes "class") a.name) (has_word n a.value) e)
        (any_more (λ piece. is_filled piece && bytes_eq n piece) (class_hits cs tag seen index at) (slice_split is_blank a.value) (λ piece f. by_word n m piece (second_true (is_filled piece) (bytes_eq n piece) f))
        (has_word_is n a.value ∙ second_true (bytes_eq (codes "class") a.name) (has_word n a.value) e)))

    by_mark : (m : Mark) → mark_of is.counts one ≡ m → Bears tag seen m → element_hits cs tag seen index at ≡ true
    by_mark (mark.Attribute n) e h = or_right (list_any (hits cs tag seen at) index.unmarked.items || list_any (hits cs tag seen at) (row (get bytes_eq index.tags tag))) (list_any (attr_hits cs tag seen index at) seen)
        (any_more (λ a. bytes_eq n a.name) (attr_hits cs tag seen index at) seen (by_attribute n e) h)
    by_mark (mark.Class n) e h = or_right (list_any (hits cs tag seen at) index.unmarked.items || list_any (hits cs tag seen at) (row (get bytes_eq index.tags tag))) (list_any (attr_hits cs tag seen index at) seen)
        (any_more (λ a. bytes_eq (codes "class") a.name && has_word n a.value) (attr_hits cs tag seen index at) seen (by_class n e) h)
    by_mark (mark.Tag t) e h =
        or_left (list_any (hits cs tag seen at) index.unmarked.items || list_any (hits cs tag seen at) (row (get bytes_eq index.tags tag))) (list_any (attr_hits cs tag seen index at) seen)
        (or_right (list_any (hits cs tag seen at) index.unmarked.items) (list_any (hits cs tag seen at) (row (get bytes_eq index.tags tag)))
        (ap (list_any (hits cs tag seen at)) (is.tags tag) ∙ stands (is_tag tag) (ap (is_tag tag) e ∙ h)))
    by_mark mark.Nothing e h =
        or_left (list_any (hits cs tag seen at) index.unmarked.items || list_any (hits cs tag seen at) (row (get bytes_eq index.tags tag))) (list_any (attr_hits cs tag seen index at) seen)
        (or_left (list_any (hits cs tag seen at) index.unmarked.items) (list_any (hits cs tag seen at) (row (get bytes_eq index.tags tag)))
        (ap (list_any (hits cs tag seen at)) is.unmarked ∙ stands is_nothing (ap is_nothing e)))

    found : element_hits cs tag seen index at ≡ true
    found = by_mark (mark_of is.counts one) refl (one_bears tag seen is.counts one match)

  complete_at : (at : ℕ) (o : Option Component) → slice_get cs at ≡ o → option_map_or (λ c. fits c.selector tag seen) o false ≡ true → element_hits cs tag seen index at ≡ true
  unfolding fits
  complete_at at None here h = absurd (cc)
  complete_at at (Some c) here h = let w = any_where (one_fits tag seen) c.selector.list h in found at c w.0 w.1 here w.2 w.3

  -- what the marks of an element give is what it matches
  pub hits_are : (at : ℕ) → element_hits cs tag seen index at ≡ fits_at cs tag seen at
  hits_are at = same_truth (element_hits cs tag seen index at) (fits_at cs tag seen at) (sound cs tag seen index at) (complete_at at (slice_get cs at) refl)

-- what one search after another finds
pub searched : (cs : List Component) (tag : Name) (seen : List Attr) (index : SelectorIndex) (at : ℕ) (none first second all : BTreeSet ℕ) (us ts : List Entry) → none.keys ≡ [] → us ≡ index.unmarked.items
    → ts ≡ row (get bytes_eq index.tags tag) → contains nat_cmp first at ≡ (contains nat_cmp none at || list_any (hits cs tag seen at) us) → contains nat_cmp second at ≡ (contains nat_cmp first at || list_any (hits cs tag seen at) ts)
    → contains nat_cmp all at ≡ (contains nat_cmp second at || list_any (attr_hits cs tag seen index at) seen) → contains nat_cmp all at ≡ element_hits cs tag seen index at
searched cs tag seen index at none first second all us ts empty unmarked tags e f g =
    g ∙ ap (λ b. b || list_any (attr_hits cs tag seen index at) seen)
    (f ∙ ap (λ es. contains nat_cmp first at || list_any (hits cs tag seen at) es) tags
    ∙ ap (λ b. b || list_any (hits cs tag seen at) (row (get bytes_eq index.tags tag)))
    (e ∙ ap (λ ks. list_any (λ k. is_eq (nat_cmp at k)) ks || list_any (hits cs tag seen at) us) empty ∙ ap (list_any (hits cs tag seen at)) unmarked))
