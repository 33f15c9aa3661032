-- What the grammar reads, the parsers give.
use Rattle.std.proofs.Common.{◌≡◌, ℕ, zero, suc, ◌<◌, ◌≤◌, List, [], ◌∷◌, ◌++◌, length, drop, refl, sym, ◌∙◌, ap, subst, append_assoc, arith, length-append, inl, inr}
use Rattle.std.proofs.lemmas.List.{append-nil}
use Rattle.std.proofs.Math.Seq.{drop-append_seam}
use Rattle.std.specs.Prelude.{Bool, true, false, cond, ◌==◌, codes, ◌⊎◌, Some, None}
use Rattle.ng_tokens.specs.Lexis.{Text, all, is_blank, is_letter, is_word, is_quote}
use Rattle.ng_ast.specs.declared.One.{One}
use Rattle.ng_ast.specs.declared.SelPart.{SelPart}
use Rattle.ng_ast.specs.declared.SelPart.TheVariants as kind
use Rattle.ng_ast.specs.declared.Selector.{Selector}
use Rattle.ng_selectors.specs.Grammar.{is_lower, is_tag_byte, is_identifier_byte, is_other, IsTag, IsIdentifier, IsName, ReadsValue, ReadsPart, ReadsParts, ReadsOne, ReadsAlternatives, ReadsSelector}
use Rattle.ng_selectors.specs.Parse.{Parser, is_empty, sees, value, begins_part, tag, part, parts_within, parts, one, negation, alternative, skip_blanks, comma, alternatives_within, alternatives, selector_of}
use Rattle.ng_selectors.proofs.Words.{strip_other, prefix_front, run_front, until_front}

-- ---- bytes

pub tag_begins : (b : ℕ) → is_lower b ≡ true → is_tag_byte b ≡ true
tag_begins b e = grind arith

pub identifier_begins : (b : ℕ) → is_identifier_byte b ≡ true → is_identifier_byte b ≡ true
identifier_begins b e = e

pub name_begins : (b : ℕ) → is_letter b ≡ true → is_word b ≡ true
name_begins b e = grind arith

no_true : false ≡ true → ⊥
no_true e = cc

-- the text goes on with no byte of an identifier
abbrev NoWord : Text → Type 0
NoWord r = sees is_identifier_byte r ≡ false

no_tag_byte : (r : Text) → NoWord r → sees is_tag_byte r ≡ false
no_tag_byte [] e = refl
no_tag_byte (b ∷ r) e = grind arith

-- and with no part
record Ends (r : Text) : Type 0 where
  no_word : NoWord r
  no_part : sees begins_part r ≡ false

-- ---- values

bare_front : (v r : Text) → IsName v → value (v ++ 93 ∷ r) ≡ Some (v, 93 ∷ r)
bare_front [] r h = absurd h
bare_front (b ∷ v) r h =
    let one : (b == 39) ≡ false = grind (arith, h.0) in
    let two : (b == 34) ≡ false = grind (arith, h.0) in
    rw (one, two) (run_front is_letter is_word (b ∷ v) (93 ∷ r) name_begins h refl)

abbrev Quotes : ℕ → Text → Text → Type 0
Quotes q v r = all (is_other q) v ≡ true → value (q ∷ (v ++ q ∷ 93 ∷ r)) ≡ Some (v, 93 ∷ r)

is_either : (q : ℕ) → is_quote q ≡ true → (q ≡ 39) ⊎ (q ≡ 34)
is_either q h = grind arith

quoted_front : (q : ℕ) (v r : Text) → (q ≡ 39) ⊎ (q ≡ 34) → Quotes q v r
quoted_front q v r (inl e) = subst (λ c. Quotes c v r) (sym e) (until_front 39 v (93 ∷ r))
quoted_front q v r (inr e) = subst (λ c. Quotes c v r) (sym e) (until_front 34 v (93 ∷ r))

value_front : {x v : Text} (r : Text) → ReadsValue x v → value (x ++ 93 ∷ r) ≡ Some (v, 93 ∷ r)
value_front r (ReadsValue.bare {v} h) = bare_front v r h
value_front r (ReadsValue.quoted q v h e) = ap (λ z. value (q ∷ z)) (append_assoc v (q ∷ []) (93 ∷ r)) ∙ quoted_front q v r (is_either q h) e

-- ---- parts

has_front : (deeper : Parser SelPart) (a r : Text) → IsIdentifier a → part deeper ((codes "[" ++ (a ++ codes "]")) ++ r) ≡ Some (kind.Has a, r)
unfolding part
has_front deeper a r h = rw (append_assoc a (93 ∷ []) r, run_front is_identifier_byte is_identifier_byte a (93 ∷ r) identifier_begins h refl) refl

equals_front : (deeper : Parser SelPart) (a x v r : Text) → IsIdentifier a → ReadsValue x v → part deeper ((codes "[" ++ (a ++ (codes "=" ++ (x ++ codes "]")))) ++ r) ≡ Some (kind.Is a v, r)
unfolding part
equals_front deeper a x v r h k =
    rw (append_assoc a (61 ∷ (x ++ 93 ∷ [])) r, append_assoc x (93 ∷ []) r, run_front is_identifier_byte is_identifier_byte a (61 ∷ (x ++ 93 ∷ r)) identifier_begins h refl, value_front r k) refl

class_front : (deeper : Parser SelPart) (c r : Text) → IsIdentifier c → NoWord r → part deeper ((codes "." ++ c) ++ r) ≡ Some (kind.Class c, r)
unfolding part
class_front deeper c r h e = rw (run_front is_identifier_byte is_identifier_byte c r identifier_begins h e) refl

except_front : (d : ℕ) (x r : Text) (a : One) → one (negation d) (x ++ 41 ∷ r) ≡ Some (a, 41 ∷ r) → part (negation (suc d)) ((codes ":not(" ++ (x ++ codes ")")) ++ r) ≡ Some (kind.Not a, r)
unfolding part negation
except_front d x r a h = rw (append_assoc x (41 ∷ []) r, h) refl

part_begins : {d : ℕ} {x : Text} {p : SelPart} → ReadsPart d x p → (r : Text) → (sees begins_part (x ++ r) ≡ true) × NoWord (x ++ r)
part_begins (ReadsPart.has a h) r = (refl, refl)
part_begins (ReadsPart.equals a x h k) r = (refl, refl)
part_begins (ReadsPart.class c h) r = (refl, refl)
part_begins (ReadsPart.except x h) r = (refl, refl)

pub part_takes : {d : ℕ} {x : Text} {p : SelPart} → ReadsPart d x p → 0 < length x
part_takes (ReadsPart.has a h) = omega arith
part_takes (ReadsPart.equals a x h k) = omega arith
part_takes (ReadsPart.class c h) = omega arith
part_takes (ReadsPart.except x h) = omega arith

parts_follow : {d : ℕ} {y : Text} {ps : List SelPart} → ReadsParts d y ps → (r : Text) → NoWord r → NoWord (y ++ r)
parts_follow ReadsParts.none r e = e
parts_follow (ReadsParts.more x y h k) r e = subst NoWord (sym (append_assoc x y r)) (part_begins h (y ++ r)).1

no_more : (deeper : Parser SelPart) (r : Text) → Ends r → (n : ℕ) → 0 < n → parts_within deeper n r ≡ Some ([], r)
no_more deeper r e zero less = absurd (omega arith)
no_more deeper r e (suc n) less = rw e.no_part refl

one_more : (deeper : Parser SelPart) (x y r : Text) (p : SelPart) (ps : List SelPart) (n : ℕ) → 0 < length x → sees begins_part (x ++ (y ++ r)) ≡ true
    → part deeper (x ++ (y ++ r)) ≡ Some (p, y ++ r) → ((m : ℕ) → length y < m → parts_within deeper m (y ++ r) ≡ Some (ps, r)) → length (x ++ y) < n
    → parts_within deeper n ((x ++ y) ++ r) ≡ Some (p ∷ ps, r)
one_more deeper x y r p ps zero some begins h go less = absurd (omega arith)
one_more deeper x y r p ps (suc n) some begins h go less = rw (append_assoc x y r, begins, h, go n (omega (arith, length-append x y))) refl

-- ---- alternatives

ends_round : (r : Text) → Ends (41 ∷ r)
ends_round r = record { no_word = refl; no_part = refl }

tag_starts : (t r : Text) → IsTag t → (sees (λ b. b == 42) (t ++ r) ≡ false) × (sees is_lower (t ++ r) ≡ true) × (sees is_blank (t ++ r) ≡ false)
tag_starts [] r h = absurd h
tag_starts (b ∷ t) r h = (grind (arith, h.0), h.0, grind (arith, h.0))

part_starts : (t : Text) → sees begins_part t ≡ true → (sees (λ b. b == 42) t ≡ false) × (sees is_lower t ≡ false) × (sees is_blank t ≡ false)
part_starts [] e = absurd cc
part_starts (b ∷ t) e = (grind arith, grind arith, grind arith)

parts_start : {d : ℕ} {x : Text} {p : SelPart} {ps : List SelPart} → ReadsParts d x (p ∷ ps) → (r : Text) → sees begins_part (x ++ r) ≡ true
parts_start (ReadsParts.more x y h k) r = subst (λ z. sees begins_part z ≡ true) (sym (append_assoc x y r)) (part_begins h (y ++ r)).0

tag_front : (t r : Text) → IsTag t → NoWord r → tag (t ++ r) ≡ Some (Some t, r)
tag_front t r h e = rw (run_front is_lower is_tag_byte t r tag_begins h (no_tag_byte r e), (tag_starts t r h).1) refl

tagged_front : (deeper : Parser SelPart) (t x r : Text) (ps : List SelPart) → IsTag t → NoWord (x ++ r) → parts deeper (x ++ r) ≡ Some (ps, r)
    → one deeper ((t ++ x) ++ r) ≡ Some (record { tag = Some t; parts = ps }, r)
unfolding one
tagged_front deeper t x r ps h e go = rw (append_assoc t x r, strip_other 42 (t ++ (x ++ r)) (tag_starts t (x ++ r) h).0, tag_front t (x ++ r) h e, go) refl

untagged_front : (deeper : Parser SelPart) (t r : Text) (p : SelPart) (ps : List SelPart) → sees begins_part t ≡ true → parts deeper t ≡ Some (p ∷ ps, r)
    → one deeper t ≡ Some (record { tag = None; parts = p ∷ ps }, r)
unfolding one
untagged_front deeper t r p ps e go = let starts = part_starts t e in rw (strip_other 42 t starts.0, starts.1, go) refl

all_parts : (deeper : Parser SelPart) (x r : Text) (ps : List SelPart) → ((n : ℕ) → length x < n → parts_within deeper n (x ++ r) ≡ Some (ps, r)) → parts deeper (x ++ r) ≡ Some (ps, r)
unfolding parts
all_parts deeper x r ps go = go (suc (length (x ++ r))) (omega (arith, length-append x r))

mutual
  unfolding one

  part_goes : {d : ℕ} {x : Text} {p : SelPart} → ReadsPart d x p → (r : Text) → NoWord r → part (negation d) (x ++ r) ≡ Some (p, r)
  part_goes (ReadsPart.has {d} a h) r e = has_front (negation d) a r h
  part_goes (ReadsPart.equals {d} {v} a x h k) r e = equals_front (negation d) a x v r h k
  part_goes (ReadsPart.class {d} c h) r e = class_front (negation d) c r h e
  part_goes (ReadsPart.except {d} {a} x h) r e = except_front d x r a (one_goes h (41 ∷ r) (ends_round r))

  parts_go : {d : ℕ} {x : Text} {ps : List SelPart} → ReadsParts d x ps → (r : Text) → Ends r → (n : ℕ) → length x < n → parts_within (negation d) n (x ++ r) ≡ Some (ps, r)
  parts_go (ReadsParts.none {d}) r e n less = no_more (negation d) r e n less
  parts_go (ReadsParts.more {d} {p} {ps} x y h k) r e n less =
      one_more (negation d) x y r p ps n (part_takes h) (part_begins h (y ++ r)).0 (part_goes h (y ++ r) (parts_follow k r e.no_word)) (parts_go k r e) less

  one_goes : {d : ℕ} {x : Text} {a : One} → ReadsOne d x a → (r : Text) → Ends r → one (negation d) (x ++ r) ≡ Some (a, r)
  one_goes ReadsOne.everything r e = refl
  one_goes (ReadsOne.tagged {d} {ps} t x h k) r e = tagged_front (negation d) t x r ps h (parts_follow k r e.no_word) (all_parts (negation d) x r ps (parts_go k r e))
  one_goes (ReadsOne.untagged {d} {p} {ps} x k) r e = untagged_front (negation d) (x ++ r) r p ps (parts_start k r) (all_parts (negation d) x r (p ∷ ps) (parts_go k r e))

-- ---- lists

one_starts : {d : ℕ} {x : Text} {a : One} → ReadsOne d x a → (r : Text) → sees is_blank (x ++ r) ≡ false
one_starts ReadsOne.everything r = refl
one_starts (ReadsOne.tagged t x h k) r = subst (λ z. sees is_blank z ≡ false) (sym (append_assoc t x r)) (tag_starts t (x ++ r) h).2
one_starts (ReadsOne.untagged x k) r = (part_starts (x ++ r) (parts_start k r)).2

list_starts : {t : Text} {found : List One} → ReadsAlternatives t found → sees is_blank t ≡ false
list_starts (ReadsAlternatives.one {x} h) = subst (λ z. sees is_blank z ≡ false) (append-nil x) (one_starts h [])
list_starts (ReadsAlternatives.several x v w y h bv bw k) = one_starts h (v ++ 44 ∷ (w ++ y))

blank_low : (b : ℕ) → is_blank b ≡ true → b ≤ 32
blank_low b e = grind arith

low_ends : (b : ℕ) → b ≤ 32 → (is_identifier_byte b ≡ false) × (begins_part b ≡ false)
low_ends b h = (grind arith, grind arith)

first_passes : (p : ℕ → Bool) (b : ℕ) (v : Text) → all p (b ∷ v) ≡ true → p b ≡ true
first_passes p b v e = by (p b) refl
  where
    by : (x : Bool) → p b ≡ x → p b ≡ true
    by true f = f
    by false f = absurd (no_true (sym (ap (λ x. cond x (all p v) false) f) ∙ e))

-- white space and a comma end an alternative
ends_blank : (v r : Text) → all is_blank v ≡ true → Ends (v ++ 44 ∷ r)
ends_blank [] r e = record { no_word = refl; no_part = refl }
ends_blank (b ∷ v) r e = let low = low_ends b (blank_low b (first_passes is_blank b v e)) in record { no_word = low.0; no_part = low.1 }

skip_front : (v r : Text) → all is_blank v ≡ true → sees is_blank r ≡ false → skip_blanks (v ++ r) ≡ r
skip_front v r e f = ap (λ n. drop n (v ++ r)) (prefix_front is_blank v r e f) ∙ drop-append_seam v r

comma_front : (v w y : Text) → all is_blank v ≡ true → all is_blank w ≡ true → sees is_blank y ≡ false → comma (v ++ 44 ∷ (w ++ y)) ≡ Some (tt, y)
comma_front v w y bv bw e = rw (skip_front v (44 ∷ (w ++ y)) bv refl, skip_front w y bw e) refl

is_more : (v r : Text) → is_empty (v ++ 44 ∷ r) ≡ false
is_more [] r = refl
is_more (b ∷ v) r = refl

last_front : (x : Text) (a : One) (n : ℕ) → length x < n → alternative (x ++ []) ≡ Some (a, []) → alternatives_within n x ≡ Some (a ∷ [], [])
last_front x a zero less h = absurd (omega arith)
last_front x a (suc n) less h = rw (ap alternative (sym (append-nil x)) ∙ h) refl

next_front : (x v w y : Text) (a : One) (found : List One) (n : ℕ) → length (x ++ (v ++ 44 ∷ (w ++ y))) < n → alternative (x ++ (v ++ 44 ∷ (w ++ y))) ≡ Some (a, v ++ 44 ∷ (w ++ y))
    → comma (v ++ 44 ∷ (w ++ y)) ≡ Some (tt, y) → ((m : ℕ) → length y < m → alternatives_within m y ≡ Some (found, [])) → alternatives_within n (x ++ (v ++ 44 ∷ (w ++ y))) ≡ Some (a ∷ found, [])
next_front x v w y a found zero less h i go = absurd (omega arith)
next_front x v w y a found (suc n) less h i go =
    let shorter : length y < n = omega (arith, length-append x (v ++ 44 ∷ (w ++ y)), length-append v (44 ∷ (w ++ y)), length-append w y) in
    rw (h, is_more v (w ++ y), i, go n shorter) refl

list_goes : {t : Text} {found : List One} → ReadsAlternatives t found → (n : ℕ) → length t < n → alternatives_within n t ≡ Some (found, [])
unfolding alternative
list_goes (ReadsAlternatives.one {x} {a} h) n less = last_front x a n less (one_goes h [] (record { no_word = refl; no_part = refl }))
list_goes (ReadsAlternatives.several {a} {others} x v w y h bv bw k) n less =
    next_front x v w y a others n less (one_goes h (v ++ 44 ∷ (w ++ y)) (ends_blank v (w ++ y) bv)) (comma_front v w y bv bw (list_starts k)) (list_goes k)

-- the function computes each selector that the grammar reads
pub complete : (t : Text) (s : Selector) → ReadsSelector t s → selector_of t ≡ Some s
unfolding selector_of alternatives
complete t s h = rw (list_goes h (suc (length t)) (omega arith)) refl
