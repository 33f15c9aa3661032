-- A token that is written as its kind is found whole, whatever comes after it.
use Rattle.std.proofs.Common.{◌≡◌, ℕ, zero, suc, ◌+◌, [], ◌∷◌, ◌++◌, length, drop, codes, refl, sym, ◌∙◌, ap, subst, append_assoc, arith, length-append, inl, inr}
use Rattle.std.proofs.Math.Seq.{drop-append_seam}
use Rattle.std.specs.Prelude.{true, false, if◌then◌else◌, ◌==◌, nat_lt, ◌⊎◌, Option, Some, None, slice_get}
use Rattle.std.specs.List.{prefix_len}
use Rattle.std.specs.Option.{option_map}
use Rattle.ng_tokens.specs.Lexis.{Text, is_blank, is_letter, is_word, all, is_one_of}
use Rattle.ng_exprs.specs.Ends.{end_from, later}
use Rattle.ng_lex.specs.declared.kinds.TokenKind.{TokenKind}
use Rattle.ng_lex.specs.declared.kinds.TokenKind.TheVariants as kind
use Rattle.ng_lex.specs.declared.quotes.Quoting.TheVariants.{Outside}
use Rattle.ng_lex.specs.Words.{IsBlank, IsGap, IsName, literal, valued, unquoted, First, at_front, opening, closing}
use Rattle.ng_lex.specs.Attributes.{is_lower}
use Rattle.ng_lex.specs.Heads.{IsElseIf, IsLetFront, EndsAfter}
use Rattle.ng_lex.specs.Lexis.{AllPlain, NotPlain, comment_opening, comment_closing}
use Rattle.ng_lex.specs.Spans.{Fills, braced_words, bracketed_words, IsHead, IsSpan}
use Rattle.ng_lex.specs.Span.{plain_len, seek, blank_len, name_len, brace_len, round_len, closed_by, bracket_by, bracket_len, else_by, else_len, equals_len, named_len, front_len, ended_len, let_len, sized, headed, tagged, marked, span}
use Rattle.ng_lex.proofs.Texts.{both_true, no_true, later_suc, later_none, later_one, run_len, seek_first}
use Rattle.ng_lex.proofs.Ends.{one_of, blanks_no_word, word_all}

abbrev pub Spans : TokenKind → Text → Text → Type 0
Spans k a z = span (a ++ z) ≡ Some (k, length a)

-- ---- literal text

plain_stops : (z : Text) → NotPlain z → plain_len z ≡ 0
plain_stops [] h = refl
plain_stops (b ∷ z) h = rw h refl

plain_long : (a z : Text) → AllPlain a z → NotPlain z → plain_len (a ++ z) ≡ length a
plain_long [] z h e = plain_stops z e
plain_long (b ∷ a) z h e = rw h.0 (ap suc (plain_long a z h.1 e))

literal_spans : (b : ℕ) (a z : Text) → AllPlain (b ∷ a) z → NotPlain z → Spans kind.Literal (b ∷ a) z
unfolding span
literal_spans b a z h e = rw h.0 (ap (λ n. Some (kind.Literal, suc n)) (plain_long a z h.1 e))

-- ---- interpolations, comments and tags

interpolation_spans : (t z : Text) → First literal closing t → Spans kind.Interpolation (opening ++ (t ++ closing)) z
unfolding span marked
interpolation_spans t z h = rw (append_assoc t closing z) (rw (seek_first literal 125 (125 ∷ []) Outside t z h.1 h.0) (ap (λ n. Some (kind.Interpolation, n)) (size t)))
  where
    size : (x : Text) → 4 + length x ≡ length (opening ++ (x ++ closing))
    size x = omega (arith, length-append x closing)

comment_spans : (t z : Text) → First unquoted comment_closing t → Spans kind.Comment (comment_opening ++ (t ++ comment_closing)) z
unfolding span marked tagged
comment_spans t z h = rw (append_assoc t comment_closing z) (rw (seek_first unquoted 45 (45 ∷ 62 ∷ []) Outside t z h.1 h.0) (ap (λ n. Some (kind.Comment, n)) (size t)))
  where
    size : (x : Text) → 7 + length x ≡ length (comment_opening ++ (x ++ comment_closing))
    size x = omega (arith, length-append x comment_closing)

end_spans : (t z : Text) → First unquoted (62 ∷ []) t → Spans kind.End (60 ∷ 47 ∷ (t ++ (62 ∷ []))) z
unfolding span marked tagged
end_spans t z h = rw (append_assoc t (62 ∷ []) z) (rw (seek_first unquoted 62 [] Outside t z h.1 h.0) (ap (λ n. Some (kind.End, n)) (size t)))
  where
    size : (x : Text) → 3 + length x ≡ length (60 ∷ 47 ∷ (x ++ (62 ∷ [])))
    size x = omega (arith, length-append x (62 ∷ []))

lower_starts : (b : ℕ) → is_lower b ≡ true → ((33 == b) ≡ false) × ((47 == b) ≡ false)
lower_starts b e = (grind arith, grind arith)

tagged_lower : (b : ℕ) (t : Text) → is_lower b ≡ true → tagged (b ∷ t) ≡ sized kind.Start (later 2 (seek valued (62 ∷ []) Outside (b ∷ t)))
unfolding tagged
tagged_lower b t e = let f = lower_starts b e in rw f.0 (rw f.1 (rw e refl))

start_spans : (t z : Text) → at_front is_lower t ≡ true → First valued (62 ∷ []) t → Spans kind.Start (60 ∷ (t ++ (62 ∷ []))) z
unfolding span marked
start_spans [] z e h = absurd (no_true e)
start_spans (b ∷ t) z e h =
    tagged_lower b ((t ++ (62 ∷ [])) ++ z) e ∙ ap (λ k. sized kind.Start (later 2 (seek valued (62 ∷ []) Outside (b ∷ k)))) (append_assoc t (62 ∷ []) z)
    ∙ ap (λ o. sized kind.Start (later 2 o)) (seek_first valued 62 [] Outside (b ∷ t) z h.1 h.0) ∙ ap (λ n. Some (kind.Start, n)) (size (b ∷ t))
  where
    size : (x : Text) → 2 + length x ≡ length (60 ∷ (x ++ (62 ∷ [])))
    size x = omega (arith, length-append x (62 ∷ []))

-- ---- heads

-- where white space ends, before a byte that is none
blank_is : (w : Text) (c : ℕ) (z : Text) → IsBlank w → is_blank c ≡ false → blank_len (w ++ (c ∷ z)) ≡ length w
blank_is w c z h e = run_len is_blank w (c ∷ z) h e

pub after_blank : (w z : Text) (n : ℕ) → n ≡ length w → drop n (w ++ z) ≡ z
after_blank w z n e = ap (λ k. drop k (w ++ z)) e ∙ drop-append_seam w z

pub brace_is : (w z : Text) → IsBlank w → brace_len (w ++ (123 ∷ z)) ≡ Some (length w + 1)
unfolding brace_len
brace_is w z h = rw (blank_is w 123 z h refl) (rw (drop-append_seam w (123 ∷ z)) refl)

-- over the bytes that are left of a piece
round_over : (a z : Text) (n : ℕ) → n ≡ length a → round_len n (a ++ z) ≡ later (length a) (round_len 0 z)
unfolding round_len
round_over [] z n e = ap (λ m. round_len m z) e ∙ sym (later_none (round_len 0 z))
round_over (b ∷ a) z zero e = absurd (omega arith)
round_over (b ∷ a) z (suc n) e = ap (option_map suc) (round_over a z n (omega arith)) ∙ later_suc (length a) (round_len 0 z)

abbrev pub round_then : ℕ → ℕ → Text → Option ℕ
round_then c n z = if c == 41 then Some (n + 1) else (if c == 59 then later (n + 1) (round_len 0 z) else None)

get_seam : (t : Text) (c : ℕ) (z : Text) → slice_get (t ++ (c ∷ z)) (length t) ≡ Some c
get_seam [] c z = refl
get_seam (b ∷ t) c z = get_seam t c z

round_first : (b : ℕ) (s : Text) (n c : ℕ) (z : Text) → end_from 0 0 (b ∷ s) ≡ Some n → slice_get (b ∷ s) n ≡ Some c → option_map suc (round_len n s) ≡ later (n + 1) (round_len 0 z) → round_len 0 (b ∷ s) ≡ round_then c n z
unfolding round_len
round_first b s n c z e f g = rw e (rw f (ap (λ o. if c == 41 then Some (n + 1) else (if c == 59 then o else None)) g))

pub round_step : (t : Text) (c : ℕ) (z : Text) → EndsAfter t (c ∷ z) → round_len 0 (t ++ (c ∷ z)) ≡ round_then c (length t) z
round_step [] c z e = round_first c z 0 c z e refl (later_one (round_len 0 z))
round_step (b ∷ t) c z e = round_first b (t ++ (c ∷ z)) (length (b ∷ t)) c z e (get_seam (b ∷ t) c z) over
  where
    size : suc (length (t ++ (c ∷ []))) ≡ length (b ∷ t) + 1
    size = omega (arith, length-append t (c ∷ []))

    same : length (b ∷ t) ≡ length (t ++ (c ∷ []))
    same = omega (arith, length-append t (c ∷ []))

    over : option_map suc (round_len (length (b ∷ t)) (t ++ (c ∷ z))) ≡ later (length (b ∷ t) + 1) (round_len 0 z)
    over =
        ap (λ k. option_map suc (round_len (length (b ∷ t)) k)) (sym (append_assoc t (c ∷ []) z)) ∙ ap (option_map suc) (round_over (t ++ (c ∷ [])) z (length (b ∷ t)) same)
        ∙ later_suc (length (t ++ (c ∷ []))) (round_len 0 z) ∙ ap (λ n. later n (round_len 0 z)) size

pub round_is : {x z : Text} → Fills x z → round_len 0 (x ++ (41 ∷ z)) ≡ Some (length x + 1)
round_is (Fills.last_piece t z e) = round_step t 41 z e
round_is (Fills.next_piece t x z e h) =
    ap (round_len 0) (append_assoc t (59 ∷ x) (41 ∷ z)) ∙ round_step t 59 (x ++ (41 ∷ z)) e ∙ ap (later (length t + 1)) (round_is h) ∙ ap Some size
  where
    size : (length t + 1) + (length x + 1) ≡ length (t ++ (59 ∷ x)) + 1
    size = omega (arith, length-append t (59 ∷ x))

abbrev bracket_text : Text → Text → Text → Text → Text
bracket_text w x v z = w ++ (40 ∷ (x ++ (41 ∷ (v ++ (123 ∷ z)))))

pub bracket_is : (w x v z : Text) → IsBlank w → IsBlank v → Fills x (v ++ (123 ∷ z)) → bracket_len (bracket_text w x v z) ≡ Some ((length w + 1) + ((length x + 1) + (length v + 1)))
unfolding bracket_len
bracket_is w x v z h i f = ap (λ n. bracket_by n (bracket_text w x v z)) (blank_is w 40 _ h refl) ∙ from (after_blank w _ (length w) refl) (past w _)
  where
    past : (w t : Text) → drop (length w + 1) (w ++ (40 ∷ t)) ≡ t
    past w t = ap (λ k. drop (length w + 1) k) (sym (append_assoc w (40 ∷ []) t)) ∙ after_blank (w ++ (40 ∷ [])) t (length w + 1) (omega (arith, length-append w (40 ∷ [])))

    inside : Text
    inside = x ++ (41 ∷ (v ++ (123 ∷ z)))

    brace : brace_len (drop (length x + 1) inside) ≡ Some (length v + 1)
    brace = ap brace_len (ap (λ k. drop (length x + 1) k) (sym (append_assoc x (41 ∷ []) (v ++ (123 ∷ z)))) ∙ after_blank (x ++ (41 ∷ [])) (v ++ (123 ∷ z)) (length x + 1) (omega (arith, length-append x (41 ∷ [])))) ∙ brace_is v z i

    closed : closed_by inside (round_len 0 inside) ≡ Some ((length x + 1) + (length v + 1))
    closed = ap (closed_by inside) (round_is f) ∙ ap (later (length x + 1)) brace

    from : drop (length w) (bracket_text w x v z) ≡ 40 ∷ inside → drop (length w + 1) (bracket_text w x v z) ≡ inside → bracket_by (length w) (bracket_text w x v z) ≡ Some ((length w + 1) + ((length x + 1) + (length v + 1)))
    from e g = rw e (rw g (ap (later (length w + 1)) closed))

-- ---- the words of heads

abbrev BracketWord : Text → Type 0
BracketWord word = (t : Text) (n : ℕ) → bracket_len t ≡ Some n → span (word ++ t) ≡ Some (kind.Head, length word + n)

abbrev BraceWord : Text → Type 0
BraceWord word = (w z : Text) → IsBlank w → span (word ++ (w ++ (123 ∷ z))) ≡ Some (kind.Head, length word + (length w + 1))

if_word : BracketWord (codes "@if")
unfolding span marked headed
if_word t n e = rw e refl

for_word : BracketWord (codes "@for")
unfolding span marked headed
for_word t n e = rw e refl

switch_word : BracketWord (codes "@switch")
unfolding span marked headed
switch_word t n e = rw e refl

case_word : BracketWord (codes "@case")
unfolding span marked headed
case_word t n e = rw e refl

bracket_word : (word : Text) → is_one_of bracketed_words word ≡ true → BracketWord word
unfolding bracketed_words
bracket_word word e = one_of BracketWord bracketed_words (if_word, (for_word, (switch_word, (case_word, tt)))) word e

else_brace : (w z : Text) → IsBlank w → else_len (w ++ (123 ∷ z)) ≡ Some (length w + 1)
unfolding else_len
else_brace w z h = rw (blank_is w 123 z h refl) (rw (drop-append_seam w (123 ∷ z)) refl)

else_word : BraceWord (codes "@else")
unfolding span marked headed
else_word w z h = rw (else_brace w z h) refl

empty_word : BraceWord (codes "@empty")
unfolding span marked headed
empty_word w z h = rw (brace_is w z h) refl

default_word : BraceWord (codes "@default")
unfolding span marked headed
default_word w z h = rw (brace_is w z h) refl

brace_word : (word : Text) → is_one_of braced_words word ≡ true → BraceWord word
unfolding braced_words
brace_word word e = one_of BraceWord braced_words (else_word, (empty_word, (default_word, tt))) word e

positive : (n : ℕ) → nat_lt 0 (suc n) ≡ true
positive n = grind arith

gap_blank : (w : Text) → IsGap w → IsBlank w × (nat_lt 0 (length w) ≡ true)
gap_blank [] h = absurd h
gap_blank (b ∷ w) h = (h, positive (length w))

else_if : (w t : Text) (n : ℕ) → IsGap w → bracket_len t ≡ Some n → else_len (w ++ (codes "if" ++ t)) ≡ Some ((length w + 2) + n)
unfolding else_len
else_if w t n h e = ap (λ k. else_by k (w ++ (codes "if" ++ t))) (blank_is w 105 _ (gap_blank w h).0 refl) ∙ from (after_blank w _ (length w) refl) past
  where
    past : drop (length w + 2) (w ++ (codes "if" ++ t)) ≡ t
    past = ap (λ k. drop (length w + 2) k) (sym (append_assoc w (codes "if") t)) ∙ after_blank (w ++ codes "if") t (length w + 2) (omega (arith, length-append w (codes "if")))

    from : drop (length w) (w ++ (codes "if" ++ t)) ≡ codes "if" ++ t → drop (length w + 2) (w ++ (codes "if" ++ t)) ≡ t → else_by (length w) (w ++ (codes "if" ++ t)) ≡ Some ((length w + 2) + n)
    from f g = rw f (rw (gap_blank w h).1 (rw g (rw e refl)))

else_if_word : (word : Text) → IsElseIf word → BracketWord word
unfolding span marked headed
else_if_word word (w, gap, same) t n e = subst (λ k. span (k ++ t) ≡ Some (kind.Head, length k + n)) (sym same) (rw (append_assoc w (codes "if") t) (rw (else_if w t n gap e) (ap (λ m. Some (kind.Head, m)) size)))
  where
    size : 5 + ((length w + 2) + n) ≡ length (codes "@else" ++ (w ++ codes "if")) + n
    size = omega (arith, length-append w (codes "if"))

bracket_any : (word : Text) → (is_one_of bracketed_words word ≡ true) ⊎ IsElseIf word → BracketWord word
bracket_any word (inl e) = bracket_word word e
bracket_any word (inr e) = else_if_word word e

pub head_spans : {a z : Text} → IsHead a z → Spans kind.Head a z
head_spans (IsHead.braced word w z e h) = ap span regroup ∙ brace_word word e w z h ∙ ap (λ n. Some (kind.Head, n)) size
  where
    regroup : (word ++ (w ++ (123 ∷ []))) ++ z ≡ word ++ (w ++ (123 ∷ z))
    regroup = append_assoc word (w ++ (123 ∷ [])) z ∙ ap (λ k. word ++ k) (append_assoc w (123 ∷ []) z)

    size : length word + (length w + 1) ≡ length (word ++ (w ++ (123 ∷ [])))
    size = omega (arith, length-append word (w ++ (123 ∷ [])), length-append w (123 ∷ []))
head_spans (IsHead.bracketed word w x v z e h i f) = ap span regroup ∙ bracket_any word e (bracket_text w x v z) _ (bracket_is w x v z h i f) ∙ ap (λ n. Some (kind.Head, n)) size
  where
    regroup : (word ++ bracket_text w x v []) ++ z ≡ word ++ bracket_text w x v z
    regroup = simp append_assoc refl

    size : length word + ((length w + 1) + ((length x + 1) + (length v + 1))) ≡ length (word ++ bracket_text w x v [])
    size = omega (arith, length-append word (bracket_text w x v []), length-append w (40 ∷ (x ++ (41 ∷ (v ++ (123 ∷ []))))), length-append x (41 ∷ (v ++ (123 ∷ []))), length-append v (123 ∷ []))

-- ---- @let

name_at : (b : ℕ) (z : Text) → is_letter b ≡ true → name_len (b ∷ z) ≡ prefix_len is_word (b ∷ z)
name_at b z e = rw e refl

name_is : (n z : Text) → IsName n → at_front is_word z ≡ false → (name_len (n ++ z) ≡ length n) × (nat_lt 0 (length n) ≡ true)
name_is [] z h e = absurd (no_true h)
name_is (b ∷ n) z h e =
    let g : (is_letter b ≡ true) × (all is_word n ≡ true) = both_true (is_letter b) (all is_word n) h in
    (name_at b (n ++ z) g.0 ∙ run_len is_word (b ∷ n) z (word_all b n g.0 g.1) e, positive (length n))

equals_is : (v y : Text) → IsBlank v → equals_len (v ++ (61 ∷ y)) ≡ Some (length v + 1)
equals_is v y h = rw (blank_is v 61 y h refl) (rw (drop-append_seam v (61 ∷ y)) refl)

named_is : (n v y : Text) → IsName n → IsBlank v → named_len (n ++ (v ++ (61 ∷ y))) ≡ Some (length n + (length v + 1))
named_is n v y h i = let g = name_is n (v ++ (61 ∷ y)) h (blanks_no_word v 61 y i refl) in rw g.0 (rw g.1 (rw (drop-append_seam n (v ++ (61 ∷ y))) (ap (later (length n)) (equals_is v y i))))

letter_no_blank : (b : ℕ) → is_letter b ≡ true → is_blank b ≡ false
letter_no_blank b e = grind arith

name_no_blank : (n z : Text) → IsName n → at_front is_blank (n ++ z) ≡ false
name_no_blank [] z h = absurd (no_true h)
name_no_blank (b ∷ n) z h = letter_no_blank b (both_true (is_letter b) (all is_word n) h).0

front_is : (w n v y : Text) → IsGap w → IsName n → IsBlank v → front_len (w ++ (n ++ (v ++ (61 ∷ y)))) ≡ Some (length w + (length n + (length v + 1)))
unfolding front_len
front_is w n v y h i j =
    let g = gap_blank w h in
    rw (run_len is_blank w (n ++ (v ++ (61 ∷ y))) g.0 (name_no_blank n (v ++ (61 ∷ y)) i)) (rw g.1 (rw (drop-append_seam w (n ++ (v ++ (61 ∷ y)))) (ap (later (length w)) (named_is n v y i j))))

ended_is : (t z : Text) → EndsAfter t (59 ∷ z) → ended_len (t ++ (59 ∷ z)) ≡ Some (length t + 1)
unfolding ended_len
ended_is t z e = rw e (rw (drop-append_seam t (59 ∷ z)) refl)

let_word : (t : Text) (n : ℕ) → let_len t ≡ Some n → span (codes "@let" ++ t) ≡ Some (kind.Let, 4 + n)
unfolding span marked headed
let_word t n e = rw e refl

let_is : (w n v t z : Text) → IsGap w → IsName n → IsBlank v → EndsAfter t (59 ∷ z) → let_len (w ++ (n ++ (v ++ (61 ∷ (t ++ (59 ∷ z)))))) ≡ Some ((length w + (length n + (length v + 1))) + (length t + 1))
unfolding let_len
let_is w n v t z h i j e = rw (front_is w n v (t ++ (59 ∷ z)) h i j) (ap (λ k. later (length w + (length n + (length v + 1))) (ended_len k)) past ∙ ap (later (length w + (length n + (length v + 1)))) (ended_is t z e))
  where
    front : Text
    front = w ++ (n ++ (v ++ (61 ∷ [])))

    size : length w + (length n + (length v + 1)) ≡ length front
    size = omega (arith, length-append w (n ++ (v ++ (61 ∷ []))), length-append n (v ++ (61 ∷ [])), length-append v (61 ∷ []))

    regroup : w ++ (n ++ (v ++ (61 ∷ (t ++ (59 ∷ z))))) ≡ front ++ (t ++ (59 ∷ z))
    regroup = simp append_assoc refl

    past : drop (length w + (length n + (length v + 1))) (w ++ (n ++ (v ++ (61 ∷ (t ++ (59 ∷ z)))))) ≡ t ++ (59 ∷ z)
    past = ap (drop (length w + (length n + (length v + 1)))) regroup ∙ after_blank front (t ++ (59 ∷ z)) _ size

let_spans : (x t n z : Text) → IsLetFront x n → EndsAfter t (59 ∷ z) → Spans kind.Let (x ++ (t ++ (59 ∷ []))) z
let_spans x t n z (w, v, same, h, i, j) e =
    subst (λ k. Spans kind.Let (k ++ (t ++ (59 ∷ []))) z) (sym same) (ap span regroup ∙ let_word _ _ (let_is w n v t z h j i e) ∙ ap (λ m. Some (kind.Let, m)) size)
  where
    regroup : ((codes "@let" ++ (w ++ (n ++ (v ++ (61 ∷ []))))) ++ (t ++ (59 ∷ []))) ++ z ≡ codes "@let" ++ (w ++ (n ++ (v ++ (61 ∷ (t ++ (59 ∷ z))))))
    regroup = simp append_assoc refl

    size : 4 + ((length w + (length n + (length v + 1))) + (length t + 1)) ≡ length ((codes "@let" ++ (w ++ (n ++ (v ++ (61 ∷ []))))) ++ (t ++ (59 ∷ [])))
    size = omega (arith, length-append (w ++ (n ++ (v ++ (61 ∷ [])))) (t ++ (59 ∷ [])), length-append w (n ++ (v ++ (61 ∷ []))), length-append n (v ++ (61 ∷ [])), length-append v (61 ∷ []), length-append t (59 ∷ []))

close_spans : (z : Text) → Spans kind.Close (125 ∷ []) z
unfolding span marked
close_spans z = refl

-- ---- the law

pub span_is : (k : TokenKind) (a z : Text) → IsSpan k a z → span (a ++ z) ≡ Some (k, length a)
span_is kind.Literal [] z h = absurd h
span_is kind.Literal (b ∷ a) z h = literal_spans b a z h.0 h.1
span_is kind.Interpolation a z (t, same, first) = subst (λ x. Spans kind.Interpolation x z) (sym same) (interpolation_spans t z first)
span_is kind.Start a z (t, same, lower, first) = subst (λ x. Spans kind.Start x z) (sym same) (start_spans t z lower first)
span_is kind.End a z (t, same, first) = subst (λ x. Spans kind.End x z) (sym same) (end_spans t z first)
span_is kind.Comment a z (t, same, first) = subst (λ x. Spans kind.Comment x z) (sym same) (comment_spans t z first)
span_is kind.Head a z h = head_spans h
span_is kind.Close a z h = subst (λ x. Spans kind.Close x z) (sym h) (close_spans z)
span_is kind.Let a z (x, t, n, same, front, e) = subst (λ k. Spans kind.Let k z) (sym same) (let_spans x t n z front e)
