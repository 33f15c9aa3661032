-- Where the pieces of a head end: expressions, and the words that stand before them or alone.
use Rattle.std.proofs.Common.{◌≡◌, ℕ, suc, ◌+◌, ◌<◌, ◌≤◌, List, [], ◌∷◌, ◌++◌, length, drop, codes, refl, sym, ◌∙◌, ap, subst, append_assoc, arith, length-append, inl, inr}
use Rattle.std.proofs.lemmas.List.{append-nil}
use Rattle.std.proofs.Math.Seq.{drop-append_seam}
use Rattle.std.specs.Prelude.{Bool, true, false, cond, ◌==◌, ◌⊎◌, Option, Some, None}
use Rattle.std.specs.List.{prefix_len}
use Rattle.std.specs.Option.{option_map}
use Rattle.ng_ast.specs.declared.Place.{Place}
use Rattle.ng_ast.specs.declared.Expr.{Expr}
use Rattle.ng_ast.specs.declared.ForHead.{ForHead}
use Rattle.ng_tokens.specs.declared.kinds.Shape.{Shape}
use Rattle.ng_tokens.specs.declared.kinds.Shape.TheVariants as form
use Rattle.ng_tokens.specs.declared.kinds.Sign.TheVariants as sign
use Rattle.ng_tokens.specs.Lexis.{Text, is_blank, is_digit, is_letter, is_word, all, begins, same_text, is_one_of}
use Rattle.ng_tokens.specs.Scan.{signs, shape}
use Rattle.ng_exprs.specs.Limits.{after}
use Rattle.ng_exprs.specs.Ends.{IsEnd, stops, kind_by, end_from, later}
use Rattle.ng_exprs.specs.Reading.{ReadsExpr}
use Rattle.ng_exprs.proofs.Closing.{ends, advance_over, advance_stop}
use Rattle.ng_lex.specs.Words.{IsBlank, IsGap, IsName, Spaced, IsOneName, EndsWord, at_front}
use Rattle.ng_lex.specs.Heads.{IsAs, ReadsTest, row_variables, IsPair, ReadsPairs, IsLetPart, ReadsParts, IsRow, ReadsFor, EndsAfter}
use Rattle.ng_lex.specs.Spans.{Fills}
use Rattle.ng_lex.proofs.Texts.{both_true, and_true, no_true, same_byte, later_suc, later_none, later_more, begins_is, run_len}

-- ---- over white space and words

pub end_blank : (w z : Text) → IsBlank w → end_from 0 0 (w ++ z) ≡ later (length w) (end_from 0 0 z)
unfolding end_from
end_blank [] z h = sym (later_none (end_from 0 0 z))
end_blank (b ∷ w) z h = let g = both_true (is_blank b) (all is_blank w) h in rw g.0 (ap (option_map suc) (end_blank w z g.1) ∙ later_suc (length w) (end_from 0 0 z))

letter_no_digit : (b : ℕ) → is_letter b ≡ true → is_digit b ≡ false
letter_no_digit b e = grind arith

letter_word : (b : ℕ) → is_letter b ≡ true → is_word b ≡ true
letter_word b e = grind arith

letter_no_blank : (b : ℕ) → is_letter b ≡ true → is_blank b ≡ false
letter_no_blank b e = grind arith

-- over a token that opens and ends nothing
end_token : (b : ℕ) (a z : Text) (s : Shape) → is_blank b ≡ false → shape ((b ∷ a) ++ z) ≡ Some (s, length (b ∷ a)) → stops (kind_by s) 0 ≡ false → after (kind_by s) 0 ≡ 0
    → end_from 0 0 ((b ∷ a) ++ z) ≡ later (length (b ∷ a)) (end_from 0 0 z)
end_token b a z s e f g h =
    advance_over 0 ((b ∷ a) ++ z) (s, length (b ∷ a)) (omega arith) e f g (omega arith, omega (arith, length-append (b ∷ a) z))
    ∙ ap (λ d. later (length (b ∷ a)) (end_from d 0 (drop (length (b ∷ a)) ((b ∷ a) ++ z)))) h ∙ ap (λ t. later (length (b ∷ a)) (end_from 0 0 t)) (drop-append_seam (b ∷ a) z)

pub word_all : (b : ℕ) (a : Text) → is_letter b ≡ true → all is_word a ≡ true → all is_word (b ∷ a) ≡ true
word_all b a l w = rw (letter_word b l) w

name_front : (b : ℕ) (z : Text) → is_letter b ≡ true → shape (b ∷ z) ≡ Some (form.Name, prefix_len is_word (b ∷ z))
unfolding shape
name_front b z l = rw (letter_no_digit b l) (rw l refl)

name_shape : (b : ℕ) (a z : Text) → is_letter b ≡ true → all is_word a ≡ true → EndsWord z → shape ((b ∷ a) ++ z) ≡ Some (form.Name, length (b ∷ a))
name_shape b a z l w e = name_front b (a ++ z) l ∙ ap (λ n. Some (form.Name, n)) (run_len is_word (b ∷ a) z (word_all b a l w) e)

pub end_name : (n z : Text) → IsName n → EndsWord z → end_from 0 0 (n ++ z) ≡ later (length n) (end_from 0 0 z)
end_name [] z h e = absurd (cc)
end_name (b ∷ a) z h e = let g = both_true (is_letter b) (all is_word a) h in end_token b a z form.Name (letter_no_blank b g.0) (name_shape b a z g.0 g.1 e) refl refl

-- ---- over the signs of pairs

comma_shape : (z : Text) → shape (44 ∷ z) ≡ Some (form.Sign sign.Comma, 1)
unfolding shape signs
comma_shape z = refl

end_comma : (z : Text) → end_from 0 0 (44 ∷ z) ≡ later 1 (end_from 0 0 z)
end_comma z = end_token 44 [] z (form.Sign sign.Comma) refl (comma_shape z) refl refl

equals_shape : (b : ℕ) (z : Text) → (61 == b) ≡ false → shape (61 ∷ b ∷ z) ≡ Some (form.Sign sign.Assign, 1)
unfolding shape signs
equals_shape b z e = rw e refl

end_equals : (b : ℕ) (z : Text) → (61 == b) ≡ false → end_from 0 0 (61 ∷ b ∷ z) ≡ later 1 (end_from 0 0 (b ∷ z))
end_equals b z e = end_token 61 [] (b ∷ z) (form.Sign sign.Assign) refl (equals_shape b z e) refl refl

variable_shape : (a z : Text) → all is_word a ≡ true → EndsWord z → shape ((36 ∷ a) ++ z) ≡ Some (form.Variable, length (36 ∷ a))
unfolding shape
variable_shape a z w e = ap (λ n. Some (form.Variable, suc n)) (run_len is_word a z w e)

-- a variable is `$` and a word
abbrev IsDollar : Text → Type 0
IsDollar v = (a : Text) × (v ≡ 36 ∷ a) × (all is_word a ≡ true)

end_variable : (v z : Text) → IsDollar v → EndsWord z → end_from 0 0 (v ++ z) ≡ later (length v) (end_from 0 0 z)
end_variable v z (a, e, w) h = subst (λ k. end_from 0 0 (k ++ z) ≡ later (length k) (end_from 0 0 z)) (sym e) (end_token 36 a z form.Variable refl (variable_shape a z w h) refl refl)

no_more : (r : Text) → length r ≡ 0 → r ≡ []
no_more [] e = refl
no_more (b ∷ r) e = absurd (omega arith)

pub same_is : (w a : Text) → same_text w a ≡ true → a ≡ w
same_is w a e =
    let g = and_true (begins w a) (length w == length a) e in
    let h : (r : Text) × (a ≡ w ++ r) = begins_is w a g.0 in
    let n : length w ≡ length a = same_byte (length w) (length a) g.1 in
    let k : length h.0 ≡ 0 = omega (arith, n, ap length h.1, length-append w h.0) in
    h.1 ∙ ap (λ r. w ++ r) (no_more h.0 k) ∙ append-nil w

-- each word of the table passes
abbrev pub EachOf : (Text → Type 0) → List Text → Type 0
EachOf P [] = Unit {0}
EachOf P (w ∷ ws) = P w × EachOf P ws

pub one_of : (P : Text → Type 0) (ws : List Text) → EachOf P ws → (a : Text) → is_one_of ws a ≡ true → P a
one_of P [] h a e = absurd (no_true e)
one_of P (w ∷ ws) h a e = by (same_text w a) refl e (λ g. one_of P ws h.1 a g)
  where
    by : (v : Bool) → same_text w a ≡ v → cond v true (is_one_of ws a) ≡ true → (is_one_of ws a ≡ true → P a) → P a
    by true f g go = subst P (sym (same_is w a f)) h.0
    by false f g go = go g

dollar : (v : Text) → is_one_of row_variables v ≡ true → IsDollar v
unfolding row_variables
dollar v e = one_of IsDollar row_variables ((_, refl, refl), ((_, refl, refl), ((_, refl, refl), ((_, refl, refl), ((_, refl, refl), ((_, refl, refl), tt)))))) v e

-- ---- pieces

blank_small : (b : ℕ) → is_blank b ≡ true → b ≤ 32
blank_small b e = grind arith

small_no_word : (b : ℕ) → b ≤ 32 → is_word b ≡ false
small_no_word b e = grind arith

blank_no_word : (b : ℕ) → is_blank b ≡ true → is_word b ≡ false
blank_no_word b e = small_no_word b (blank_small b e)

front_no_word : (t : Text) → at_front is_blank t ≡ true → (z : Text) → EndsWord (t ++ z)
front_no_word [] e z = absurd (no_true e)
front_no_word (b ∷ t) e z = blank_no_word b e

-- white space, then a byte that is in no word
pub blanks_no_word : (w : Text) (c : ℕ) (z : Text) → IsBlank w → is_word c ≡ false → EndsWord (w ++ (c ∷ z))
blanks_no_word [] c z h e = e
blanks_no_word (b ∷ w) c z h e = blank_no_word b (both_true (is_blank b) (all is_blank w) h).0

-- `,`, `)` or `;`
abbrev IsMark : ℕ → Type 0
IsMark c = (c ≡ 44) ⊎ IsEnd c

mark_no_word : (c : ℕ) → IsMark c → is_word c ≡ false
mark_no_word c (inl e) = rw e refl
mark_no_word c (inr (inl e)) = rw e refl
mark_no_word c (inr (inr e)) = rw e refl

end_mark : (c : ℕ) → IsEnd c → is_word c ≡ false
end_mark c e = mark_no_word c (inr e)

closing_shape : (z : Text) → shape (41 ∷ z) ≡ Some (form.Sign sign.CloseRound, 1)
unfolding shape signs
closing_shape z = refl

semicolon_shape : (z : Text) → shape (59 ∷ z) ≡ Some (form.Sign sign.Semicolon, 1)
unfolding shape signs
semicolon_shape z = refl

end_here : (c : ℕ) (z : Text) → IsEnd c → end_from 0 0 (c ∷ z) ≡ Some 0
end_here c z (inl e) = rw e (advance_stop 0 (41 ∷ z) (form.Sign sign.CloseRound, 1) (omega arith) refl (closing_shape z) refl)
end_here c z (inr e) = rw e (advance_stop 0 (59 ∷ z) (form.Sign sign.Semicolon, 1) (omega arith) refl (semicolon_shape z) refl)

-- The piece leads over itself, where this comes after it.
abbrev Over : Text → Text → Type 0
Over t z = end_from 0 0 (t ++ z) ≡ later (length t) (end_from 0 0 z)

over_append : (x y z : Text) → Over x (y ++ z) → Over y z → Over (x ++ y) z
over_append x y z h i = ap (end_from 0 0) (append_assoc x y z) ∙ h ∙ ap (later (length x)) i ∙ later_more (length x) (length y) (end_from 0 0 z) ∙ ap (λ n. later n (end_from 0 0 z)) (sym (length-append x y))

over_ends : (t : Text) (c : ℕ) (z : Text) → IsEnd c → Over t (c ∷ z) → EndsAfter t (c ∷ z)
over_ends t c z e h = let n : length t + 0 ≡ length t = omega arith in h ∙ ap (later (length t)) (end_here c z e) ∙ ap Some n

ends_over : (t : Text) (c : ℕ) (z : Text) → IsEnd c → EndsAfter t (c ∷ z) → Over t (c ∷ z)
ends_over t c z e h = let n : length t + 0 ≡ length t = omega arith in h ∙ ap Some (sym n) ∙ ap (later (length t)) (sym (end_here c z e))

-- a name with white space round it
over_name : (t n : Text) (c : ℕ) (z : Text) → IsOneName t n → is_word c ≡ false → Over t (c ∷ z)
over_name t n c z ((w, v, e, bw, bv), i) k =
    subst (λ u. Over u (c ∷ z)) (sym e) (over_append w (n ++ v) (c ∷ z) (end_blank w ((n ++ v) ++ (c ∷ z)) bw)
    (over_append n v (c ∷ z) (end_name n (v ++ (c ∷ z)) i (blanks_no_word v c z bv k)) (end_blank v (c ∷ z) bv)))

no_equals : (b : ℕ) → is_blank b ≡ true → (61 == b) ≡ false
no_equals b e = grind arith

-- `=`, before white space and a variable
over_equals : (w v : Text) (z : Text) → IsBlank w → IsDollar v → end_from 0 0 (61 ∷ (w ++ (v ++ z))) ≡ later 1 (end_from 0 0 (w ++ (v ++ z)))
over_equals [] v z h (a, e, i) = subst (λ k. end_from 0 0 (61 ∷ (k ++ z)) ≡ later 1 (end_from 0 0 (k ++ z))) (sym e) (end_equals 36 (a ++ z) refl)
over_equals (b ∷ w) v z h d = end_equals b (w ++ (v ++ z)) (no_equals b (both_true (is_blank b) (all is_blank w) h).0)

over_variable : (y v : Text) (c : ℕ) (z : Text) → Spaced y v → IsDollar v → is_word c ≡ false → end_from 0 0 (61 ∷ (y ++ (c ∷ z))) ≡ later (length (61 ∷ y)) (end_from 0 0 (c ∷ z))
over_variable y v c z (w, u, e, bw, bu) d k = subst (λ x. end_from 0 0 (61 ∷ (x ++ (c ∷ z))) ≡ later (length (61 ∷ x)) (end_from 0 0 (c ∷ z))) (sym e) whole
  where
    spaced : Over (w ++ (v ++ u)) (c ∷ z)
    spaced = over_append w (v ++ u) (c ∷ z) (end_blank w ((v ++ u) ++ (c ∷ z)) bw) (over_append v u (c ∷ z) (end_variable v (u ++ (c ∷ z)) d (blanks_no_word u c z bu k)) (end_blank u (c ∷ z) bu))

    regroup : (w ++ (v ++ u)) ++ (c ∷ z) ≡ w ++ (v ++ (u ++ (c ∷ z)))
    regroup = append_assoc w (v ++ u) (c ∷ z) ∙ ap (λ x. w ++ x) (append_assoc v u (c ∷ z))

    size : (n : ℕ) → 1 + n ≡ suc n
    size n = omega arith

    whole : end_from 0 0 (61 ∷ ((w ++ (v ++ u)) ++ (c ∷ z))) ≡ later (length (61 ∷ (w ++ (v ++ u)))) (end_from 0 0 (c ∷ z))
    whole =
        ap (λ x. end_from 0 0 (61 ∷ x)) regroup ∙ over_equals w v (u ++ (c ∷ z)) bw d ∙ ap (λ x. later 1 (end_from 0 0 x)) (sym regroup) ∙ ap (later 1) spaced
        ∙ later_more 1 (length (w ++ (v ++ u))) (end_from 0 0 (c ∷ z)) ∙ ap (λ n. later n (end_from 0 0 (c ∷ z))) (size (length (w ++ (v ++ u))))

over_pair : (t n v : Text) (c : ℕ) (z : Text) → IsPair t n v → IsMark c → Over t (c ∷ z)
over_pair t n v c z (x, y, e, name, sp, row) k =
    subst (λ u. Over u (c ∷ z)) (sym e) (over_append x (61 ∷ y) (c ∷ z) (over_name x n 61 (y ++ (c ∷ z)) name refl) (over_variable y v c z sp (dollar v row) (mark_no_word c k)))

over_pairs : {t : Text} {vs : List (Text × Text)} → ReadsPairs t vs → (c : ℕ) (z : Text) → IsEnd c → Over t (c ∷ z)
over_pairs (ReadsPairs.last_pair t n v h) c z e = over_pair t n v c z h (inr e)
over_pairs (ReadsPairs.next_pair t u n v h more) c z e =
    over_append t (44 ∷ u) (c ∷ z) (over_pair t n v 44 (u ++ (c ∷ z)) h (inl refl)) (over_append (44 ∷ []) u (c ∷ z) (end_comma (u ++ (c ∷ z))) (over_pairs more c z e))

-- white space and a word, after which no word goes on
over_word : (w n z : Text) → IsBlank w → IsName n → EndsWord z → Over (w ++ n) z
over_word w n z h i e = over_append w n z (end_blank w (n ++ z) h) (end_name n z i e)

over_worded : (w n t z : Text) → IsBlank w → IsName n → EndsWord (t ++ z) → Over t z → Over (w ++ (n ++ t)) z
over_worded w n t z h i e o = over_append w (n ++ t) z (end_blank w ((n ++ t) ++ z) h) (over_append n t z (end_name n (t ++ z) i e) o)

let_ends : (u : Text) (vs : List (Text × Text)) → IsLetPart u vs → (c : ℕ) (z : Text) → IsEnd c → EndsAfter u (c ∷ z)
let_ends u vs (w, t, e, bw, front, pairs) c z k =
    over_ends u c z k (subst (λ x. Over x (c ∷ z)) (sym e) (over_worded w (codes "let") t (c ∷ z) bw refl (front_no_word t front (c ∷ z)) (over_pairs pairs c z k)))

as_ends : (u n : Text) → IsAs u n → (c : ℕ) (z : Text) → IsEnd c → EndsAfter u (c ∷ z)
as_ends u n (w, t, e, bw, front, name) c z k =
    over_ends u c z k (subst (λ x. Over x (c ∷ z)) (sym e) (over_worded w (codes "as") t (c ∷ z) bw refl (front_no_word t front (c ∷ z)) (over_name t n c z name (end_mark c k))))

word_front : (t z : Text) → EndsWord t → 0 < length t → EndsWord (t ++ z)
word_front [] z e h = absurd (omega arith)
word_front (b ∷ t) z e h = e

-- ---- what fills the brackets of a head

-- whatever comes after it, an expression there ends after the piece
abbrev pub IsPiece : Text → Type 0
IsPiece t = (c : ℕ) (z : Text) → IsEnd c → EndsAfter t (c ∷ z)

pub expr_piece : (p : Place) (t : Text) (a : Expr) → ReadsExpr false p t a → IsPiece t
expr_piece p t a h = λ c z e. ends p t a c z h e

pub fills_one : (t : Text) → IsPiece t → (z : Text) → Fills t z
fills_one t h z = Fills.last_piece t z (h 41 z (inl refl))

fills_more : (t x : Text) → IsPiece t → (z : Text) → Fills x z → Fills (t ++ (59 ∷ x)) z
fills_more t x h z f = Fills.next_piece t x z (h 59 (x ++ (41 ∷ z)) (inr refl)) f

pub test_fills : (p : Place) (x : Text) (a : Expr) (n : Option Text) → ReadsTest p x a n → (z : Text) → Fills x z
test_fills p x a None h z = fills_one x (expr_piece p x a h) z
test_fills p x a (Some n) (t, u, e, reads, named) z = subst (λ k. Fills k z) (sym e) (fills_more t u (expr_piece p t a reads) z (fills_one u (as_ends u n named) z))

-- words before a piece are part of it
before_piece : (a t : Text) → ((z : Text) → EndsWord (t ++ z) → Over a (t ++ z)) → IsPiece t → ((c : ℕ) (z : Text) → IsEnd c → EndsWord (t ++ (c ∷ z))) → IsPiece (a ++ t)
before_piece a t over h word = λ c z e. over_ends (a ++ t) c z e (over_append a t (c ∷ z) (over (c ∷ z) (word c z e)) (ends_over t c z e (h c z e)))

front_word : (t : Text) → EndsWord t → (c : ℕ) (z : Text) → IsEnd c → EndsWord (t ++ (c ∷ z))
front_word [] h c z e = end_mark c e
front_word (b ∷ t) h c z e = h

track_piece : (p : Place) (w t : Text) (a : Expr) → IsBlank w → EndsWord t → ReadsExpr false p t a → IsPiece ((w ++ codes "track") ++ t)
track_piece p w t a blank word h = before_piece (w ++ codes "track") t (λ z e. over_word w (codes "track") (t ++ z) blank refl e) (expr_piece p t a h) (front_word t word)

parts_fill : {p : Place} {x : Text} {track : Option Expr} {vs : List (Text × Text)} → ReadsParts p x track vs → (t : Text) → IsPiece t → (z : Text) → Fills (t ++ x) z
parts_fill ReadsParts.no_part t h z = subst (λ k. Fills k z) (sym (append-nil t)) (fills_one t h z)
parts_fill (ReadsParts.track_part {p = p} {e = a} w u x blank word reads more) t h z =
    let same : (w ++ codes "track" ++ u) ++ x ≡ w ++ (codes "track" ++ (u ++ x)) = simp append_assoc refl in
    subst (λ k. Fills (t ++ (59 ∷ k)) z) same (fills_more t ((w ++ codes "track" ++ u) ++ x) h z (parts_fill more (w ++ codes "track" ++ u) (track_piece _ w u a blank word reads) z))
parts_fill (ReadsParts.let_part {vs = vs} u x part more) t h z = fills_more t (u ++ x) h z (parts_fill more u (let_ends u vs part) z)

row_over : (a n y z : Text) → IsRow a n y → EndsWord z → Over a z
row_over a n y z (w, v, e, blank, gap, name, word) k = subst (λ x. Over x z) (sym e) (over_append w (n ++ (v ++ codes "of")) z (end_blank w _ blank) (named v gap))
  where
    named : (v : Text) → IsGap v → Over (n ++ (v ++ codes "of")) z
    named [] gap = absurd gap
    named (b ∷ v) gap =
        over_append n ((b ∷ v) ++ codes "of") z (end_name n _ name (blank_no_word b (both_true (is_blank b) (all is_blank v) gap).0)) (over_word (b ∷ v) (codes "of") z gap refl k)

front_any : (t y : Text) → EndsWord (t ++ y) → (c : ℕ) (z : Text) → IsEnd c → EndsWord (t ++ (c ∷ z))
front_any [] y h c z e = end_mark c e
front_any (b ∷ t) y h c z e = h

row_word : (a n y : Text) → IsRow a n y → EndsWord y
row_word a n y (w, v, e, blank, gap, name, word) = word

pub for_fills : (p : Place) (x : Text) (head : ForHead) → ReadsFor p x head → (z : Text) → Fills x z
for_fills p x head (a, t, y, e, row, reads, parts) z =
    let same : (a ++ t) ++ y ≡ a ++ (t ++ y) = append_assoc a t y in
    let piece : IsPiece (a ++ t) = before_piece a t (λ u k. row_over a head.row (t ++ y) (t ++ u) row k) (expr_piece _ t head.list reads) (front_any t y (row_word a head.row (t ++ y) row)) in
    subst (λ k. Fills k z) (same ∙ sym e) (parts_fill parts (a ++ t) piece z)
