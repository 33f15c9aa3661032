-- How parts begin, and what the beginning says of them.
use Rattle.std.proofs.Common.{◌≡◌, ℕ, [], ◌∷◌, ◌++◌, codes, refl, sym, ◌∙◌, ap, subst, append_assoc, arith, inl, inr}
use Rattle.std.specs.Prelude.{true, false, if◌then◌else◌, ◌⊎◌}
use Rattle.ng_ast.specs.declared.Place.{Place}
use Rattle.ng_ast.specs.declared.Expr.{Expr}
use Rattle.ng_tokens.specs.Lexis.{Text, is_blank, is_word, all, begins, steps}
use Rattle.ng_exprs.specs.Reading.{ReadsExpr, OverText}
use Rattle.ng_lex.specs.declared.markup.Markup.{Markup}
use Rattle.ng_lex.specs.declared.markup.Markup.TheVariants as m
use Rattle.ng_lex.specs.declared.markup.Shape.{Shape}
use Rattle.ng_lex.specs.declared.markup.Shape.TheVariants as s
use Rattle.ng_lex.specs.declared.quotes.Quoting.TheVariants.{Outside}
use Rattle.ng_lex.specs.Words.{IsBlank, literal, First, at_front, opening, closing}
use Rattle.ng_lex.specs.Attributes.{differs}
use Rattle.ng_lex.specs.Heads.{Bracketed, Braced, IsElseIf, IsRow, IsLetFront, EndsAfter, OverFront, OverBracket, OverFor, OverParts}
use Rattle.ng_lex.specs.Lexis.{IsWritten}
use Rattle.ng_lex.specs.Heavy.{IsHeavy}
use Rattle.ng_heads.proofs.Texts.{first_byte, both_true, no_true, same_front, same_runs, all_append, all_weaker}
use Rattle.ng_heads.proofs.Names.{same_tail, gap_blank, blank_no_word, name_words, name_no_blank, first_once}
use Rattle.ng_heads.proofs.HeadLaws.{StartsEnd, all_at, expr_then, one_end, semicolon_ends}
use Rattle.ng_heads.proofs.ForLaws.{one_row}

-- ---- the way in which a part begins

-- a number for each way in which a part begins
abbrev pub way : Text → ℕ
way t = if begins (codes "@if") t then 1 else (if begins (codes "@else") t then 2 else (if begins (codes "@for") t then 3 else (if begins (codes "@empty") t then 4 else (
    if begins (codes "@switch") t then 5 else (if begins (codes "@case") t then 6 else (if begins (codes "@default") t then 7 else (if begins (codes "@let") t then 8 else (
    if begins (60 ∷ []) t then 9 else (if begins opening t then 10 else 0)))))))))

abbrev pub way_of : Markup → ℕ
way_of (m.Literal cs) = 0
way_of (m.Interpolation e) = 10
way_of m.Comment = 9
way_of (m.End tag) = 9
way_of (m.Single tag attrs) = 9
way_of (m.Start tag attrs) = 9
way_of (m.If e n) = 1
way_of (m.ElseIf e n) = 2
way_of m.Else = 2
way_of (m.For head) = 3
way_of m.Empty = 4
way_of (m.Switch e) = 5
way_of (m.Case e) = 6
way_of m.Default = 7
way_of (m.Let n e) = 8
way_of m.Close = 0
way_of (m.Heavy shape) = 0

abbrev pub way_of_shape : Shape → ℕ
way_of_shape s.Interpolation = 10
way_of_shape s.Tag = 9
way_of_shape s.If = 1
way_of_shape s.ElseIf = 2
way_of_shape s.For = 3
way_of_shape s.Switch = 5
way_of_shape s.Case = 6
way_of_shape s.Let = 8

bracket_way : (n : ℕ) (word a : Text) (p q : Place) (x : Text) → Bracketed p word a q x → ((z : Text) → way (word ++ z) ≡ n) → way a ≡ n
bracket_way n word a p q x b h = ap way b.is ∙ h _

pub written_way : (p : Place) (a : Text) (c : Markup) → IsWritten p a c → way a ≡ way_of c
written_way p a (m.Literal cs) h = absurd h
written_way p a (m.Interpolation e) (t, is, first, reads) = ap way is
written_way p a m.Comment (t, is, first) = ap way is
written_way p a (m.Single tag attrs) (x, closed, is, single, reads) = ap way is
written_way p a (m.Start tag attrs) (x, is, paired, reads) = ap way is
written_way p a (m.End tag) (w, is, paired, blank) = ap way is
written_way p a (m.If e n) (q, x, b, reads) = bracket_way 1 (codes "@if") a p q x b (λ z. refl)
written_way p a (m.ElseIf e n) (word, q, x, (w, gap, is), b, reads) = bracket_way 2 word a p q x b (λ z. ap (λ k. way (k ++ z)) is)
written_way p a m.Else (w, blank, is) = ap way is
written_way p a (m.For head) (q, x, b, reads) = bracket_way 3 (codes "@for") a p q x b (λ z. refl)
written_way p a m.Empty (w, blank, is) = ap way is
written_way p a (m.Switch e) (q, x, b, reads) = bracket_way 5 (codes "@switch") a p q x b (λ z. refl)
written_way p a (m.Case e) (q, x, b, reads) = bracket_way 6 (codes "@case") a p q x b (λ z. refl)
written_way p a m.Default (w, blank, is) = ap way is
written_way p a (m.Let n e) (x, t, is, (w, v, same, gap, blank, name), reads) = ap way is ∙ ap (λ k. way (k ++ (t ++ (59 ∷ [])))) same
written_way p a m.Close h = ap way h
written_way p a (m.Heavy shape) h = absurd h

pub heavy_way : (p : Place) (t : Text) (shape : Shape) → IsHeavy p t shape → way t ≡ way_of_shape shape
heavy_way p t s.Interpolation (x, r, is, first, over) = ap way is
heavy_way p t s.Tag (tag, x, is, h, over) = ap way is
heavy_way p t s.If (w, x, is, blank, over) = ap way is
heavy_way p t s.ElseIf (word, (v, gap, same), (w, x, is, blank, over)) = ap way is ∙ ap (λ k. way (k ++ (w ++ (40 ∷ x)))) same
heavy_way p t s.For (w, x, is, blank, over) = ap way is
heavy_way p t s.Switch (w, x, is, blank, over) = ap way is
heavy_way p t s.Case (w, x, is, blank, over) = ap way is
heavy_way p t s.Let (x, y, n, is, (w, v, same, gap, blank, name), over) = ap way is ∙ ap (λ k. way (k ++ y)) same

-- ---- `@else` and `@else if`

pub else_tail : {x y : Text} → codes "@else" ++ x ≡ codes "@else" ++ y → x ≡ y
else_tail e = same_tail 101 (same_tail 115 (same_tail 108 (same_tail 101 (same_tail 64 e))))

no_if : {x y : Text} → 123 ∷ x ≡ 105 ∷ y → ⊥
no_if e = let b : ◌≡◌ {A = ℕ} 123 105 = first_byte e in absurd (omega arith)

-- an `@else` is no `@else if`
pub else_apart : (a word y : Text) → Braced (codes "@else") a → IsElseIf word → (z : Text) → a ++ z ≡ word ++ y → ⊥
else_apart a word y (w, blank, is) (v, gap, same) z e =
    let whole : w ++ (123 ∷ z) ≡ v ++ (codes "if" ++ y) = else_tail (sym (ap (λ k. k ++ z) is ∙ ap (λ k. codes "@else" ++ k) (append_assoc w (123 ∷ []) z)) ∙ e ∙ ap (λ k. k ++ y) same ∙ ap (λ k. codes "@else" ++ k) (append_assoc v (codes "if") y)) in
    no_if (same_runs is_blank w v (123 ∷ z) (codes "if" ++ y) whole blank (gap_blank v gap) refl refl).1

-- the words of two texts with `@else if`
pub same_else : (word other x y : Text) → IsElseIf word → IsElseIf other → word ++ x ≡ other ++ y → word ≡ other
same_else word other x y (w, gap, is) (v, also, same) e =
    let whole : w ++ (codes "if" ++ x) ≡ v ++ (codes "if" ++ y) = else_tail (sym (ap (λ k. k ++ x) is ∙ ap (λ k. codes "@else" ++ k) (append_assoc w (codes "if") x)) ∙ e ∙ ap (λ k. k ++ y) same ∙ ap (λ k. codes "@else" ++ k) (append_assoc v (codes "if") y)) in
    is ∙ ap (λ k. codes "@else" ++ (k ++ codes "if")) (same_runs is_blank w v (codes "if" ++ x) (codes "if" ++ y) whole (gap_blank w gap) (gap_blank v also) refl refl).0 ∙ sym same

-- ---- brackets

last_round : (x y u v : Text) → x ++ (41 ∷ u) ≡ y ++ (41 ∷ v) → all (differs 41) u ≡ true → all (differs 41) v ≡ true → x ≡ y
last_round [] [] u v e h i = refl
last_round [] (c ∷ y) u v e h i = absurd (no_true (all_at (differs 41) y 41 v (ap (all (differs 41)) (sym (tail e)) ∙ h)))
  where
    tail : {b c : ℕ} {x y : Text} → b ∷ x ≡ c ∷ y → x ≡ y
    tail e = cc
last_round (c ∷ x) [] u v e h i = absurd (no_true (all_at (differs 41) x 41 u (ap (all (differs 41)) (tail e) ∙ i)))
  where
    tail : {b c : ℕ} {x y : Text} → b ∷ x ≡ c ∷ y → x ≡ y
    tail e = cc
last_round (c ∷ x) (d ∷ y) u v e h i =
    let s : c ≡ d = cc in
    let t : x ++ (41 ∷ u) ≡ y ++ (41 ∷ v) = cc in
    ap (λ k. k ∷ x) s ∙ ap (λ k. d ∷ k) (last_round x y u v t h i)

brace_free : (w : Text) → IsBlank w → all (differs 41) (w ++ (123 ∷ [])) ≡ true
brace_free w h = all_append (differs 41) w (123 ∷ []) (all_weaker is_blank (differs 41) blank_free w h) refl
  where
    blank_free : (b : ℕ) → is_blank b ≡ true → differs 41 b ≡ true
    blank_free b e = grind arith

pub one_bracket : (p q r : Place) (word a x y : Text) → Bracketed p word a q x → Bracketed p word a r y → (q ≡ r) × (x ≡ y)
one_bracket p q r word a x y h i =
    let hx : Text = x ++ (41 ∷ (h.before_brace ++ (123 ∷ []))) in
    let iy : Text = y ++ (41 ∷ (i.before_brace ++ (123 ∷ []))) in
    let outer = (same_front word word (h.before_round ++ (40 ∷ hx)) (i.before_round ++ (40 ∷ iy)) (sym h.is ∙ i.is) refl).1 in
    let g = same_runs is_blank h.before_round i.before_round (40 ∷ hx) (40 ∷ iy) outer h.blank_round i.blank_round refl refl in (
      h.at ∙ ap (λ k. steps p (word ++ (k ++ (40 ∷ [])))) g.0 ∙ sym i.at,
      last_round x y (h.before_brace ++ (123 ∷ [])) (i.before_brace ++ (123 ∷ [])) (same_tail 40 g.1) (brace_free h.before_brace h.blank_brace) (brace_free i.before_brace i.blank_brace),
    )

-- ---- what would be heavy

pub opening_tail : {x y : Text} → opening ++ x ≡ opening ++ y → x ≡ y
opening_tail e = same_tail 123 (same_tail 123 e)

pub interpolation_heavy : (p : Place) (t z : Text) → First literal closing t → IsHeavy p (opening ++ (t ++ (closing ++ z))) s.Interpolation → OverText false (steps p opening) t
interpolation_heavy p t z first (x, r, is, other, over) =
    let same : t ≡ x = first_once literal closing Outside t x z r (opening_tail is) first.1 first.0 other.1 other.0 in
    subst (OverText false (steps p opening)) (sym same) over

same_words : (word w x v y : Text) → IsBlank w → IsBlank v → word ++ (w ++ (40 ∷ x)) ≡ word ++ (v ++ (40 ∷ y)) → (w ≡ v) × (x ≡ y)
same_words word w x v y bw bv e =
    let g = same_runs is_blank w v (40 ∷ x) (40 ∷ y) (same_front word word (w ++ (40 ∷ x)) (v ++ (40 ∷ y)) e refl).1 bw bv refl refl in
    (g.0, same_tail 40 g.1)

pub bracket_heavy : (p : Place) (word w x : Text) → IsBlank w → OverBracket p word (word ++ (w ++ (40 ∷ x))) → OverFront (steps p (word ++ (w ++ (40 ∷ [])))) x
bracket_heavy p word w x blank (v, y, is, also, over) =
    let g = same_words word w x v y blank also is in
    subst (λ k. OverFront (steps p (word ++ (k ++ (40 ∷ [])))) x) (sym g.0) (subst (OverFront (steps p (word ++ (v ++ (40 ∷ []))))) (sym g.1) over)

pub else_heavy : (p : Place) (word w x : Text) → IsElseIf word → IsBlank w → IsHeavy p (word ++ (w ++ (40 ∷ x))) s.ElseIf → OverFront (steps p (word ++ (w ++ (40 ∷ [])))) x
else_heavy p word w x is blank (other, also, (v, y, same, gap, over)) =
    let one : other ≡ word = same_else other word (v ++ (40 ∷ y)) (w ++ (40 ∷ x)) also is (sym same) in
    bracket_heavy p word w x blank (subst (λ k. OverBracket p k (word ++ (w ++ (40 ∷ x)))) one (v, y, same, gap, over))

pub for_heavy : (p : Place) (w x : Text) → IsBlank w → IsHeavy p (codes "@for" ++ (w ++ (40 ∷ x))) s.For → OverFor (steps p (codes "@for" ++ (w ++ (40 ∷ [])))) x
for_heavy p w x blank (v, y, is, also, over) =
    let g = same_words (codes "@for") w x v y blank also is in
    subst (λ k. OverFor (steps p (codes "@for" ++ (k ++ (40 ∷ [])))) x) (sym g.0) (subst (OverFor (steps p (codes "@for" ++ (v ++ (40 ∷ []))))) (sym g.1) over)

pub front_heavy : (p : Place) (t z : Text) → EndsAfter t z → OverFront p (t ++ z) → OverText false p t
front_heavy p t z ends (x, y, is, also, over) = subst (OverText false p) (one_end x t y z also ends (sym is)).0 over

parts_start : {p : Place} {z : Text} → OverParts p z → StartsEnd z
parts_start (OverParts.in_track w x blank word over) = semicolon_ends _
parts_start (OverParts.after_let u z part over) = semicolon_ends _

-- the list of a `@for` is read and passes no limit
pub list_heavy : (p : Place) (a n t z : Text) (e : Expr) → IsRow a n (t ++ z) → ReadsExpr false (steps p a) t e → EndsAfter t z → StartsEnd z → (OverText false (steps p a) t → ⊥) → OverFor p (a ++ (t ++ z)) → OverParts (steps p (a ++ t)) z
list_heavy p a n t z e row reads ends start none (b, k, y, is, line, over) =
    let r = one_row a b n k (t ++ z) y row line is in
    by (r.0) (r.2) over
  where
    by : {b : Text} → {y : Text} → a ≡ b → t ++ z ≡ y → (OverFront (steps p b) y ⊎ ((x r : Text) × (d : Expr) × (y ≡ x ++ r) × ReadsExpr false (steps p b) x d × OverParts (steps p (b ++ x)) r)) → OverParts (steps p (a ++ t)) z
    by {b} {y} same rest (inl h) = absurd (none (front_heavy (steps p a) t z ends (subst (λ v. OverFront (steps p v) (t ++ z)) (sym same) (subst (OverFront (steps p b)) (sym rest) h))))
    by {b} {y} same rest (inr (x, r, d, e2, also, h)) =
        let g = expr_then (steps p a) (steps p b) t x z r e d reads also start (parts_start h) (rest ∙ e2) in
        subst (λ v. OverParts (steps p (v ++ t)) z) (sym same) (subst (λ v. OverParts (steps p (b ++ v)) z) (sym g.0) (subst (OverParts (steps p (b ++ x))) (sym g.1) h))

-- ---- @let

let_tail : {x y : Text} → codes "@let" ++ x ≡ codes "@let" ++ y → x ≡ y
let_tail e = same_tail 116 (same_tail 101 (same_tail 108 (same_tail 64 e)))

pub equals_stops : (v z : Text) → IsBlank v → at_front is_word (v ++ (61 ∷ z)) ≡ false
equals_stops [] z h = refl
equals_stops (b ∷ v) z h = blank_no_word b (both_true (is_blank b) (all is_blank v) h).0

pub one_let_front : (x y n k t r : Text) → IsLetFront x n → IsLetFront y k → x ++ t ≡ y ++ r → (x ≡ y) × (n ≡ k) × (t ≡ r)
one_let_front x y n k t r (w, v, is, gap, blank, name) (u, o, same, also, bare, other) e =
    let whole : w ++ (n ++ (v ++ (61 ∷ t))) ≡ u ++ (k ++ (o ++ (61 ∷ r))) = let_tail (sym (ap (λ j. j ++ t) is ∙ regroup w n v t) ∙ e ∙ ap (λ j. j ++ r) same ∙ regroup u k o r) in
    let gaps = same_runs is_blank w u (n ++ (v ++ (61 ∷ t))) (k ++ (o ++ (61 ∷ r))) whole (gap_blank w gap) (gap_blank u also) (name_no_blank n _ name) (name_no_blank k _ other) in
    let names = same_runs is_word n k (v ++ (61 ∷ t)) (o ++ (61 ∷ r)) gaps.1 (name_words n name) (name_words k other) (equals_stops v t blank) (equals_stops o r bare) in
    let ends = same_runs is_blank v o (61 ∷ t) (61 ∷ r) names.1 blank bare refl refl in (
      is ∙ ap (λ j. codes "@let" ++ (j ++ (n ++ (v ++ (61 ∷ []))))) gaps.0 ∙ ap (λ j. codes "@let" ++ (u ++ (j ++ (v ++ (61 ∷ []))))) names.0 ∙ ap (λ j. codes "@let" ++ (u ++ (k ++ (j ++ (61 ∷ []))))) ends.0 ∙ sym same,
      names.0,
      same_tail 61 ends.1,
    )
  where
    regroup : (w n v t : Text) → (codes "@let" ++ (w ++ (n ++ (v ++ (61 ∷ []))))) ++ t ≡ codes "@let" ++ (w ++ (n ++ (v ++ (61 ∷ t))))
    regroup w n v t = ap (λ j. codes "@let" ++ j) (append_assoc w (n ++ (v ++ (61 ∷ []))) t ∙ ap (λ j. w ++ j) (append_assoc n (v ++ (61 ∷ [])) t ∙ ap (λ j. n ++ j) (append_assoc v (61 ∷ []) t)))

pub let_heavy : (p : Place) (x n t : Text) → IsLetFront x n → IsHeavy p (x ++ t) s.Let → OverFront (steps p x) t
let_heavy p x n t front (y, r, k, is, also, over) =
    let g = one_let_front x y n k t r front also is in
    subst (λ j. OverFront (steps p j) t) (sym g.0) (subst (OverFront (steps p y)) (sym g.2) over)
