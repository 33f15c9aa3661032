-- Steps of the loops over a text.
use Rattle.std.proofs.Common.{◌≡◌, ℕ, zero, suc, ◌+◌, ◌<◌, ◌≤◌, [], ◌∷◌, ◌++◌, length, drop, get_or, codes, refl, sym, ◌∙◌, ap, subst, append_assoc, arith, length-append}
use Rattle.std.proofs.lemmas.List.{drop-drop}
use Rattle.std.specs.Prelude.{Bool, true, false, ◌==◌, nat_lt, Option, Some, None, slice_get}
use Rattle.std.specs.Str.{IsUtf8, IsCharBoundary}
use Rattle.std.proofs.lemmas.Str.{IsCharBoundary-at_seam, IsCharBoundary-after_ascii}
use Rattle.ng_tokens.specs.Lexis.{Text, is_blank, all, begins}
use Rattle.ng_tokens.proofs.Utf8.{after_ascii, ascii_blank}
use Rattle.ng_exprs.specs.Ends.{end_from, later}
use Rattle.ng_lex.specs.Span.{blank_len, round_len, bracket_len, else_by, else_len}
use Rattle.ng_lex.proofs.Texts.{both_true, same_byte, begins_is, later_more, Splits, run_split}
use Rattle.ng_lex.proofs.Complete.{round_then, round_step, after_blank}
use Rattle.ng_lex.proofs.Sound.{get_split, drop_split}

-- ---- what stands in round brackets

round_none_at : (z : Text) → 0 < length z → end_from 0 0 z ≡ None → round_len 0 z ≡ None
unfolding round_len
round_none_at [] h e = absurd (omega arith)
round_none_at (b ∷ z) h e = rw e refl

round_short : (z : Text) (n : ℕ) → 0 < length z → end_from 0 0 z ≡ Some n → slice_get z n ≡ None → round_len 0 z ≡ None
unfolding round_len
round_short [] n h e f = absurd (omega arith)
round_short (b ∷ z) n h e f = rw e (rw f refl)

pub round_by_byte : (z : Text) (n c : ℕ) → end_from 0 0 z ≡ Some n → slice_get z n ≡ Some c → round_len 0 z ≡ round_then c n (drop (n + 1) z)
round_by_byte z n c e f =
    let s : (x r : Text) × (z ≡ x ++ (c ∷ r)) × (length x ≡ n) = get_split z n c f in
    let rest : drop (n + 1) z ≡ s.1 = ap (drop (n + 1)) (s.2 ∙ sym (append_assoc s.0 (c ∷ []) s.1)) ∙ after_blank (s.0 ++ (c ∷ [])) s.1 (n + 1) (omega (arith, s.3, length-append s.0 (c ∷ []))) in
    ap (round_len 0) s.2 ∙ round_step s.0 c s.1 (ap (end_from 0 0) (sym s.2) ∙ e ∙ ap Some (sym s.3)) ∙ ap (λ m. round_then c m s.1) s.3 ∙ ap (round_then c n) (sym rest)

pub round_none : (t : Option ℕ) (at : ℕ) (z : Text) → later at (round_len 0 z) ≡ t → 0 < length z → end_from 0 0 z ≡ None → None ≡ t
round_none t at z i h e = ap (later at) (sym (round_none_at z h e)) ∙ i

pub round_past : (t : Option ℕ) (at : ℕ) (z : Text) (n : ℕ) → later at (round_len 0 z) ≡ t → 0 < length z → end_from 0 0 z ≡ Some n → slice_get z n ≡ None → None ≡ t
round_past t at z n i h e f = ap (later at) (sym (round_short z n h e f)) ∙ i

pub round_close : (t : Option ℕ) (at : ℕ) (z : Text) (n c : ℕ) → later at (round_len 0 z) ≡ t → end_from 0 0 z ≡ Some n → slice_get z n ≡ Some c → c ≡ 41 → Some ((at + n) + 1) ≡ t
round_close t at z n c i e f g =
    let h : round_len 0 z ≡ Some (n + 1) = round_by_byte z n c e f ∙ ap (λ d. round_then d n (drop (n + 1) z)) g in
    let k : (at + n) + 1 ≡ at + (n + 1) = omega arith in
    ap Some k ∙ ap (later at) (sym h) ∙ i

pub round_on : (t : Option ℕ) (at : ℕ) (z : Text) (n c : ℕ) → later at (round_len 0 z) ≡ t → end_from 0 0 z ≡ Some n → slice_get z n ≡ Some c → c ≡ 59 → later (at + (n + 1)) (round_len 0 (drop (n + 1) z)) ≡ t
round_on t at z n c i e f g =
    let h : round_len 0 z ≡ later (n + 1) (round_len 0 (drop (n + 1) z)) = round_by_byte z n c e f ∙ ap (λ d. round_then d n (drop (n + 1) z)) g in
    sym (later_more at (n + 1) (round_len 0 (drop (n + 1) z))) ∙ ap (later at) (sym h) ∙ i

differs : (b c : ℕ) → (b ≡ c → ⊥) → (b == c) ≡ false
differs b c h = by (b == c) refl
  where
    by : (v : Bool) → (b == c) ≡ v → v ≡ false
    by true e = absurd (h (same_byte b c e))
    by false e = refl

pub round_other : (t : Option ℕ) (at : ℕ) (z : Text) (n c : ℕ) → later at (round_len 0 z) ≡ t → end_from 0 0 z ≡ Some n → slice_get z n ≡ Some c → (c ≡ 41 → ⊥) → (c ≡ 59 → ⊥) → None ≡ t
round_other t at z n c i e f g h =
    let k : round_len 0 z ≡ None = round_by_byte z n c e f ∙ rw (differs c 41 g) (rw (differs c 59 h) refl) in
    ap (later at) (sym k) ∙ i

pub round_end : (t : Option ℕ) (at : ℕ) (z : Text) → later at (round_len 0 z) ≡ t → length z ≤ 0 → None ≡ t
unfolding round_len
round_end t at [] i h = i
round_end t at (b ∷ z) i h = absurd (omega arith)

-- ---- where a text may be cut

-- after this byte, which is one of ASCII
pub after_byte : (t : Text) (n c : ℕ) → slice_get t n ≡ Some c → c < 128 → IsUtf8 t → IsCharBoundary t (n + 1)
after_byte t n c e h u =
    let s : (x r : Text) × (t ≡ x ++ (c ∷ r)) × (length x ≡ n) = get_split t n c e in
    IsCharBoundary-after_ascii t n u (omega (arith, s.3, ap length s.2, length-append s.0 (c ∷ s.1))) (subst (λ d. d < 128) (sym (byte_of t n c e)) h)
  where
    byte_of : (t : Text) (n c : ℕ) → slice_get t n ≡ Some c → get_or t n 0 ≡ c
    byte_of [] n c e = absurd (cc)
    byte_of (b ∷ t) zero c e = cc
    byte_of (b ∷ t) (suc n) c e = byte_of t n c e

-- after white space and this byte
pub after_blank_byte : (t : Text) (n c : ℕ) → n < length t → begins (c ∷ []) (drop n t) ≡ true → c < 128 → IsUtf8 t → IsCharBoundary t (n + 1)
after_blank_byte t n c h e k u =
    let s : (x r : Text) × (t ≡ x ++ (c ∷ r)) × (length x ≡ n) = drop_split t n c e in
    after_byte t n c (subst (λ z. slice_get z n ≡ Some c) (sym s.2) (get_at s.0 s.1 n s.3)) k u
  where
    get_at : (x r : Text) (n : ℕ) → length x ≡ n → slice_get (x ++ (c ∷ r)) n ≡ Some c
    get_at [] r n l = ap (slice_get (c ∷ r)) (sym l)
    get_at (b ∷ x) r zero l = absurd (omega arith)
    get_at (b ∷ x) r (suc n) l = get_at x r n (omega arith)

-- after white space
pub after_blanks : (t : Text) → IsUtf8 t → IsCharBoundary t (blank_len t)
after_blanks t u =
    let s : Splits is_blank t (blank_len t) = run_split is_blank t in
    subst (λ n. IsCharBoundary t n) s.long (IsCharBoundary-at_seam t s.run s.rest s.is (past s.run s.rest s.passes (subst IsUtf8 s.is u)))
  where
    past : (w r : Text) → all is_blank w ≡ true → IsUtf8 (w ++ r) → IsUtf8 r
    past [] r e u = u
    past (b ∷ w) r e u = let g : (is_blank b ≡ true) × (all is_blank w ≡ true) = both_true (is_blank b) (all is_blank w) e in past w r g.1 (after_ascii b (w ++ r) (ascii_blank b g.0) u)

-- ---- the first place of a word

pub begins_within : (w z : Text) → begins w z ≡ true → length w ≤ length z
begins_within w z e = let r : (r : Text) × (z ≡ w ++ r) = begins_is w z e in omega (arith, ap length r.1, length-append w r.0)

-- ---- what stands after `@else`

else_if_by : (t : Text) (n : ℕ) (o : Option ℕ) → begins (123 ∷ []) (drop n t) ≡ false → (n ≡ 0 → ⊥) → begins (codes "if") (drop n t) ≡ true → o ≡ bracket_len (drop (n + 2) t) → later (n + 2) o ≡ else_by n t
else_if_by t zero o e h f g = absurd (h refl)
else_if_by t (suc n) o e h f g = rw e (rw (positive n) (rw f (ap (later (suc n + 2)) g)))
  where
    positive : (n : ℕ) → nat_lt 0 (suc n) ≡ true
    positive n = grind arith

pub else_if_is : (t u : Text) (n : ℕ) (o : Option ℕ) → n ≡ blank_len t → begins (123 ∷ []) (drop n t) ≡ false → (n ≡ 0 → ⊥) → u ≡ drop n t → begins (codes "if") u ≡ true → o ≡ bracket_len (drop 2 u) → later (n + 2) o ≡ else_len t
unfolding else_len
else_if_is t u n o len e h same f g =
    else_if_by t n o e h (ap (begins (codes "if")) (sym same) ∙ f) (g ∙ ap (λ k. bracket_len (drop 2 k)) same ∙ ap bracket_len (drop-drop 2 n t)) ∙ ap (λ k. else_by k t) len
