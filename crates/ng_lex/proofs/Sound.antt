-- What is found is a token that is written as its kind.
use Rattle.std.proofs.Common.{◌≡◌, ℕ, zero, suc, ◌+◌, [], ◌∷◌, ◌++◌, length, drop, codes, refl, sym, ◌∙◌, ap, subst, append_assoc, arith, length-append, inl, inr}
use Rattle.std.proofs.Math.Seq.{drop-append_seam}
use Rattle.std.specs.Prelude.{Bool, true, false, cond, ◌==◌, ◌&&◌, nat_lt, ◌⊎◌, Option, Some, None, slice_get}
use Rattle.std.specs.List.{prefix_len}
use Rattle.std.specs.Option.{option_map}
use Rattle.ng_tokens.specs.Lexis.{Text, is_blank, is_letter, is_word, all, begins, is_one_of}
use Rattle.ng_exprs.specs.Ends.{end_from, later}
use Rattle.ng_lex.specs.declared.quotes.Quoting.{Quoting}
use Rattle.ng_lex.specs.declared.kinds.TokenKind.{TokenKind}
use Rattle.ng_lex.specs.declared.kinds.TokenKind.TheVariants as kind
use Rattle.ng_lex.specs.declared.quotes.Quoting.TheVariants.{Outside}
use Rattle.ng_lex.specs.Words.{IsBlank, IsGap, IsName, literal, valued, unquoted, at_front, opening, closing}
use Rattle.ng_lex.specs.Attributes.{is_lower}
use Rattle.ng_lex.specs.Heads.{IsElseIf, EndsAfter}
use Rattle.ng_lex.specs.Lexis.{is_plain, AllPlain, NotPlain, comment_opening, comment_closing}
use Rattle.ng_lex.specs.Spans.{Fills, braced_words, bracketed_words, IsHead, IsSpan}
use Rattle.ng_lex.specs.Span.{plain_len, seek, blank_len, name_len, brace_len, round_at, round_by, round_len, closed_by, bracket_len, else_len, equals_len, named_len, front_len, ended_by, ended_len, let_by, let_len, sized, worded, headed, tagged, marked, span}
use Rattle.ng_lex.proofs.Texts.{both_true, and_true, no_true, same_byte, begins_is, Splits, run_split, Found, found}

-- ---- answers taken apart

some_same : {A : Type 0} {p u : A} → Some p ≡ Some u → p ≡ u
some_same e = cc

none_some : {A : Type 0} (C : Type 0) {a : A} → None ≡ Some a → C
none_some C e = absurd (cc)

later_some : (n : ℕ) (o : Option ℕ) (m : ℕ) → later n o ≡ Some m → (k : ℕ) × (o ≡ Some k) × (m ≡ n + k)
later_some n None m e = absurd (cc)
later_some n (Some k) m e = (k, refl, sym (some_same e))

more_some : (o : Option ℕ) (n : ℕ) → option_map suc o ≡ Some n → (m : ℕ) × (o ≡ Some m) × (n ≡ suc m)
more_some None n e = absurd (cc)
more_some (Some m) n e = (m, refl, sym (some_same e))

sized_some : (k : TokenKind) (o : Option ℕ) (q : TokenKind × ℕ) → sized k o ≡ Some q → (n : ℕ) × (o ≡ Some n) × (q ≡ (k, n))
sized_some k None q e = absurd (cc)
sized_some k (Some n) q e = (n, refl, sym (some_same e))

-- the first part of a choice that gives something
if_some : {A : Type 0} (v : Bool) (a : A) (q : A) → cond v (Some a) None ≡ Some q → (v ≡ true) × (a ≡ q)
if_some true a q e = (refl, some_same e)
if_some false a q e = absurd (cc)

given : (v : Bool) (o : Option ℕ) (n : ℕ) → cond v o None ≡ Some n → (v ≡ true) × (o ≡ Some n)
given true o n e = (refl, e)
given false o n e = absurd (cc)

-- ---- fronts

split_drop : {p : ℕ → Bool} {t : Text} {n : ℕ} (s : Splits p t n) → drop n t ≡ s.rest
split_drop {n = n} s = ap (drop n) s.is ∙ ap (λ m. drop m (s.run ++ s.rest)) (sym s.long) ∙ drop-append_seam s.run s.rest

-- a byte stands at the front of what is left
drop_byte : (c : ℕ) (t : Text) → begins (c ∷ []) t ≡ true → (r : Text) × (t ≡ c ∷ r)
drop_byte c t e = begins_is (c ∷ []) t e

seam_drop : (a z : Text) (n : ℕ) → n ≡ length a → drop n (a ++ z) ≡ z
seam_drop a z n e = ap (λ m. drop m (a ++ z)) e ∙ drop-append_seam a z

-- white space and then this byte
record Blanks (t : Text) (c n : ℕ) : Type 0 where
  blank : Text
  more : Text
  is : t ≡ blank ++ (c ∷ more)
  passes : IsBlank blank
  long : n ≡ length blank

blanks : (t : Text) (c : ℕ) → begins (c ∷ []) (drop (blank_len t) t) ≡ true → Blanks t c (blank_len t)
blanks t c e =
    let s : Splits is_blank t (blank_len t) = run_split is_blank t in
    let r : (r : Text) × (s.rest ≡ c ∷ r) = drop_byte c s.rest (ap (begins (c ∷ [])) (sym (split_drop s)) ∙ e) in
    record { blank = s.run; more = r.0; is = s.is ∙ ap (λ k. s.run ++ k) r.1; passes = s.passes; long = sym s.long }

after_byte : (w : Text) (c : ℕ) (r : Text) (n : ℕ) → n ≡ length w → drop (n + 1) (w ++ (c ∷ r)) ≡ r
after_byte w c r n e = ap (drop (n + 1)) (sym (append_assoc w (c ∷ []) r)) ∙ seam_drop (w ++ (c ∷ [])) r (n + 1) (omega (arith, length-append w (c ∷ [])))

-- ---- heads

record Brace (t : Text) (n : ℕ) : Type 0 where
  blank : Text
  rest : Text
  is : t ≡ blank ++ (123 ∷ rest)
  passes : IsBlank blank
  long : n ≡ length blank + 1

brace : (t : Text) (n : ℕ) → brace_len t ≡ Some n → Brace t n
unfolding brace_len
brace t n e =
    let g = if_some (begins (123 ∷ []) (drop (blank_len t) t)) (blank_len t + 1) n e in
    let b : Blanks t 123 (blank_len t) = blanks t 123 g.0 in
    record { blank = b.blank; rest = b.more; is = b.is; passes = b.passes; long = omega (arith, g.1, b.long) }

-- at a byte, by its number
pub get_split : (t : Text) (n c : ℕ) → slice_get t n ≡ Some c → (x r : Text) × (t ≡ x ++ (c ∷ r)) × (length x ≡ n)
get_split [] n c e = absurd (cc)
get_split (b ∷ t) zero c e = let f : b ≡ c = some_same e in ([], t, ap (λ k. k ∷ t) f, refl)
get_split (b ∷ t) (suc n) c e = let g = get_split t n c e in (b ∷ g.0, g.1, ap (λ k. b ∷ k) g.2, ap suc g.3)

record Rounds (t : Text) (n : ℕ) : Type 0 where
  inside : Text
  rest : Text
  is : t ≡ inside ++ (41 ∷ rest)
  fills : Fills inside rest
  long : n ≡ length inside + 1

-- what is left after a first byte
tail_of : (b : ℕ) (s x r : Text) (c n : ℕ) → b ∷ s ≡ x ++ (c ∷ r) → length x ≡ n → (a : Text) × (s ≡ a ++ r) × (length a ≡ n)
tail_of b s [] r c n e l = ([], (cc), l)
tail_of b s (d ∷ x) r c n e l = let tl : s ≡ x ++ (c ∷ r) = cc in (x ++ (c ∷ []), tl ∙ sym (append_assoc x (c ∷ []) r), omega (arith, l, length-append x (c ∷ [])))

round_at_end : (b : ℕ) (s : Text) (m c : ℕ) (x r : Text) → end_from 0 0 (b ∷ s) ≡ Some m → b ∷ s ≡ x ++ (c ∷ r) → length x ≡ m → EndsAfter x (c ∷ r)
round_at_end b s m c x r e f l = ap (end_from 0 0) (sym f) ∙ e ∙ ap Some (sym l)

-- a piece before a `;`, and what fills the rest
round_piece : (t x r : Text) (n j : ℕ) → t ≡ x ++ (59 ∷ r) → EndsAfter x (59 ∷ r) → n ≡ suc (length x + j) → Rounds r j → Rounds t n
round_piece t x r n j e ends l h = record {
  inside = x ++ (59 ∷ h.inside);
  rest = h.rest;
  is = e ∙ ap (λ k. x ++ (59 ∷ k)) h.is ∙ sym (append_assoc x (59 ∷ h.inside) (41 ∷ h.rest));
  fills = Fills.next_piece x h.inside h.rest (subst (λ k. EndsAfter x (59 ∷ k)) h.is ends) h.fills;
  long = omega (arith, l, h.long, length-append x (59 ∷ h.inside));
}

round_front : (b : ℕ) (s : Text) (n : ℕ) → ((m : ℕ) (a r : Text) → s ≡ a ++ r → length a ≡ m → (k : ℕ) → round_len m s ≡ Some k → (j : ℕ) × (k ≡ m + j) × Rounds r j)
    → (o : Option ℕ) → end_from 0 0 (b ∷ s) ≡ o → round_by (λ m. option_map suc (round_len m s)) (b ∷ s) o ≡ Some n → Rounds (b ∷ s) n
round_front b s n go None e f = absurd (cc)
round_front b s n go (Some m) e f = at (slice_get (b ∷ s) m) refl f
  where
    at : (o : Option ℕ) → slice_get (b ∷ s) m ≡ o → round_at (λ m. option_map suc (round_len m s)) m o ≡ Some n → Rounds (b ∷ s) n
    at None g f = absurd (cc)
    at (Some c) g f = by (c == 41) (c == 59) refl refl f
      where
        cut : (x r : Text) × (b ∷ s ≡ x ++ (c ∷ r)) × (length x ≡ m)
        cut = get_split (b ∷ s) m c g

        by : (v w : Bool) → (c == 41) ≡ v → (c == 59) ≡ w → cond v (Some (m + 1)) (cond w (option_map suc (round_len m s)) None) ≡ Some n → Rounds (b ∷ s) n
        by true w i j f =
            let same : c ≡ 41 = same_byte c 41 i in
            let l : m + 1 ≡ n = some_same f in
            record {
              inside = cut.0;
              rest = cut.1;
              is = cut.2 ∙ ap (λ d. cut.0 ++ (d ∷ cut.1)) same;
              fills = Fills.last_piece cut.0 cut.1 (subst (λ d. EndsAfter cut.0 (d ∷ cut.1)) same (round_at_end b s m c cut.0 cut.1 e cut.2 cut.3));
              long = omega (arith, l, cut.3);
            }
        by false true i j f =
            let same : c ≡ 59 = same_byte c 59 j in
            let k : (k : ℕ) × (round_len m s ≡ Some k) × (n ≡ suc k) = more_some (round_len m s) n f in
            let t : (a : Text) × (s ≡ a ++ cut.1) × (length a ≡ m) = tail_of b s cut.0 cut.1 c m cut.2 cut.3 in
            let r : (j : ℕ) × (k.0 ≡ m + j) × Rounds cut.1 j = go m t.0 cut.1 t.1 t.2 k.0 k.1 in
            round_piece (b ∷ s) cut.0 cut.1 n r.0 (cut.2 ∙ ap (λ d. cut.0 ++ (d ∷ cut.1)) same) (subst (λ d. EndsAfter cut.0 (d ∷ cut.1)) same (round_at_end b s m c cut.0 cut.1 e cut.2 cut.3)) (omega (arith, k.2, r.1, cut.3)) r.2
        by false false i j f = absurd (cc)

round_from : (t : Text) (left : ℕ) (a r : Text) → t ≡ a ++ r → length a ≡ left → (n : ℕ) → round_len left t ≡ Some n → (j : ℕ) × (n ≡ left + j) × Rounds r j
unfolding round_len
round_from [] left a r e l n f = absurd (cc)
round_from (b ∷ s) zero [] r e l n f =
    let h : Rounds (b ∷ s) n = round_front b s n (λ m a r. round_from s m a r) (end_from 0 0 (b ∷ s)) refl f in
    let z : n ≡ 0 + n = omega arith in
    (n, z, subst (λ k. Rounds k n) e h)
round_from (b ∷ s) zero (d ∷ a) r e l n f = absurd (omega arith)
round_from (b ∷ s) (suc left) [] r e l n f = absurd (omega arith)
round_from (b ∷ s) (suc left) (d ∷ a) r e l n f =
    let k : (k : ℕ) × (round_len left s ≡ Some k) × (n ≡ suc k) = more_some (round_len left s) n f in
    let tl : s ≡ a ++ r = cc in
    let g : (j : ℕ) × (k.0 ≡ left + j) × Rounds r j = round_from s left a r tl (omega arith) k.0 k.1 in
    (g.0, omega (arith, k.2, g.1), g.2)

rounds : (t : Text) (n : ℕ) → round_len 0 t ≡ Some n → Rounds t n
rounds t n e =
    let g : (j : ℕ) × (n ≡ 0 + j) × Rounds t j = round_from t 0 [] t refl refl n e in
    let same : g.0 ≡ n = omega (arith, g.1) in
    subst (λ m. Rounds t m) same g.2

record Brackets (t : Text) (n : ℕ) : Type 0 where
  before_round : Text
  inside : Text
  before_brace : Text
  rest : Text
  is : t ≡ before_round ++ (40 ∷ (inside ++ (41 ∷ (before_brace ++ (123 ∷ rest)))))
  blank_round : IsBlank before_round
  blank_brace : IsBlank before_brace
  fills : Fills inside (before_brace ++ (123 ∷ rest))
  long : n ≡ (length before_round + 1) + ((length inside + 1) + (length before_brace + 1))

-- what closes the brackets, and the brace
record Closes (x : Text) (n : ℕ) : Type 0 where
  inside : Text
  blank : Text
  rest : Text
  is : x ≡ inside ++ (41 ∷ (blank ++ (123 ∷ rest)))
  passes : IsBlank blank
  fills : Fills inside (blank ++ (123 ∷ rest))
  long : n ≡ (length inside + 1) + (length blank + 1)

closes : (x : Text) (o : Option ℕ) → round_len 0 x ≡ o → (n : ℕ) → closed_by x o ≡ Some n → Closes x n
closes x None e n f = absurd (cc)
closes x (Some m) e n f =
    let r : Rounds x m = rounds x m e in
    let k : (k : ℕ) × (brace_len (drop m x) ≡ Some k) × (n ≡ m + k) = later_some m (brace_len (drop m x)) n f in
    let b : Brace (drop m x) k.0 = brace (drop m x) k.0 k.1 in
    let rest : drop m x ≡ r.rest = ap (drop m) r.is ∙ ap (λ j. drop j (r.inside ++ (41 ∷ r.rest))) r.long ∙ after_byte r.inside 41 r.rest (length r.inside) refl in
    let is : r.rest ≡ b.blank ++ (123 ∷ b.rest) = sym rest ∙ b.is in
    record {
      inside = r.inside;
      blank = b.blank;
      rest = b.rest;
      is = r.is ∙ ap (λ j. r.inside ++ (41 ∷ j)) is;
      passes = b.passes;
      fills = subst (Fills r.inside) is r.fills;
      long = omega (arith, k.2, r.long, b.long);
    }

brackets : (t : Text) (n : ℕ) → bracket_len t ≡ Some n → Brackets t n
unfolding bracket_len
brackets t n e =
    let g = given (begins (40 ∷ []) (drop (blank_len t) t)) _ n e in
    let w : Blanks t 40 (blank_len t) = blanks t 40 g.0 in
    let k : (k : ℕ) × (closed_by (drop (blank_len t + 1) t) (round_len 0 (drop (blank_len t + 1) t)) ≡ Some k) × (n ≡ (blank_len t + 1) + k) = later_some (blank_len t + 1) _ n g.1 in
    let c : Closes (drop (blank_len t + 1) t) k.0 = closes (drop (blank_len t + 1) t) (round_len 0 (drop (blank_len t + 1) t)) refl k.0 k.1 in
    let rest : drop (blank_len t + 1) t ≡ w.more = ap (drop (blank_len t + 1)) w.is ∙ after_byte w.blank 40 w.more (blank_len t) w.long in
    record {
      before_round = w.blank;
      inside = c.inside;
      before_brace = c.blank;
      rest = c.rest;
      is = w.is ∙ ap (λ j. w.blank ++ (40 ∷ j)) (sym rest ∙ c.is);
      blank_round = w.passes;
      blank_brace = c.passes;
      fills = c.fills;
      long = omega (arith, k.2, w.long, c.long);
    }

-- ---- tokens

-- a token at the front, which has so many bytes
pub record Takes (k : TokenKind) (t : Text) (n : ℕ) : Type 0 where
  pub text : Text
  pub rest : Text
  pub is : t ≡ text ++ rest
  pub long : length text ≡ n
  pub span : IsSpan k text rest

braced_takes : (word u : Text) (n : ℕ) → is_one_of braced_words word ≡ true → Brace u n → Takes kind.Head (word ++ u) (length word + n)
braced_takes word u n e b = record {
  text = word ++ (b.blank ++ (123 ∷ []));
  rest = b.rest;
  is = ap (λ k. word ++ k) b.is ∙ regroup b.blank b.rest;
  long = omega (arith, b.long, length-append word (b.blank ++ (123 ∷ [])), length-append b.blank (123 ∷ []));
  span = IsHead.braced word b.blank b.rest e b.passes;
}
  where
    regroup : (w r : Text) → word ++ (w ++ (123 ∷ r)) ≡ (word ++ (w ++ (123 ∷ []))) ++ r
    regroup w r = simp append_assoc refl

bracketed_takes : (word u : Text) (n : ℕ) → (is_one_of bracketed_words word ≡ true) ⊎ IsElseIf word → Brackets u n → Takes kind.Head (word ++ u) (length word + n)
bracketed_takes word u n e b = record {
  text = word ++ inner b.before_round b.inside b.before_brace;
  rest = b.rest;
  is = ap (λ k. word ++ k) b.is ∙ regroup b.before_round b.inside b.before_brace b.rest;
  long = omega (arith, b.long, length-append word (inner b.before_round b.inside b.before_brace), size b.before_round b.inside b.before_brace);
  span = IsHead.bracketed word b.before_round b.inside b.before_brace b.rest e b.blank_round b.blank_brace b.fills;
}
  where
    inner : Text → Text → Text → Text
    inner w x v = w ++ (40 ∷ (x ++ (41 ∷ (v ++ (123 ∷ [])))))

    regroup : (w x v r : Text) → word ++ (w ++ (40 ∷ (x ++ (41 ∷ (v ++ (123 ∷ r)))))) ≡ (word ++ (w ++ (40 ∷ (x ++ (41 ∷ (v ++ (123 ∷ []))))))) ++ r
    regroup w x v r = simp append_assoc refl

    size : (w x v : Text) → length (w ++ (40 ∷ (x ++ (41 ∷ (v ++ (123 ∷ [])))))) ≡ (length w + 1) + ((length x + 1) + (length v + 1))
    size w x v = omega (arith, length-append w (40 ∷ (x ++ (41 ∷ (v ++ (123 ∷ []))))), length-append x (41 ∷ (v ++ (123 ∷ []))), length-append v (123 ∷ []))

-- a word, and what was found after it
record Worded (k : TokenKind) (word : Text) (f : Text → Option ℕ) (t : Text) (q : TokenKind × ℕ) : Type 0 where
  after : Text
  count : ℕ
  is : t ≡ word ++ after
  gives : f after ≡ Some count
  whole : q ≡ (k, length word + count)

at_word : (k : TokenKind) (word : Text) (f : Text → Option ℕ) (t : Text) (q : TokenKind × ℕ) (n : ℕ) → n ≡ length word → begins word t ≡ true → worded k n f t ≡ Some q → Worded k word f t q
at_word k word f t q n len b e =
    let r : (r : Text) × (t ≡ word ++ r) = begins_is word t b in
    let s : (m : ℕ) × (later n (f (drop n t)) ≡ Some m) × (q ≡ (k, m)) = sized_some k (later n (f (drop n t))) q e in
    let l : (j : ℕ) × (f (drop n t) ≡ Some j) × (s.0 ≡ n + j) = later_some n (f (drop n t)) s.0 s.1 in
    let rest : drop n t ≡ r.0 = ap (drop n) r.1 ∙ seam_drop word r.0 n len in
    let whole : s.0 ≡ length word + l.0 = omega (arith, l.2, len) in
    record { after = r.0; count = l.0; is = r.1; gives = ap f (sym rest) ∙ l.1; whole = s.2 ∙ ap (λ m. (k, m)) whole }

bracket_takes : (word t : Text) (q : TokenKind × ℕ) → is_one_of bracketed_words word ≡ true → Worded kind.Head word bracket_len t q → Takes q.0 t q.1
bracket_takes word t q e w =
    subst (λ p. Takes p.0 t p.1) (sym w.whole) (subst (λ k. Takes kind.Head k (length word + w.count)) (sym w.is) (bracketed_takes word w.after w.count (inl e) (brackets w.after w.count w.gives)))

brace_takes : (word t : Text) (q : TokenKind × ℕ) → is_one_of braced_words word ≡ true → Worded kind.Head word brace_len t q → Takes q.0 t q.1
brace_takes word t q e w =
    subst (λ p. Takes p.0 t p.1) (sym w.whole) (subst (λ k. Takes kind.Head k (length word + w.count)) (sym w.is) (braced_takes word w.after w.count e (brace w.after w.count w.gives)))

-- ---- @else, and @else if

gap : (w : Text) → IsBlank w → nat_lt 0 (length w) ≡ true → IsGap w
gap [] h e = absurd (no_true (sym (nothing) ∙ e))
  where
    nothing : nat_lt 0 0 ≡ false
    nothing = grind arith
gap (b ∷ w) h e = h

is_else : is_one_of braced_words (codes "@else") ≡ true
unfolding braced_words
is_else = refl

else_brace : (u : Text) (n : ℕ) → begins (123 ∷ []) (drop (blank_len u) u) ≡ true → blank_len u + 1 ≡ n → Brace u n
else_brace u n g l = let b : Blanks u 123 (blank_len u) = blanks u 123 g in record { blank = b.blank; rest = b.more; is = b.is; passes = b.passes; long = omega (arith, l, b.long) }

else_if : (u : Text) (n : ℕ) → (nat_lt 0 (blank_len u) && begins (codes "if") (drop (blank_len u) u)) ≡ true → later (blank_len u + 2) (bracket_len (drop (blank_len u + 2) u)) ≡ Some n
    → Takes kind.Head (codes "@else" ++ u) (5 + n)
else_if u n g e =
    let both = and_true (nat_lt 0 (blank_len u)) (begins (codes "if") (drop (blank_len u) u)) g in
    let s : Splits is_blank u (blank_len u) = run_split is_blank u in
    let r : (r : Text) × (s.rest ≡ codes "if" ++ r) = begins_is (codes "if") s.rest (ap (begins (codes "if")) (sym (split_drop s)) ∙ both.1) in
    let whole : u ≡ (s.run ++ codes "if") ++ r.0 = s.is ∙ ap (λ k. s.run ++ k) r.1 ∙ sym (append_assoc s.run (codes "if") r.0) in
    let rest : drop (blank_len u + 2) u ≡ r.0 = ap (drop (blank_len u + 2)) whole ∙ seam_drop (s.run ++ codes "if") r.0 (blank_len u + 2) (omega (arith, s.long, length-append s.run (codes "if"))) in
    let k : (k : ℕ) × (bracket_len (drop (blank_len u + 2) u) ≡ Some k) × (n ≡ (blank_len u + 2) + k) = later_some (blank_len u + 2) _ n e in
    let b : Brackets r.0 k.0 = brackets r.0 k.0 (ap bracket_len (sym rest) ∙ k.1) in
    let t : Takes kind.Head ((codes "@else" ++ (s.run ++ codes "if")) ++ r.0) (length (codes "@else" ++ (s.run ++ codes "if")) + k.0) =
    bracketed_takes (codes "@else" ++ (s.run ++ codes "if")) r.0 k.0 (inr (s.run, gap s.run s.passes (ap (nat_lt 0) s.long ∙ both.0), refl)) b in
    let size : length (codes "@else" ++ (s.run ++ codes "if")) + k.0 ≡ 5 + n = omega (arith, k.2, s.long, length-append s.run (codes "if")) in
    subst (λ m. Takes kind.Head (codes "@else" ++ u) m) size (subst (λ x. Takes kind.Head x (length (codes "@else" ++ (s.run ++ codes "if")) + k.0)) (ap (λ x. codes "@else" ++ x) (sym whole)) t)

else_by_case : (u : Text) (n : ℕ) (v w : Bool) → begins (123 ∷ []) (drop (blank_len u) u) ≡ v → (nat_lt 0 (blank_len u) && begins (codes "if") (drop (blank_len u) u)) ≡ w
    → cond v (Some (blank_len u + 1)) (cond w (later (blank_len u + 2) (bracket_len (drop (blank_len u + 2) u))) None) ≡ Some n → Takes kind.Head (codes "@else" ++ u) (5 + n)
else_by_case u n true w g h e = braced_takes (codes "@else") u n is_else (else_brace u n g (some_same e))
else_by_case u n false true g h e = else_if u n h e
else_by_case u n false false g h e = absurd (cc)

else_takes : (t : Text) (q : TokenKind × ℕ) → Worded kind.Head (codes "@else") else_len t q → Takes q.0 t q.1
unfolding else_len
else_takes t q w =
    subst (λ p. Takes p.0 t p.1) (sym w.whole) (subst (λ k. Takes kind.Head k (5 + w.count)) (sym w.is) (else_by_case w.after w.count (begins (123 ∷ []) (drop (blank_len w.after) w.after)) (nat_lt 0 (blank_len w.after) && begins (codes "if") (drop (blank_len w.after) w.after)) refl refl w.gives))

-- ---- @let

record Equals (t : Text) (n : ℕ) : Type 0 where
  blank : Text
  rest : Text
  is : t ≡ blank ++ (61 ∷ rest)
  passes : IsBlank blank
  long : n ≡ length blank + 1

equals : (t : Text) (n : ℕ) → equals_len t ≡ Some n → Equals t n
equals t n e =
    let g = if_some (begins (61 ∷ []) (drop (blank_len t) t)) (blank_len t + 1) n e in
    let b : Blanks t 61 (blank_len t) = blanks t 61 g.0 in
    record { blank = b.blank; rest = b.more; is = b.is; passes = b.passes; long = omega (arith, g.1, b.long) }

record Named (t : Text) (n : ℕ) : Type 0 where
  name : Text
  blank : Text
  rest : Text
  is : t ≡ name ++ (blank ++ (61 ∷ rest))
  word : IsName name
  passes : IsBlank blank
  long : n ≡ length name + (length blank + 1)

-- a name at the front
record Name (t : Text) (n : ℕ) : Type 0 where
  name : Text
  rest : Text
  is : t ≡ name ++ rest
  word : IsName name
  long : n ≡ length name

no_less : nat_lt 0 0 ≡ true → ⊥
no_less e = absurd (grind arith)

name_front : (t : Text) → nat_lt 0 (name_len t) ≡ true → Name t (name_len t)
name_front [] e = absurd (no_less e)
name_front (b ∷ t) e = by (is_letter b) refl e (run_split is_word (b ∷ t))
  where
    by : (v : Bool) → is_letter b ≡ v → nat_lt 0 (cond v (prefix_len is_word (b ∷ t)) 0) ≡ true → Splits is_word (b ∷ t) (prefix_len is_word (b ∷ t)) → Name (b ∷ t) (cond v (prefix_len is_word (b ∷ t)) 0)
    by false f e s = absurd (no_less e)
    by true f e s = record { name = s.run; rest = s.rest; is = s.is; word = word s.run s.rest s.is s.long s.passes e; long = sym s.long }
      where
        word : (x r : Text) → b ∷ t ≡ x ++ r → length x ≡ prefix_len is_word (b ∷ t) → all is_word x ≡ true → nat_lt 0 (prefix_len is_word (b ∷ t)) ≡ true → IsName x
        word [] r i l p e = absurd (no_less (ap (nat_lt 0) l ∙ e))
        word (c ∷ x) r i l p e = let hd : b ≡ c = cc in rw (ap is_letter (sym hd) ∙ f) (both_true (is_word c) (all is_word x) p).1

named : (t : Text) (n : ℕ) → named_len t ≡ Some n → Named t n
named t n e =
    let g = given (nat_lt 0 (name_len t)) (later (name_len t) (equals_len (drop (name_len t) t))) n e in
    let m : Name t (name_len t) = name_front t g.0 in
    let k : (k : ℕ) × (equals_len (drop (name_len t) t) ≡ Some k) × (n ≡ name_len t + k) = later_some (name_len t) _ n g.1 in
    let rest : drop (name_len t) t ≡ m.rest = ap (drop (name_len t)) m.is ∙ seam_drop m.name m.rest (name_len t) m.long in
    let q : Equals m.rest k.0 = equals m.rest k.0 (ap equals_len (sym rest) ∙ k.1) in
    record { name = m.name; blank = q.blank; rest = q.rest; is = m.is ∙ ap (λ x. m.name ++ x) q.is; word = m.word; passes = q.passes; long = omega (arith, k.2, m.long, q.long) }

pub record Front (t : Text) (n : ℕ) : Type 0 where
  pub white : Text
  pub name : Text
  pub blank : Text
  pub rest : Text
  pub is : t ≡ white ++ (name ++ (blank ++ (61 ∷ rest)))
  pub gap : IsGap white
  pub word : IsName name
  pub passes : IsBlank blank
  pub long : n ≡ length white + (length name + (length blank + 1))

pub front : (t : Text) (n : ℕ) → front_len t ≡ Some n → Front t n
unfolding front_len
front t n e =
    let g = given (nat_lt 0 (blank_len t)) (later (blank_len t) (named_len (drop (blank_len t) t))) n e in
    let s : Splits is_blank t (blank_len t) = run_split is_blank t in
    let k : (k : ℕ) × (named_len (drop (blank_len t) t) ≡ Some k) × (n ≡ blank_len t + k) = later_some (blank_len t) _ n g.1 in
    let m : Named s.rest k.0 = named s.rest k.0 (ap named_len (sym (split_drop s)) ∙ k.1) in
    record {
      white = s.run;
      name = m.name;
      blank = m.blank;
      rest = m.rest;
      is = s.is ∙ ap (λ x. s.run ++ x) m.is;
      gap = gap s.run s.passes (ap (nat_lt 0) s.long ∙ g.0);
      word = m.word;
      passes = m.passes;
      long = omega (arith, k.2, s.long, m.long);
    }

record Ended (t : Text) (n : ℕ) : Type 0 where
  inside : Text
  rest : Text
  is : t ≡ inside ++ (59 ∷ rest)
  ends : EndsAfter inside (59 ∷ rest)
  long : n ≡ length inside + 1

-- a byte at the front of what is left, by its number
pub drop_split : (t : Text) (n c : ℕ) → begins (c ∷ []) (drop n t) ≡ true → (x r : Text) × (t ≡ x ++ (c ∷ r)) × (length x ≡ n)
drop_split t zero c e = let r : (r : Text) × (t ≡ c ∷ r) = begins_is (c ∷ []) t e in ([], r.0, r.1, refl)
drop_split [] (suc n) c e = absurd (no_true e)
drop_split (b ∷ t) (suc n) c e = let g = drop_split t n c e in (b ∷ g.0, g.1, ap (λ k. b ∷ k) g.2, ap suc g.3)

ended_at : (t : Text) (o : Option ℕ) → end_from 0 0 t ≡ o → (n : ℕ) → ended_by t o ≡ Some n → Ended t n
ended_at t None e n f = absurd (cc)
ended_at t (Some m) e n f =
    let g = if_some (begins (59 ∷ []) (drop m t)) (m + 1) n f in
    let s : (x r : Text) × (t ≡ x ++ (59 ∷ r)) × (length x ≡ m) = drop_split t m 59 g.0 in
    record { inside = s.0; rest = s.1; is = s.2; ends = ap (end_from 0 0) (sym s.2) ∙ e ∙ ap Some (sym s.3); long = omega (arith, g.1, s.3) }

ended : (t : Text) (n : ℕ) → ended_len t ≡ Some n → Ended t n
unfolding ended_len
ended t n e = ended_at t (end_from 0 0 t) refl n e

let_whole : (u w n v t z : Text) (k : ℕ) → u ≡ w ++ (n ++ (v ++ (61 ∷ (t ++ (59 ∷ z))))) → IsGap w → IsName n → IsBlank v → EndsAfter t (59 ∷ z)
    → k ≡ (length w + (length n + (length v + 1))) + (length t + 1) → Takes kind.Let (codes "@let" ++ u) (4 + k)
let_whole u w n v t z k e gap name blank ends long = record {
  text = (codes "@let" ++ (w ++ (n ++ (v ++ (61 ∷ []))))) ++ (t ++ (59 ∷ []));
  rest = z;
  is = ap (λ y. codes "@let" ++ y) e ∙ regroup;
  long = size ∙ ap (λ j. 4 + j) (sym long);
  span = (codes "@let" ++ (w ++ (n ++ (v ++ (61 ∷ [])))), t, n, refl, (w, v, refl, gap, blank, name), ends);
}
  where
    regroup : codes "@let" ++ (w ++ (n ++ (v ++ (61 ∷ (t ++ (59 ∷ z)))))) ≡ ((codes "@let" ++ (w ++ (n ++ (v ++ (61 ∷ []))))) ++ (t ++ (59 ∷ []))) ++ z
    regroup = simp append_assoc refl

    size : length ((codes "@let" ++ (w ++ (n ++ (v ++ (61 ∷ []))))) ++ (t ++ (59 ∷ []))) ≡ 4 + ((length w + (length n + (length v + 1))) + (length t + 1))
    size = omega (arith, length-append (w ++ (n ++ (v ++ (61 ∷ [])))) (t ++ (59 ∷ [])), length-append w (n ++ (v ++ (61 ∷ []))), length-append n (v ++ (61 ∷ [])), length-append v (61 ∷ []), length-append t (59 ∷ []))

-- what stands after the `=`
let_rest : (u w n v r : Text) (m : ℕ) → u ≡ w ++ (n ++ (v ++ (61 ∷ r))) → m ≡ length w + (length n + (length v + 1)) → drop m u ≡ r
let_rest u w n v r m e long = ap (drop m) (e ∙ regroup) ∙ seam_drop (w ++ (n ++ (v ++ (61 ∷ [])))) r m (long ∙ sym size)
  where
    regroup : w ++ (n ++ (v ++ (61 ∷ r))) ≡ (w ++ (n ++ (v ++ (61 ∷ [])))) ++ r
    regroup = simp append_assoc refl

    size : length (w ++ (n ++ (v ++ (61 ∷ [])))) ≡ length w + (length n + (length v + 1))
    size = omega (arith, length-append w (n ++ (v ++ (61 ∷ []))), length-append n (v ++ (61 ∷ [])), length-append v (61 ∷ []))

let_at : (u : Text) (o : Option ℕ) → front_len u ≡ o → (n : ℕ) → let_by u o ≡ Some n → Takes kind.Let (codes "@let" ++ u) (4 + n)
let_at u None e n f = absurd (cc)
let_at u (Some m) e n f =
    let w : Front u m = front u m e in
    let k : (k : ℕ) × (ended_len (drop m u) ≡ Some k) × (n ≡ m + k) = later_some m (ended_len (drop m u)) n f in
    let d : Ended w.rest k.0 = ended w.rest k.0 (ap ended_len (sym (let_rest u w.white w.name w.blank w.rest m w.is w.long)) ∙ k.1) in
    let whole : u ≡ w.white ++ (w.name ++ (w.blank ++ (61 ∷ (d.inside ++ (59 ∷ d.rest))))) = w.is ∙ ap (λ r. w.white ++ (w.name ++ (w.blank ++ (61 ∷ r)))) d.is in
    let_whole u w.white w.name w.blank d.inside d.rest n whole w.gap w.word w.passes d.ends (omega (arith, k.2, w.long, d.long))

let_takes : (t : Text) (q : TokenKind × ℕ) → Worded kind.Let (codes "@let") let_len t q → Takes q.0 t q.1
unfolding let_len
let_takes t q w =
    subst (λ p. Takes p.0 t p.1) (sym w.whole) (subst (λ k. Takes kind.Let k (4 + w.count)) (sym w.is) (let_at w.after (front_len w.after) refl w.count w.gives))

-- ---- at an `@`

is_if : is_one_of bracketed_words (codes "@if") ≡ true
unfolding bracketed_words
is_if = refl

is_for : is_one_of bracketed_words (codes "@for") ≡ true
unfolding bracketed_words
is_for = refl

is_switch : is_one_of bracketed_words (codes "@switch") ≡ true
unfolding bracketed_words
is_switch = refl

is_case : is_one_of bracketed_words (codes "@case") ≡ true
unfolding bracketed_words
is_case = refl

is_empty : is_one_of braced_words (codes "@empty") ≡ true
unfolding braced_words
is_empty = refl

is_default : is_one_of braced_words (codes "@default") ≡ true
unfolding braced_words
is_default = refl

-- this choice, or the next
or_else : (A : Type 0) (v : Bool) (a b : Option (TokenKind × ℕ)) (q : TokenKind × ℕ) → cond v a b ≡ Some q → (v ≡ true → a ≡ Some q → A) → (v ≡ false → b ≡ Some q → A) → A
or_else A true a b q e f g = f refl e
or_else A false a b q e f g = g refl e

headed_takes : (t : Text) (q : TokenKind × ℕ) → headed t ≡ Some q → Takes q.0 t q.1
unfolding headed
headed_takes t q e =
    or_else (Takes q.0 t q.1) _ _ _ q e (λ b h. bracket_takes (codes "@if") t q is_if (at_word kind.Head (codes "@if") bracket_len t q 3 refl b h)) (λ _ e.
    or_else (Takes q.0 t q.1) _ _ _ q e (λ b h. bracket_takes (codes "@for") t q is_for (at_word kind.Head (codes "@for") bracket_len t q 4 refl b h)) (λ _ e.
    or_else (Takes q.0 t q.1) _ _ _ q e (λ b h. bracket_takes (codes "@switch") t q is_switch (at_word kind.Head (codes "@switch") bracket_len t q 7 refl b h)) (λ _ e.
    or_else (Takes q.0 t q.1) _ _ _ q e (λ b h. bracket_takes (codes "@case") t q is_case (at_word kind.Head (codes "@case") bracket_len t q 5 refl b h)) (λ _ e.
    or_else (Takes q.0 t q.1) _ _ _ q e (λ b h. else_takes t q (at_word kind.Head (codes "@else") else_len t q 5 refl b h)) (λ _ e.
    or_else (Takes q.0 t q.1) _ _ _ q e (λ b h. brace_takes (codes "@empty") t q is_empty (at_word kind.Head (codes "@empty") brace_len t q 6 refl b h)) (λ _ e.
    or_else (Takes q.0 t q.1) _ _ _ q e (λ b h. brace_takes (codes "@default") t q is_default (at_word kind.Head (codes "@default") brace_len t q 8 refl b h)) (λ _ e.
    or_else (Takes q.0 t q.1) _ _ _ q e (λ b h. let_takes t q (at_word kind.Let (codes "@let") let_len t q 4 refl b h)) (λ _ e. absurd (cc)))))))))

-- ---- after a `<`

-- what is found up to a word
sought : (k : TokenKind) (f : Quoting → ℕ → Quoting) (w : Text) (n : ℕ) (t : Text) (q : TokenKind × ℕ) → sized k (later n (seek f w Outside t)) ≡ Some q → (m : ℕ) × Found f w Outside t m × (q ≡ (k, n + m))
sought k f w n t q e =
    let s : (m : ℕ) × (later n (seek f w Outside t) ≡ Some m) × (q ≡ (k, m)) = sized_some k (later n (seek f w Outside t)) q e in
    let l : (j : ℕ) × (seek f w Outside t ≡ Some j) × (s.0 ≡ n + j) = later_some n (seek f w Outside t) s.0 s.1 in
    (l.0, found f w Outside t l.0 l.1, s.2 ∙ ap (λ m. (k, m)) l.2)

comment_takes : (t : Text) (q : TokenKind × ℕ) → begins (codes "!--") t ≡ true → sized kind.Comment (later 7 (seek unquoted comment_closing Outside (drop 3 t))) ≡ Some q → Takes q.0 (60 ∷ t) q.1
comment_takes t q b e =
    let r : (r : Text) × (t ≡ codes "!--" ++ r) = begins_is (codes "!--") t b in
    let h : (m : ℕ) × Found unquoted comment_closing Outside (drop 3 t) m × (q ≡ (kind.Comment, 7 + m)) = sought kind.Comment unquoted comment_closing 7 (drop 3 t) q e in
    let rest : drop 3 t ≡ r.0 = ap (drop 3) r.1 in
    let g : Takes kind.Comment (60 ∷ t) (7 + h.0) = record {
      text = comment_opening ++ (h.1.front ++ comment_closing);
      rest = h.1.rest;
      is = ap (λ k. 60 ∷ k) r.1 ∙ ap (λ k. comment_opening ++ k) (sym rest ∙ h.1.is) ∙ regroup h.1.front h.1.rest;
      long = omega (arith, h.1.long, length-append h.1.front comment_closing);
      span = (h.1.front, refl, (h.1.ends, h.1.clear));
    } in
    subst (λ p. Takes p.0 (60 ∷ t) p.1) (sym h.2) g
  where
    regroup : (x r : Text) → comment_opening ++ (x ++ (comment_closing ++ r)) ≡ (comment_opening ++ (x ++ comment_closing)) ++ r
    regroup x r = simp append_assoc refl

end_takes : (t : Text) (q : TokenKind × ℕ) → begins (codes "/") t ≡ true → sized kind.End (later 3 (seek unquoted (62 ∷ []) Outside (drop 1 t))) ≡ Some q → Takes q.0 (60 ∷ t) q.1
end_takes t q b e =
    let r : (r : Text) × (t ≡ codes "/" ++ r) = begins_is (codes "/") t b in
    let h : (m : ℕ) × Found unquoted (62 ∷ []) Outside (drop 1 t) m × (q ≡ (kind.End, 3 + m)) = sought kind.End unquoted (62 ∷ []) 3 (drop 1 t) q e in
    let rest : drop 1 t ≡ r.0 = ap (drop 1) r.1 in
    let g : Takes kind.End (60 ∷ t) (3 + h.0) = record {
      text = 60 ∷ 47 ∷ (h.1.front ++ (62 ∷ []));
      rest = h.1.rest;
      is = ap (λ k. 60 ∷ k) r.1 ∙ ap (λ k. 60 ∷ 47 ∷ k) (sym rest ∙ h.1.is) ∙ regroup h.1.front h.1.rest;
      long = omega (arith, h.1.long, length-append h.1.front (62 ∷ []));
      span = (h.1.front, refl, (h.1.ends, h.1.clear));
    } in
    subst (λ p. Takes p.0 (60 ∷ t) p.1) (sym h.2) g
  where
    regroup : (x r : Text) → 60 ∷ 47 ∷ (x ++ (62 ∷ r)) ≡ (60 ∷ 47 ∷ (x ++ (62 ∷ []))) ++ r
    regroup x r = simp append_assoc refl

lower_no_end : (b : ℕ) → is_lower b ≡ true → (62 == b) ≡ false
lower_no_end b e = grind arith

-- the first byte of what is found before a `>` is that of the text
front_lower : (x t r : Text) → at_front is_lower t ≡ true → t ≡ x ++ (62 ∷ r) → at_front is_lower x ≡ true
front_lower [] t r e h = absurd (no_true (ap (at_front is_lower) (sym h) ∙ e))
front_lower (b ∷ x) t r e h = ap (at_front is_lower) (sym h) ∙ e

start_takes : (t : Text) (q : TokenKind × ℕ) → at_front is_lower t ≡ true → sized kind.Start (later 2 (seek valued (62 ∷ []) Outside t)) ≡ Some q → Takes q.0 (60 ∷ t) q.1
start_takes t q b e =
    let h : (m : ℕ) × Found valued (62 ∷ []) Outside t m × (q ≡ (kind.Start, 2 + m)) = sought kind.Start valued (62 ∷ []) 2 t q e in
    let g : Takes kind.Start (60 ∷ t) (2 + h.0) = record {
      text = 60 ∷ (h.1.front ++ (62 ∷ []));
      rest = h.1.rest;
      is = ap (λ k. 60 ∷ k) h.1.is ∙ regroup h.1.front h.1.rest;
      long = omega (arith, h.1.long, length-append h.1.front (62 ∷ []));
      span = (h.1.front, refl, front_lower h.1.front t h.1.rest b h.1.is, (h.1.ends, h.1.clear));
    } in
    subst (λ p. Takes p.0 (60 ∷ t) p.1) (sym h.2) g
  where
    regroup : (x r : Text) → 60 ∷ (x ++ (62 ∷ r)) ≡ (60 ∷ (x ++ (62 ∷ []))) ++ r
    regroup x r = simp append_assoc refl

tagged_takes : (t : Text) (q : TokenKind × ℕ) → tagged t ≡ Some q → Takes q.0 (60 ∷ t) q.1
unfolding tagged
tagged_takes t q e =
    or_else (Takes q.0 (60 ∷ t) q.1) _ _ _ q e (λ b h. comment_takes t q b h) (λ _ e.
    or_else (Takes q.0 (60 ∷ t) q.1) _ _ _ q e (λ b h. end_takes t q b h) (λ _ e.
    or_else (Takes q.0 (60 ∷ t) q.1) _ _ _ q e (λ b h. start_takes t q b h) (λ _ e. absurd (cc))))

-- ---- any token

record Plain (t : Text) (n : ℕ) : Type 0 where
  text : Text
  rest : Text
  is : t ≡ text ++ rest
  long : length text ≡ n
  each : AllPlain text rest
  stops : NotPlain rest

plain_more : (b : ℕ) (t : Text) (v : Bool) → is_plain b t ≡ v → Plain t (plain_len t) → Plain (b ∷ t) (cond v (suc (plain_len t)) 0)
plain_more b t true e h = record { text = b ∷ h.text; rest = h.rest; is = ap (λ k. b ∷ k) h.is; long = ap suc h.long; each = (ap (is_plain b) (sym h.is) ∙ e, h.each); stops = h.stops }
plain_more b t false e h = record { text = []; rest = b ∷ t; is = refl; long = refl; each = tt; stops = e }

plain : (t : Text) → Plain t (plain_len t)
plain [] = record { text = []; rest = []; is = refl; long = refl; each = tt; stops = tt }
plain (b ∷ t) = plain_more b t (is_plain b t) refl (plain t)

literal_takes : (b : ℕ) (t : Text) → is_plain b t ≡ true → Takes kind.Literal (b ∷ t) (suc (plain_len t))
literal_takes b t e =
    let h : Plain t (plain_len t) = plain t in
    record { text = b ∷ h.text; rest = h.rest; is = ap (λ k. b ∷ k) h.is; long = ap suc h.long; span = ((ap (is_plain b) (sym h.is) ∙ e, h.each), h.stops) }

-- what is no literal text, and neither `}`, `<` nor `@`, is `{{`
braces : (b : ℕ) (t : Text) → is_plain b t ≡ false → (b == 125) ≡ false → (b == 60) ≡ false → (b == 64) ≡ false → begins opening (b ∷ t) ≡ true
braces b t e f g h = by (begins opening (b ∷ t)) (rw (g, h, f) at e)
  where
    by : (v : Bool) → cond v false true ≡ false → v ≡ true
    by true i = refl
    by false i = absurd (cc)

interpolation_takes : (b : ℕ) (t : Text) (q : TokenKind × ℕ) → begins opening (b ∷ t) ≡ true → sized kind.Interpolation (later 4 (seek literal closing Outside (drop 1 t))) ≡ Some q → Takes q.0 (b ∷ t) q.1
interpolation_takes b t q i e =
    let r : (r : Text) × (b ∷ t ≡ opening ++ r) = begins_is opening (b ∷ t) i in
    let h : (m : ℕ) × Found literal closing Outside (drop 1 t) m × (q ≡ (kind.Interpolation, 4 + m)) = sought kind.Interpolation literal closing 4 (drop 1 t) q e in
    let tl : t ≡ 123 ∷ r.0 = ap (drop 1) r.1 in
    let rest : drop 1 t ≡ r.0 = ap (drop 1) tl in
    let g : Takes kind.Interpolation (b ∷ t) (4 + h.0) = record {
      text = opening ++ (h.1.front ++ closing);
      rest = h.1.rest;
      is = r.1 ∙ ap (λ k. opening ++ k) (sym rest ∙ h.1.is) ∙ regroup h.1.front h.1.rest;
      long = omega (arith, h.1.long, length-append h.1.front closing);
      span = (h.1.front, refl, (h.1.ends, h.1.clear));
    } in
    subst (λ p. Takes p.0 (b ∷ t) p.1) (sym h.2) g
  where
    regroup : (x r : Text) → opening ++ (x ++ (closing ++ r)) ≡ (opening ++ (x ++ closing)) ++ r
    regroup x r = simp append_assoc refl

close_takes : (b : ℕ) (t : Text) (q : TokenKind × ℕ) → (b == 125) ≡ true → Some (kind.Close, 1) ≡ Some q → Takes q.0 (b ∷ t) q.1
close_takes b t q i e = subst (λ p. Takes p.0 (b ∷ t) p.1) (some_same e) (record { text = b ∷ []; rest = t; is = refl; long = refl; span = ap (λ c. c ∷ []) (same_byte b 125 i) })

marked_takes : (b : ℕ) (t : Text) (q : TokenKind × ℕ) → is_plain b t ≡ false → marked b t ≡ Some q → Takes q.0 (b ∷ t) q.1
unfolding marked
marked_takes b t q p e =
    or_else (Takes q.0 (b ∷ t) q.1) _ _ _ q e (λ i h. close_takes b t q i h) (λ f e.
    or_else (Takes q.0 (b ∷ t) q.1) _ _ _ q e (λ i h. subst (λ c. Takes q.0 (c ∷ t) q.1) (sym (same_byte b 60 i)) (tagged_takes t q h)) (λ g e.
    or_else (Takes q.0 (b ∷ t) q.1) _ _ _ q e (λ i h. headed_takes (b ∷ t) q h) (λ h e. interpolation_takes b t q (braces b t p f g h) e)))

span_if : (b : ℕ) (t : Text) (q : TokenKind × ℕ) (v : Bool) → is_plain b t ≡ v → cond v (Some (kind.Literal, suc (plain_len t))) (marked b t) ≡ Some q → Takes q.0 (b ∷ t) q.1
span_if b t q true f e = subst (λ p. Takes p.0 (b ∷ t) p.1) (some_same e) (literal_takes b t f)
span_if b t q false f e = marked_takes b t q f e

pub takes : (t : Text) (q : TokenKind × ℕ) → span t ≡ Some q → Takes q.0 t q.1
unfolding span
takes [] q e = absurd (cc)
takes (b ∷ t) q e = span_if b t q (is_plain b t) refl e
