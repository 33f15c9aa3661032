-- The end of the head of a block.
use Rattle.std.proofs.Common.{◌≡◌, ℕ, ◌-◌, [], ◌∷◌, ◌++◌, length, take, refl, sym, ◌∙◌, ap, subst, append_assoc, arith, length-append}
use Rattle.std.proofs.Math.Seq.{take-append_seam}
use Rattle.std.proofs.lemmas.List.{reverse-append, reverse-reverse, length-reverse}
use Rattle.std.specs.Prelude.{Bool, true, false, reverse}
use Rattle.std.specs.List.{prefix_len}
use Rattle.std.specs.Str.{IsUtf8, IsCharBoundary}
use Rattle.std.proofs.lemmas.Str.{IsUtf8-nil, IsCharBoundary-at_seam}
use Rattle.ng_tokens.specs.Lexis.{Text, is_blank, all}
use Rattle.ng_lex.specs.Words.{IsBlank, at_front}
use Rattle.ng_heads.specs.Closes.{ClosedAt, NotClosed}
use Rattle.ng_heads.proofs.Texts.{both_true, same_runs, all_append, same_front, utf8_from, utf8_after}
use Rattle.ng_heads.proofs.Names.{blank_small}
use Rattle.ng_heads.proofs.Cursor.{run_of}

-- ---- white space at the end

all_reverse : (p : ℕ → Bool) (a : Text) → all p a ≡ true → all p (reverse a) ≡ true
all_reverse p [] h = refl
all_reverse p (b ∷ a) h =
    let g = both_true (p b) (all p a) h in
    subst (λ k. all p k ≡ true) (sym (reverse-append (b ∷ []) a)) (all_append p (reverse a) (b ∷ []) (all_reverse p a g.1) (one g.0))
  where
    one : p b ≡ true → all p (b ∷ []) ≡ true
    one e = rw e refl

-- the text without the white space at its end, and that white space
pub record Trimmed (t : Text) (n : ℕ) : Type 0 where
  pub kept : Text
  pub blank : Text
  pub is : t ≡ kept ++ blank
  pub white : IsBlank blank
  pub long : length blank ≡ n
  pub stops : at_front is_blank (reverse kept) ≡ false

pub trimmed : (t : Text) (n : ℕ) → n ≡ prefix_len is_blank (reverse t) → Trimmed t n
trimmed t n e =
    let r = run_of is_blank (reverse t) in record {
      kept = reverse r.1;
      blank = reverse r.0;
      is = sym (reverse-reverse t) ∙ ap reverse r.2.is ∙ reverse-append r.0 r.1;
      white = all_reverse is_blank r.0 r.2.passes;
      long = length-reverse r.0 ∙ r.3 ∙ sym e;
      stops = ap (at_front is_blank) (reverse-reverse r.1) ∙ r.2.stops;
    }

pub kept_is : (t : Text) (n : ℕ) → (k : Trimmed t n) → take (length t - n) t ≡ k.kept
kept_is t n k =
    let size : length t - n ≡ length k.kept = omega (arith, ap length k.is, length-append k.kept k.blank, k.long) in
    ap (λ m. take m t) size ∙ ap (take (length k.kept)) k.is ∙ take-append_seam k.kept k.blank

-- where the white space begins, the text may be cut
pub kept_boundary : (t : Text) (n : ℕ) → n ≡ prefix_len is_blank (reverse t) → IsUtf8 t → IsCharBoundary t (length t - n)
kept_boundary t n e u =
    let k = trimmed t n e in
    let size : length k.kept ≡ length t - n = omega (arith, ap length k.is, length-append k.kept k.blank, k.long) in
    subst (λ m. IsCharBoundary t m) size (IsCharBoundary-at_seam t k.kept k.blank k.is (rest k.kept k.blank k.white (subst IsUtf8 k.is u)))
  where
    rest : (a w : Text) → IsBlank w → IsUtf8 (a ++ w) → IsUtf8 w
    rest a [] h v = IsUtf8-nil
    rest a (b ∷ w) h v = let s = blank_small b (both_true (is_blank b) (all is_blank w) h).0 in utf8_from a w b (omega arith) v

-- ---- the bracket before it

pub closes : (t inside kept : Text) (n len : ℕ) → t ≡ inside ++ (123 ∷ []) → n ≡ prefix_len is_blank (reverse inside) → len ≡ length inside - n → kept ≡ take len inside
    → kept ≡ take (length kept - 1) kept ++ (41 ∷ []) → ClosedAt t len
closes t inside kept n len is e l f g =
    let k = trimmed inside n e in
    let x : Text = take (length kept - 1) kept in
    let here : kept ≡ k.kept = f ∙ ap (λ m. take m inside) l ∙ kept_is inside n k in
    let front : inside ≡ (x ++ (41 ∷ [])) ++ k.blank = k.is ∙ ap (λ w. w ++ k.blank) (sym here ∙ g) in record {
      x = x;
      v = k.blank;
      blank = k.white;
      is = is ∙ ap (λ w. w ++ (123 ∷ [])) (front ∙ append_assoc x (41 ∷ []) k.blank) ∙ append_assoc x (41 ∷ k.blank) (123 ∷ []);
      long = l ∙ size inside k.kept k.blank n k.is k.long ∙ ap length (sym here ∙ g) ∙ length-append x (41 ∷ []);
    }
  where
    size : (t a b : Text) (n : ℕ) → t ≡ a ++ b → length b ≡ n → length t - n ≡ length a
    size t a b n e f = omega (arith, ap length e, length-append a b, f)

-- after the bracket the text may be cut
pub closed_boundary : (t : Text) (n : ℕ) → ClosedAt t n → IsUtf8 t → IsCharBoundary t n
closed_boundary t n k u =
    let whole : t ≡ (k.x ++ (41 ∷ [])) ++ (k.v ++ (123 ∷ [])) = k.is ∙ sym (append_assoc k.x (41 ∷ []) (k.v ++ (123 ∷ []))) in
    let size : length (k.x ++ (41 ∷ [])) ≡ n = length-append k.x (41 ∷ []) ∙ sym k.long in
    subst (λ m. IsCharBoundary t m) size (IsCharBoundary-at_seam t (k.x ++ (41 ∷ [])) (k.v ++ (123 ∷ [])) whole (utf8_after k.x (k.v ++ (123 ∷ [])) 41 (omega arith) (subst IsUtf8 k.is u)))

-- what stands up to it
pub closed_text : (t : Text) (n : ℕ) (k : ClosedAt t n) → take n t ≡ k.x ++ (41 ∷ [])
closed_text t n k =
    ap (λ m. take m t) (k.long ∙ sym (length-append k.x (41 ∷ []))) ∙ ap (take (length (k.x ++ (41 ∷ [])))) (k.is ∙ sym (append_assoc k.x (41 ∷ []) (k.v ++ (123 ∷ [])))) ∙ take-append_seam (k.x ++ (41 ∷ [])) (k.v ++ (123 ∷ []))

pub no_brace : (t : Text) → ((front : Text) → t ≡ front ++ (123 ∷ []) → ⊥) → NotClosed t
no_brace t none x v blank is = none (x ++ (41 ∷ v)) (is ∙ sym (append_assoc x (41 ∷ v) (123 ∷ [])))

pub last_same : (x y : Text) (b : ℕ) → x ++ (b ∷ []) ≡ y ++ (b ∷ []) → x ≡ y
last_same x y b e = (same_front x y (b ∷ []) (b ∷ []) e (let n = ap length e in omega (arith, n, length-append x (b ∷ []), length-append y (b ∷ [])))).0

pub no_round : (t inside : Text) (n len : ℕ) (kept : Text) → t ≡ inside ++ (123 ∷ []) → n ≡ prefix_len is_blank (reverse inside) → len ≡ length inside - n → kept ≡ take len inside
    → ((front : Text) → kept ≡ front ++ (41 ∷ []) → ⊥) → NotClosed t
no_round t inside n len kept is e l f none x v blank same =
    let k = trimmed inside n e in
    let whole : inside ≡ x ++ (41 ∷ v) = last_same inside (x ++ (41 ∷ v)) 123 (sym is ∙ same ∙ sym (append_assoc x (41 ∷ v) (123 ∷ []))) in
    let joined : k.kept ++ k.blank ≡ (x ++ (41 ∷ [])) ++ v = sym k.is ∙ whole ∙ sym (append_assoc x (41 ∷ []) v) in
    let back : reverse k.blank ++ reverse k.kept ≡ reverse v ++ (41 ∷ reverse x) =
    sym (reverse-append k.kept k.blank) ∙ ap reverse joined ∙ reverse-append (x ++ (41 ∷ [])) v ∙ ap (λ w. reverse v ++ w) (reverse-append x (41 ∷ [])) in
    let g = same_runs is_blank (reverse k.blank) (reverse v) (reverse k.kept) (41 ∷ reverse x) back (all_reverse is_blank k.blank k.white) (all_reverse is_blank v blank) k.stops refl in
    let here : k.kept ≡ x ++ (41 ∷ []) = sym (reverse-reverse k.kept) ∙ ap reverse g.1 ∙ reverse-append (41 ∷ []) (reverse x) ∙ ap (λ w. w ++ (41 ∷ [])) (reverse-reverse x) in
    none x (f ∙ ap (λ m. take m inside) l ∙ kept_is inside n k ∙ here)
