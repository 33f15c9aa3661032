-- What the code owes at each step of the scan.
use Rattle.std.proofs.Common.{◌≡◌, ℕ, zero, suc, ◌+◌, ◌-◌, ◌^◌, ◌<◌, ◌≤◌, List, [], ◌∷◌, ◌++◌, length, take, drop, refl, sym, ◌∙◌, ap, subst, append_assoc, arith, length-append, length-take, length-drop, get_or, inl, inr}
use Rattle.std.specs.Prelude.{Bool, true, false, ◌==◌, Option, Some, None}
use Rattle.std.proofs.Math.Seq.{take-append_seam, drop-append_seam}
use Rattle.std.proofs.lemmas.List.{append-nil}
use Rattle.std.specs.Str.{IsUtf8}
use Rattle.std.proofs.lemmas.Str.{IsUtf8-take, IsCharBoundary-from_drop}
use Rattle.ng_ast.specs.declared.Place.{Place}
use Rattle.ng_tokens.specs.declared.kinds.Shape.{Shape}
use Rattle.ng_tokens.specs.declared.kinds.Shape.TheVariants as shape
use Rattle.ng_tokens.specs.declared.kinds.Kind.{Kind}
use Rattle.ng_tokens.specs.declared.kinds.Token.{Token}
use Rattle.ng_tokens.specs.Lexis.{Text, unquote, value_of, steps, spelling, IsLiteral, Written}
use Rattle.ng_tokens.specs.Scan.{find, signs, shape as shape_at, piece, before, scan, joined, grown}
use Rattle.ng_tokens.proofs.Pieces.{Cuts, IsPiece, cuts, long_written}
use Rattle.ng_tokens.proofs.SignTable.{Found, find_is, spelled}
use Rattle.ng_tokens.proofs.Shapes.{Takes, takes}
use Rattle.ng_tokens.proofs.Utf8.{after_ascii, after_comment, after_token, ascii_blank, literal_utf8}
use Rattle.ng_tokens.proofs.Tokens.{scan_front}

drop_front : (t a z : Text) (n : ℕ) → t ≡ a ++ z → length a ≡ n → drop n t ≡ z
drop_front t a z n e l = ap (drop n) e ∙ ap (λ m. drop m (a ++ z)) (sym l) ∙ drop-append_seam a z

pub after_shape : (t : Text) (q : Shape × ℕ) → shape_at t ≡ Some q → IsUtf8 t → IsUtf8 (drop q.1 t)
after_shape t q e u =
    let k : Takes t q = takes t q e in
    rw (drop_front t k.0 k.1 q.1 k.2 k.3) (after_token k.0 k.1 q.0 k.4 (subst (λ w. IsUtf8 w) k.2 u))

pub after_piece : (c : Bool) (t : Text) (q : Option Kind × ℕ) → piece c t ≡ Some q → IsUtf8 t → IsUtf8 (drop q.1 t)
after_piece c t q e u = let k : Cuts c t q = cuts c t q e in rw (drop_front t k.0 k.1 q.1 k.2 k.3) (after_is c k.0 k.1 q.0 k.5 (subst (λ w. IsUtf8 w) k.2 u))
  where
    after_is : (c : Bool) (a z : Text) (kind : Option Kind) → IsPiece c a z kind → IsUtf8 (a ++ z) → IsUtf8 z
    after_is c a z None (inl (b, same, d)) u = after_ascii b z (ascii_blank b d) (subst (λ w. IsUtf8 (w ++ z)) same u)
    after_is c a z None (inr (o, e)) u = subst (λ w. IsUtf8 w) (drop-append_seam a z) (after_comment c (a ++ z) (length a) o e u)
    after_is c a z (Some kind) (form, same, w, small, long, o) u = after_token a z form w u

pub within_shape : (t : Text) (q : Shape × ℕ) → shape_at t ≡ Some q → (0 < q.1) × (q.1 ≤ length t)
within_shape t q e =
    let k : Takes t q = takes t q e in
    (omega (arith, long_written k.0 q.0 k.4, k.3), omega (arith, ap length k.2, length-append k.0 k.1, k.3))

pub within_piece : (c : Bool) (t : Text) (q : Option Kind × ℕ) → piece c t ≡ Some q → (0 < q.1) × (q.1 ≤ length t)
within_piece c t q e =
    let k : Cuts c t q = cuts c t q e in
    (k.4, omega (arith, ap length k.2, length-append k.0 k.1, k.3))

-- the token at the front, as the code cuts it
pub front_written : (t : Text) (q : Shape × ℕ) → shape_at t ≡ Some q → Written (take q.1 t) q.0
front_written t q e =
    let k : Takes t q = takes t q e in
    subst (λ w. Written w q.0) (sym (take-append_seam k.0 k.1) ∙ ap (λ m. take m (k.0 ++ k.1)) k.3 ∙ ap (take q.1) (sym k.2)) k.4

pub front_utf8 : (t : Text) (q : Shape × ℕ) → shape_at t ≡ Some q → IsUtf8 t → IsUtf8 (take q.1 t)
front_utf8 t q e u = IsUtf8-take t q.1 u (IsCharBoundary-from_drop t q.1 (within_shape t q e).1 (after_shape t q e u))

pub scan_none : (c : Bool) (t : Text) (p : Place) → 0 < length t → piece c t ≡ None → scan c 0 p t ≡ None
unfolding scan
scan_none c [] p h e = absurd (omega arith)
scan_none c (b ∷ z) p h e = rw e refl

pub scan_some : (c : Bool) (t : Text) (p : Place) (q : Option Kind × ℕ) → piece c t ≡ Some q → scan c 0 p t ≡ before p q.0 (scan c 0 (steps p (take q.1 t)) (drop q.1 t))
scan_some c [] p q e = absurd (omega (arith, within_piece c [] q e))
scan_some c (b ∷ z) p q e =
    let k : Cuts c (b ∷ z) q = cuts c (b ∷ z) q e in
    at k.0 k.1 k.2 k.3 k.4
  where
    at : (a r : Text) → b ∷ z ≡ a ++ r → length a ≡ q.1 → 0 < q.1 → scan c 0 p (b ∷ z) ≡ before p q.0 (scan c 0 (steps p (take q.1 (b ∷ z))) (drop q.1 (b ∷ z)))
    at [] r eq len pos = absurd (omega arith)
    at (d ∷ a) r eq len pos =
        let front : take q.1 (b ∷ z) ≡ d ∷ a = ap (take q.1) eq ∙ ap (λ m. take m ((d ∷ a) ++ r)) (sym len) ∙ take-append_seam (d ∷ a) r in
        let back : drop q.1 (b ∷ z) ≡ r = drop_front (b ∷ z) (d ∷ a) r q.1 eq len in
        let same : q ≡ (q.0, length (d ∷ a)) = ap (λ m. (q.0, m)) (sym len) in
        rw (front, back) (ap (scan c 0 p) eq ∙ scan_front c d a r p q.0 (ap (piece c) (sym eq) ∙ e ∙ ap Some same))

joined_before : (found : List Token) (p : Place) (kind : Kind) (o : Option (List Token)) → joined found (before p (Some kind) o) ≡ joined (found ++ record { kind = kind; place = p } ∷ []) o
joined_before found p kind None = refl
joined_before found p kind (Some ts) = ap Some (sym (append_assoc found (record { kind = kind; place = p } ∷ []) ts))

pub after_some : (t : Text) (n : ℕ) → take (length t - n) (drop n t) ≡ drop n t
after_some t n = take_all (drop n t) (length t - n) (omega (arith, length-drop n t))
  where
    take_all : (w : Text) (m : ℕ) → length w ≤ m → take m w ≡ w
    take_all [] zero h = refl
    take_all [] (suc m) h = refl
    take_all (b ∷ w) zero h = absurd (omega arith)
    take_all (b ∷ w) (suc m) h = ap (λ v. b ∷ v) (take_all w m (omega arith))

-- ---- the loop of `scan`

abbrev pub Inv : Option (List Token) → List Token → Bool → Place → Text → Type 0
Inv o found c p t = (o ≡ joined found (scan c 0 p t)) × (p.line + length t < 2 ^ 31) × (p.column + length t < 2 ^ 31) × (p.byte + length t < 2 ^ 31) × IsUtf8 t

pub inv_none : (o : Option (List Token)) (found : List Token) (c : Bool) (p : Place) (t : Text) → Inv o found c p t → 0 < length t → piece c t ≡ None → o ≡ None
inv_none o found c p t h len e = h.0 ∙ ap (joined found) (scan_none c t p len e)

joined_piece : (found : List Token) (p : Place) (kind : Option Kind) (o : Option (List Token)) → joined found (before p kind o) ≡ joined (grown found p kind) o
joined_piece found p None o = refl
joined_piece found p (Some kind) o = joined_before found p kind o

pub inv_some : (o : Option (List Token)) (found : List Token) (c : Bool) (p : Place) (t : Text) (kind : Option Kind) (n : ℕ) (p' : Place) → Inv o found c p t → piece c t ≡ Some (kind, n)
    → p' ≡ steps p (take n t) → (p'.line ≤ p.line + length (take n t)) × (p'.column ≤ p.column + length (take n t)) × (p'.byte ≤ p.byte + length (take n t))
    → Inv o (grown found p kind) c p' (take (length t - n) (drop n t))
inv_some o found c p t kind n p' (h, l, k, y, u) e s b =
    let w : (0 < n) × (n ≤ length t) = within_piece c t (kind, n) e in
    rw (after_some t n) (
      h ∙ ap (joined found) (scan_some c t p (kind, n) e) ∙ joined_piece found p kind _ ∙ ap (λ v. joined (grown found p kind) (scan c 0 v (drop n t))) (sym s),
      omega (arith, b, w, length-take n t, length-drop n t),
      omega (arith, b, w, length-take n t, length-drop n t),
      omega (arith, b, w, length-take n t, length-drop n t),
      after_piece c t (kind, n) e u,
    )

pub is_more : (t : Text) → (length t == 0) ≡ false → 0 < length t
is_more t e = grind arith

pub is_end : (t : Text) → (length t == 0) ≡ true → length t ≤ 0
is_end t e = grind arith

pub inv_end : (o : Option (List Token)) (found : List Token) (c : Bool) (p : Place) (t : Text) → Inv o found c p t → length t ≤ 0 → o ≡ Some found
unfolding scan
inv_end o found c p [] h len = h.0 ∙ ap Some (append-nil found)
inv_end o found c p (b ∷ z) h len = absurd (omega arith)

-- ---- slices, as the code cuts them

pub find_within : (t : Text) (q : Shape × ℕ) → find signs t ≡ Some q → (0 < q.1) × (q.1 ≤ length t)
find_within t q e =
    let f : Found t q = find_is signs spelled t q e in
    (rw f.3 (long_written (spelling f.0) (shape.Sign f.0) refl), omega (arith, f.3, ap length f.4, length-append (spelling f.0) f.1))

pub literal_front : (z : Text) → 1 ≤ length z → IsLiteral z → IsUtf8 z → IsUtf8 (value_of (unquote (get_or z 0 0) false (take (length z - 1) (drop 1 z))))
literal_front [] len h u = absurd (omega arith)
literal_front (q ∷ z) len h u = rw (after_some (q ∷ z) 1) (literal_utf8 q z h u)
