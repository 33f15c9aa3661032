-- Expressions at the front of a text, and what may come after them.
use Rattle.std.proofs.Common.{◌≡◌, ℕ, ◌<◌, [], ◌∷◌, ◌++◌, length, take, refl, sym, ◌∙◌, ap, subst, append_assoc, arith, length-append, inl, inr}
use Rattle.std.proofs.Math.Seq.{take-append_seam}
use Rattle.std.proofs.lemmas.Str.{IsCharBoundary-before_ascii}
use Rattle.std.specs.Prelude.{Bool, true, false, ◌||◌, ◌==◌, Option, Some, None, Ok, Err, slice_get}
use Rattle.std.specs.Str.{IsUtf8, IsCharBoundary}
use Rattle.ng_ast.specs.declared.Place.{Place}
use Rattle.ng_ast.specs.declared.Expr.{Expr}
use Rattle.ng_tokens.specs.Lexis.{Text, steps}
use Rattle.ng_exprs.specs.Reading.{ReadsExpr, OverText}
use Rattle.ng_exprs.specs.Ends.{IsEnd, end_from}
use Rattle.ng_exprs.proofs.Closing.{ends}
use Rattle.ng_lex.specs.Heads.{EndsAfter, OverFront}
use Rattle.ng_lex.proofs.Sound.{get_split}
use Rattle.ng_heads.specs.declared.at.At.{At}
use Rattle.ng_heads.specs.declared.halt.Stop.{Stop}
use Rattle.ng_heads.specs.declared.halt.Stop.TheVariants as stop
use Rattle.ng_heads.specs.Fronts.{is_end, AnswersExpr, Ended, NoFront, ReadFront, PastLimit, AnswersFront}
use Rattle.ng_heads.specs.Steps.{Past}
use Rattle.ng_heads.proofs.Texts.{same_byte, same_front, no_true, not_both, at_seam}
use Rattle.ng_heads.proofs.After.{ends_any}
use Rattle.ng_heads.proofs.HeadLaws.{StartsEnd, expr_then}
use Rattle.ng_heads.proofs.PartFronts.{front_heavy}

-- ---- where the expression ends

end_is : (o : Option ℕ) → is_end o ≡ true → (c : ℕ) × (o ≡ Some c) × IsEnd c
end_is None e = absurd (no_true e)
end_is (Some c) e = by (c == 59) (c == 41) refl refl e
  where
    by : (v w : Bool) → (c == 59) ≡ v → (c == 41) ≡ w → (v || w) ≡ true → (d : ℕ) × (Some c ≡ Some d) × IsEnd d
    by true w f g h = (c, refl, inr (same_byte c 59 f))
    by false true f g h = (c, refl, inl (same_byte c 41 g))
    by false false f g h = absurd (cc)

is_one_end : (c : ℕ) → IsEnd c → is_end (Some c) ≡ true
is_one_end c (inl e) = rw e refl
is_one_end c (inr e) = rw e refl

low_end : (c : ℕ) → IsEnd c → c < 128
low_end c (inl e) = omega arith
low_end c (inr e) = omega arith

get_seam : (x : Text) (c : ℕ) (z : Text) → slice_get (x ++ (c ∷ z)) (length x) ≡ Some c
get_seam [] c z = refl
get_seam (b ∷ x) c z = get_seam x c z

pub ended : (t : Text) (n : ℕ) → end_from 0 0 t ≡ Some n → is_end (slice_get t n) ≡ true → Ended t n
ended t n e f =
    let c = end_is (slice_get t n) f in
    let s = get_split t n c.0 c.1 in
    record { x = s.0; c = c.0; z = s.1; is = s.2; end = c.2; long = sym s.3; ends = ap (end_from 0 0) (sym s.2) ∙ e ∙ ap Some (sym s.3) }

pub ended_boundary : (t : Text) (n : ℕ) → is_end (slice_get t n) ≡ true → IsUtf8 t → IsCharBoundary t n
ended_boundary t n f u =
    let c = end_is (slice_get t n) f in
    let s = get_split t n c.0 c.1 in
    let inside : length s.0 < length t = omega (arith, ap length s.2, length-append s.0 (c.0 ∷ s.1)) in
    let low : Rattle.std.proofs.Common.get_or t (length s.0) 0 < 128 = subst (λ k. Rattle.std.proofs.Common.get_or k (length s.0) 0 < 128) (sym s.2) (rw (at_seam s.0 s.1 c.0) (low_end c.0 c.2)) in
    subst (λ k. IsCharBoundary t k) s.3 (IsCharBoundary-before_ascii t (length s.0) inside low)

none_some : {A : Type 0} {a : A} → None ≡ Some a → ⊥
none_some e = cc

pub unended : (t : Text) → end_from 0 0 t ≡ None → NoFront t
unended t e p x c z a is i h = none_some (sym e ∙ ap (end_from 0 0) is ∙ ends p x a c z h i)

some_len : {m n : ℕ} → Some m ≡ Some n → m ≡ n
some_len e = cc

pub not_ended : (t : Text) (n : ℕ) → end_from 0 0 t ≡ Some n → is_end (slice_get t n) ≡ false → NoFront t
not_ended t n e f p x c z a is i h =
    let long : n ≡ length x = some_len (sym e ∙ ap (end_from 0 0) is ∙ ends p x a c z h i) in
    not_both (is_end (slice_get t n)) (ap (λ k. is_end (slice_get k n)) is ∙ ap (λ k. is_end (slice_get (x ++ (c ∷ z)) k)) long ∙ ap is_end (get_seam x c z) ∙ is_one_end c i) f

-- ---- the expression

front_text : (t : Text) (n : ℕ) (k : Ended t n) → take n t ≡ k.x
front_text t n k = ap (λ m. take m t) k.long ∙ ap (take (length k.x)) k.is ∙ take-append_seam k.x (k.c ∷ k.z)

front_rest : (t r : Text) (n : ℕ) (k : Ended t n) → t ≡ take n t ++ r → r ≡ k.c ∷ k.z
front_rest t r n k e = (same_front (take n t) k.x r (k.c ∷ k.z) (sym e ∙ k.is) (ap length (front_text t n k))).1

pub front_read : (at next : At) (n : ℕ) (q : Place) (u : Text) (e : Expr) → Ended at.text.now n → Past at (take n at.text.now) next → u ≡ take n at.text.now → q ≡ at.place → AnswersExpr q u (Ok e) → ReadFront at e next
front_read at next n q u e k h f g a =
    let same : u ≡ k.x = f ∙ front_text at.text.now n k in record {
      x = k.x;
      c = k.c;
      z = k.z;
      is = k.is;
      end = k.end;
      left = front_rest at.text.now next.text.now n k h.is;
      place = h.place ∙ ap (steps at.place) (front_text at.text.now n k);
      reads = subst (λ v. ReadsExpr false v k.x e) g (subst (λ v. ReadsExpr false q v e) same a.0);
      calm = λ o. a.1 (subst (λ v. OverText false v u) (sym g) (subst (OverText false at.place) (sym same) o));
    }

pub front_stops : (at : At) (n : ℕ) (q : Place) (u : Text) (s : Stop) → Ended at.text.now n → u ≡ take n at.text.now → q ≡ at.place → AnswersExpr q u (Err s) → AnswersFront at (Err s)
front_stops at n q u (stop.Syntax r) k f g a = λ x c z e is i h.
    let long : EndsAfter x (c ∷ z) = ends at.place x e c z h i in
    let size : n ≡ length x = k.long ∙ some_len (sym k.ends ∙ ap (end_from 0 0) (sym k.is ∙ is) ∙ long) in
    let same : u ≡ x = f ∙ ap (λ m. take m at.text.now) size ∙ ap (take (length x)) is ∙ take-append_seam x (c ∷ z) in
    a e (subst (λ v. ReadsExpr false v u e) (sym g) (subst (λ v. ReadsExpr false at.place v e) (sym same) h))
front_stops at n q u stop.Limit k f g a =
    record { x = k.x; c = k.c; z = k.z; is = k.is; end = k.end; ends = k.ends; over = subst (λ v. OverText false v k.x) g (subst (OverText false q) (f ∙ front_text at.text.now n k) a) }
front_stops at n q u stop.Memory k f g a = tt

-- ---- what comes after

pub starts_end : (c : ℕ) (z t : Text) → IsEnd c → t ≡ c ∷ z → StartsEnd t
starts_end c z t i e = (c, z, e, i)

-- what passes a limit does so whatever comes after it
pub past_any : (p : Place) (t : Text) → PastLimit p t → (y : Text) → OverFront p (t ++ y)
past_any p t k y =
    (k.x, k.c ∷ (k.z ++ y), ap (λ v. v ++ y) k.is ∙ append_assoc k.x (k.c ∷ k.z) y, ends_any k.x k.c k.z (k.z ++ y) k.end k.ends, k.over)

-- what is read passes none, whatever comes after it
pub read_calm : (at next : At) (e : Expr) → ReadFront at e next → (y : Text) → OverFront at.place (at.text.now ++ y) → ⊥
read_calm at next e k y over =
    let whole : at.text.now ++ y ≡ k.x ++ (k.c ∷ (k.z ++ y)) = ap (λ v. v ++ y) k.is ∙ append_assoc k.x (k.c ∷ k.z) y in
    k.calm (front_heavy at.place k.x (k.c ∷ (k.z ++ y)) (ends at.place k.x e k.c (k.z ++ y) k.reads k.end) (subst (OverFront at.place) whole over))

-- another expression at the front is the same text
pub read_same : (at next : At) (e d : Expr) (k : ReadFront at e next) (q : Place) (x z : Text) (c : ℕ) → at.text.now ≡ x ++ (c ∷ z) → IsEnd c → ReadsExpr false q x d → (k.x ≡ x) × (next.text.now ≡ c ∷ z)
read_same at next e d k q x z c is i reads =
    let g = expr_then at.place q k.x x (k.c ∷ k.z) (c ∷ z) e d k.reads reads (starts_end k.c k.z (k.c ∷ k.z) k.end refl) (starts_end c z (c ∷ z) i refl) (sym k.is ∙ is) in
    (g.0, k.left ∙ g.1)
