-- Steps of the loop over white space and comments.
use Rattle.std.proofs.Math.Seq.{take-append-add, drop-append-add}
use Rattle.std.proofs.Common.{length-take, ◌≡◌, ℕ, suc, ◌+◌, ◌-◌, ◌<◌, true, false, [], ◌∷◌, ◌++◌, length, take, drop, refl, sym, ◌∙◌, ap, arith}
use Rattle.std.specs.Prelude.{Option, Some, None, Ok, Err}
use Rattle.std.specs.Option.{option_map}
use Rattle.std.specs.Str.{IsUtf8, IsCharBoundary}
use Rattle.std.proofs.lemmas.Str.{IsCharBoundary-from_drop}
use Rattle.std.proofs.lemmas.List.{take-append-drop}
use Rattle.ng_ast.specs.declared.Place.{Place}
use Rattle.ng_tokens.specs.declared.kinds.Kind.{Kind}
use Rattle.ng_tokens.specs.Lexis.{Text, steps}
use Rattle.ng_tokens.specs.Scan.{piece}
use Rattle.ng_tokens.proofs.Scanning.{within_piece, after_piece}
use Rattle.ng_phrases.specs.Parser.{Stop, Outcome}
use Rattle.ng_phrases.specs.Tokens.{begins_gap, gap_from, passed, parse_gap}
use Rattle.ng_phrases.specs.ParserLaws.{steps-append}
use Rattle.ng_phrases.specs.TokensLaws.{gap_none, gap_over}

pub boundary : (t : Text) (q : Option Kind × ℕ) → piece true t ≡ Some q → IsUtf8 t → IsCharBoundary t q.1
boundary t q e u = IsCharBoundary-from_drop t q.1 (within_piece true t q e).1 (after_piece true t q e u)

pub gap_stop : {Q : Type 0} (p : Place) (t : Text) → begins_gap t ≡ true → piece true t ≡ None → parse_gap {Q = Q} p t ≡ Err Stop.Syntax
unfolding parse_gap gap_from
gap_stop p [] e f = absurd (cc)
gap_stop p (b ∷ z) e f = rw (e, f) refl

pub gap_end : {Q : Type 0} (p : Place) (t : Text) → begins_gap t ≡ false → parse_gap {Q = Q} p t ≡ Ok (tt, p, t)
unfolding parse_gap
gap_end p t e = rw (gap_none t e) refl

passed_over : {Q : Type 0} (p : Place) (a r : Text) (o : Option ℕ) → ◌≡◌ {A = Outcome Q (Unit {0})} (passed tt (option_map (λ m. length a + m) o) p (a ++ r)) (passed tt o (steps p a) r)
passed_over p a r None = refl
passed_over p a r (Some m) = rw (take-append-add a r m, drop-append-add a r m, steps-append p a (take m r)) refl

gap_front : (b : ℕ) (a r : Text) (o : Option Kind) → begins_gap ((b ∷ a) ++ r) ≡ true → piece true ((b ∷ a) ++ r) ≡ Some (o, length (b ∷ a)) → gap_from 0 ((b ∷ a) ++ r) ≡ option_map (λ m. length (b ∷ a) + m) (gap_from 0 r)
unfolding gap_from
gap_front b a r o e f = rw (e, f) (ap (option_map suc) (gap_over a r (length (b ∷ a) - 1) (omega arith)) ∙ more (gap_from 0 r))
  where
    more : (k : Option ℕ) → option_map suc (option_map (λ m. (length (b ∷ a) - 1) + m) k) ≡ option_map (λ m. length (b ∷ a) + m) k
    more None = refl
    more (Some m) = let h : suc ((length (b ∷ a) - 1) + m) ≡ length (b ∷ a) + m = omega arith in ap Some h

gap_seam : {Q : Type 0} (p : Place) (a r : Text) (o : Option Kind) → 0 < length a → begins_gap (a ++ r) ≡ true → piece true (a ++ r) ≡ Some (o, length a) → parse_gap {Q = Q} p (a ++ r) ≡ parse_gap (steps p a) r
unfolding parse_gap
gap_seam p [] r o some e f = absurd (omega arith)
gap_seam p (b ∷ a) r o some e f = ap (λ k. passed tt k p ((b ∷ a) ++ r)) (gap_front b a r o e f) ∙ passed_over p (b ∷ a) r (gap_from 0 r)

-- a piece of white space, or a comment, and then what is left
pub gap_on : {Q : Type 0} (p : Place) (t : Text) (o : Option Kind) (n : ℕ) → begins_gap t ≡ true → piece true t ≡ Some (o, n) → parse_gap {Q = Q} p t ≡ parse_gap (steps p (take n t)) (drop n t)
gap_on p t o n e f =
    let w = within_piece true t (o, n) f in
    let all : take n t ++ drop n t ≡ t = take-append-drop n t in
    let len : length (take n t) ≡ n = omega (arith, length-take n t, w.1) in
    ap (parse_gap p) (sym all)
    ∙ gap_seam p (take n t) (drop n t) o (omega (arith, w.0)) (ap begins_gap all ∙ e) (ap (piece true) all ∙ f ∙ ap (λ m. let q : Option Kind × ℕ = (o, m) in Some q) (sym len))
