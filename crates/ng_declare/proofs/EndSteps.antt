-- Steps of the scan for an end.
use Rattle.std.proofs.Common.{◌≡◌, ℕ, zero, suc, ◌+◌, ◌<◌, ◌≤◌, true, false, [], ◌∷◌, ◌++◌, length, take, drop, refl, sym, ◌∙◌, ap, arith, length-take, length-drop}
use Rattle.std.specs.Prelude.{Option, Some, None, ◌==◌}
use Rattle.std.specs.Str.{IsUtf8}
use Rattle.std.proofs.lemmas.List.{take-append-drop}
use Rattle.ng_tokens.specs.declared.kinds.Sign.{Sign}
use Rattle.ng_tokens.specs.declared.kinds.Kind.{Kind}
use Rattle.ng_tokens.specs.Lexis.{Text}
use Rattle.ng_tokens.specs.Scan.{piece}
use Rattle.ng_tokens.proofs.Scanning.{within_piece}
use Rattle.ng_exprs.specs.Limits.{after}
use Rattle.ng_declare.specs.declared.ends.Turn.TheVariants as turn
use Rattle.ng_declare.specs.Ends.{ends_by, end_from, end_of, later, Turns}
use Rattle.ng_declare.specs.EndsLaws.{end_gap, end_token, later_none, later_more}
use Rattle.ng_declare.proofs.Gaps.{boundary}

pub turn_stuck : (x : Sign) (d : ℕ) (t : Text) → piece true t ≡ None → Turns x d t turn.Stuck
unfolding end_from
turn_stuck x d [] e = refl
turn_stuck x d (b ∷ z) e = rw e refl

pub turn_ended : (x : Sign) (d : ℕ) (t : Text) (kind : Kind) (n : ℕ) → piece true t ≡ Some (Some kind, n) → ends_by x kind d ≡ true → Turns x d t turn.Ended
unfolding end_from
turn_ended x d [] kind n e f = absurd (omega (arith, within_piece true [] (Some kind, n) e))
turn_ended x d (b ∷ z) kind n e f = rw e (rw f refl)

-- the front of a text that has so many bytes, and the rest
abbrev Front : Text → ℕ → Type 0
Front t n = (b : ℕ) × (a r : Text) × (t ≡ (b ∷ a) ++ r) × (n ≡ length (b ∷ a)) × (r ≡ drop n t)

front_of : (t : Text) (n : ℕ) → 0 < n → n ≤ length t → Front t n
front_of [] n some most = absurd (omega arith)
front_of (b ∷ z) zero some most = absurd (omega arith)
front_of (b ∷ z) (suc n) some most =
    let len : suc n ≡ length (b ∷ take n z) = omega (arith, length-take n z) in
    (b, take n z, drop n z, ap (λ w. b ∷ w) (sym (take-append-drop n z)), len, refl)

pub turn_gap : (x : Sign) (d : ℕ) (t : Text) (n : ℕ) → piece true t ≡ Some (None, n) → IsUtf8 t → Turns x d t (turn.Past n d)
turn_gap x d t n e u =
    let w = within_piece true t (None, n) e in
    let f : Front t n = front_of t n w.0 w.1 in
    let q : piece true ((f.0 ∷ f.1) ++ f.2) ≡ Some (None, length (f.0 ∷ f.1)) = ap (piece true) (sym f.3) ∙ e ∙ ap (λ m. let p : Option Kind × ℕ = (None, m) in Some p) f.4 in (
      ap (end_from x d 0) f.3 ∙ end_gap x d f.0 f.1 f.2 q ∙ ap (λ m. later m (end_from x d 0 f.2)) (sym f.4) ∙ ap (λ r. later n (end_from x d 0 r)) f.5,
      w.0,
      w.1,
      omega arith,
      boundary t (None, n) e u,
    )

pub turn_token : (x : Sign) (d : ℕ) (t : Text) (kind : Kind) (n e : ℕ) → piece true t ≡ Some (Some kind, n) → ends_by x kind d ≡ false → e ≡ after kind d → e ≤ d + 1 → IsUtf8 t → Turns x d t (turn.Past n e)
turn_token x d t kind n e h g same most u =
    let w = within_piece true t (Some kind, n) h in
    let f : Front t n = front_of t n w.0 w.1 in
    let q : piece true ((f.0 ∷ f.1) ++ f.2) ≡ Some (Some kind, length (f.0 ∷ f.1)) = ap (piece true) (sym f.3) ∙ h ∙ ap (λ m. let p : Option Kind × ℕ = (Some kind, m) in Some p) f.4 in (
      ap (end_from x d 0) f.3 ∙ end_token x d f.0 f.1 f.2 kind q g ∙ ap (λ m. later m (end_from x (after kind d) 0 f.2)) (sym f.4) ∙ ap (λ r. later n (end_from x (after kind d) 0 r)) f.5
          ∙ ap (λ m. later n (end_from x m 0 (drop n t))) (sym same),
      w.0,
      w.1,
      most,
      boundary t (Some kind, n) h u,
    )

-- ---- the loop

-- what is left of a text, after so many bytes, with so many brackets open
abbrev pub Left : Sign → Text → ℕ → ℕ → Text → Type 0
Left x t at d z = (end_of x t ≡ later at (end_from x d 0 z)) × (at + length z ≡ length t) × (d ≤ at)

pub left_start : (x : Sign) (t : Text) → Left x t 0 0 t
left_start x t = (sym (later_none (end_from x 0 0 t)), omega arith, omega arith)

pub left_stuck : (x : Sign) (t : Text) (at d : ℕ) (z : Text) → Left x t at d z → end_from x d 0 z ≡ None → None ≡ end_of x t
left_stuck x t at d z h e = sym (h.0 ∙ ap (later at) e)

pub left_ended : (x : Sign) (t : Text) (at d : ℕ) (z : Text) → Left x t at d z → end_from x d 0 z ≡ Some 0 → Some at ≡ end_of x t
left_ended x t at d z h e = let f : at + 0 ≡ at = omega arith in sym (h.0 ∙ ap (later at) e ∙ ap Some f)

pub left_past : (x : Sign) (t : Text) (at d : ℕ) (z : Text) (n e : ℕ) → Left x t at d z → Turns x d z (turn.Past n e) → Left x t (at + n) e (drop n z)
left_past x t at d z n e h a = (h.0 ∙ ap (later at) a.0 ∙ later_more at n _, omega (arith, h.1, a.2, length-drop n z), omega (arith, h.2, a.1, a.3))

pub left_end : (x : Sign) (t : Text) (at d : ℕ) (z : Text) → Left x t at d z → length z ≤ 0 → None ≡ end_of x t
unfolding end_from
left_end x t at d [] h len = sym h.0
left_end x t at d (b ∷ z) h len = absurd (omega arith)

pub no_text : (t : Text) → (length t == 0) ≡ true → length t ≤ 0
no_text t e = grind arith
