-- What stands behind a token, white space or a comment is UTF-8, and so is what a literal says.
use Rattle.std.proofs.Common.{◌≡◌, ℕ, suc, ◌+◌, ◌<◌, [], ◌∷◌, ◌++◌, length, drop, refl, sym, ◌∙◌, ap, subst, append_assoc, arith, length-append, get_or}
use Rattle.std.specs.Prelude.{Bool, true, false, cond, ◌==◌, Option, Some, None, nat_lt}
use Rattle.std.proofs.Math.Seq.{take-append_seam, drop-append_seam}
use Rattle.std.proofs.lemmas.List.{append-nil}
use Rattle.std.specs.List.{prefix_len}
use Rattle.std.specs.Str.{IsUtf8}
use Rattle.std.proofs.lemmas.Str.Ascii.{IsAscii-cons}
use Rattle.std.proofs.lemmas.Str.{IsUtf8-append, IsUtf8-nil, IsUtf8-drop, IsUtf8-take, IsUtf8-from_ascii, IsCharBoundary-after_ascii, IsCharBoundary-before_ascii}
use Rattle.std.specs.Option.{option_map}
use Rattle.ng_tokens.specs.declared.kinds.Sign.{Sign}
use Rattle.ng_tokens.specs.declared.kinds.Sign.TheVariants as s
use Rattle.ng_tokens.specs.declared.kinds.Shape.{Shape}
use Rattle.ng_tokens.specs.declared.kinds.Shape.TheVariants as shape
use Rattle.ng_tokens.specs.Lexis.{Text, is_blank, is_digit, is_letter, is_word, is_quote, in_line, escape, put, past, unquote, value_of, closes, closed, comment_len, opens_comment, all, spelling, IsLiteral, Written}
use Rattle.ng_tokens.proofs.Literals.{both_true, literal_more, past_some, put_some}
use Rattle.ng_tokens.proofs.SignTable.{no_true}
use Rattle.ng_tokens.proofs.Pieces.{some_same}

ascii_digit : (b : ℕ) → is_digit b ≡ true → b < 128
ascii_digit b e = grind arith

ascii_word : (b : ℕ) → is_word b ≡ true → b < 128
ascii_word b e = grind arith

ascii_letter : (b : ℕ) → is_letter b ≡ true → b < 128
ascii_letter b e = grind arith

ascii_quote : (b : ℕ) → is_quote b ≡ true → b < 128
ascii_quote b e = grind arith

ascii_escape : (b d : ℕ) → escape b ≡ Some d → (b < 128) × (d < 128)
ascii_escape b d e = (grind arith, grind arith)

pub ascii_blank : (b : ℕ) → is_blank b ≡ true → b < 128
ascii_blank b e = grind arith

-- what comes after a byte below 128 is text
pub after_ascii : (b : ℕ) (z : Text) → b < 128 → IsUtf8 (b ∷ z) → IsUtf8 z
after_ascii b z low u = IsUtf8-drop (b ∷ z) 1 u (IsCharBoundary-after_ascii (b ∷ z) 0 u (omega arith) low)

-- what comes before it is, too
before_ascii : (x : Text) (b : ℕ) (z : Text) → b < 128 → IsUtf8 (x ++ b ∷ z) → IsUtf8 x
before_ascii x b z low u =
    subst (λ w. IsUtf8 w) (take-append_seam x (b ∷ z))
    (IsUtf8-take (x ++ b ∷ z) (length x) u (IsCharBoundary-before_ascii (x ++ b ∷ z) (length x) (omega (arith, length-append x (b ∷ z))) (omega (arith, at_seam x b z))))
  where
    at_seam : (x : Text) (b : ℕ) (z : Text) → get_or (x ++ b ∷ z) (length x) 0 ≡ b
    at_seam [] b z = refl
    at_seam (c ∷ x) b z = at_seam x b z

after_seam : (x : Text) (b : ℕ) (z : Text) → b < 128 → IsUtf8 (x ++ b ∷ z) → IsUtf8 (b ∷ z)
after_seam x b z low u =
    subst (λ w. IsUtf8 w) (drop-append_seam x (b ∷ z))
    (IsUtf8-drop (x ++ b ∷ z) (length x) u (IsCharBoundary-before_ascii (x ++ b ∷ z) (length x) (omega (arith, length-append x (b ∷ z))) (omega (arith, at_seam x b z))))
  where
    at_seam : (x : Text) (b : ℕ) (z : Text) → get_or (x ++ b ∷ z) (length x) 0 ≡ b
    at_seam [] b z = refl
    at_seam (c ∷ x) b z = at_seam x b z

after_run : (p : ℕ → Bool) → ((b : ℕ) → p b ≡ true → b < 128) → (a z : Text) → all p a ≡ true → IsUtf8 (a ++ z) → IsUtf8 z
after_run p low [] z e u = u
after_run p low (b ∷ a) z e u = let h : (p b ≡ true) × (all p a ≡ true) = both_true (p b) (all p a) e in after_run p low a z h.1 (after_ascii b (a ++ z) (low b h.0) u)

-- What is known of a literal's bytes: those before are text with those to come, or, after a backslash, by themselves.
abbrev Joins : Bool → Text → Text → Type 0
Joins true x t = IsUtf8 x × IsUtf8 t
Joins false x t = IsUtf8 (x ++ t)

same_39 : (b q : ℕ) → (b == q) ≡ true → b ≡ q
same_39 b q e = grind arith

-- what a literal says is text, and so is what comes after it
abbrev Said : Text → Text × ℕ → Text → Type 0
Said x v t = IsUtf8 (x ++ v.0) × IsUtf8 (drop v.1 t)

said_plain : (q b : ℕ) → q < 128 → (t : Text) (v : Text × ℕ) (ends slash : Bool) → (b == q) ≡ ends → (b == 92) ≡ slash → (x : Text) → IsUtf8 (x ++ b ∷ t)
    → ((u : Text × ℕ) (y : Text) → unquote q true t ≡ Some u → Joins true y t → Said y u t) → ((u : Text × ℕ) (y : Text) → unquote q false t ≡ Some u → Joins false y t → Said y u t)
    → cond ends (Some ([], 1)) (cond slash (past (unquote q true t)) (put (Some b) (unquote q false t))) ≡ Some v → Said x v (b ∷ t)
said_plain q b low t v true slash e f x u go1 go2 h =
    let same : ([], 1) ≡ v = some_same h in
    let lowb : b < 128 = omega (arith, same_39 b q e) in
    subst (λ w. Said x w (b ∷ t)) same (subst (λ w. IsUtf8 w) (sym (append-nil x)) (before_ascii x b t lowb u), after_ascii b t lowb (after_seam x b t lowb u))
said_plain q b low t v false true e f x u go1 go2 h =
    let p : (w : Text × ℕ) × (unquote q true t ≡ Some w) × (v ≡ (w.0, suc w.1)) = past_some (unquote q true t) v h in
    let lowb : b < 128 = omega (arith, same_39 b 92 f) in
    let s : Said x p.0 t = go1 p.0 x p.1 (before_ascii x b t lowb u, after_ascii b t lowb (after_seam x b t lowb u)) in
    subst (λ w. Said x w (b ∷ t)) (sym p.2) s
said_plain q b low t v false false e f x u go1 go2 h =
    let p : (d : ℕ) × (w : Text × ℕ) × (Some b ≡ Some d) × (unquote q false t ≡ Some w) × (v ≡ (d ∷ w.0, suc w.1)) = put_some (Some b) (unquote q false t) v h in
    let s : Said (x ++ b ∷ []) p.1 t = go2 p.1 (x ++ b ∷ []) p.3 (subst (λ w. IsUtf8 w) (sym (append_assoc x (b ∷ []) t)) u) in
    let same : b ≡ p.0 = some_same p.2 in
    subst (λ w. Said x w (b ∷ t)) (ap (λ d. (d ∷ p.1.0, suc p.1.1)) same ∙ sym p.4) (subst (λ w. IsUtf8 w) (append_assoc x (b ∷ []) p.1.0) s.0, s.1)

said_escaped : (q b : ℕ) (t : Text) (v : Text × ℕ) (x : Text) → IsUtf8 x × IsUtf8 (b ∷ t) → ((u : Text × ℕ) (y : Text) → unquote q false t ≡ Some u → Joins false y t → Said y u t)
    → put (escape b) (unquote q false t) ≡ Some v → Said x v (b ∷ t)
said_escaped q b t v x u go h =
    let p : (d : ℕ) × (w : Text × ℕ) × (escape b ≡ Some d) × (unquote q false t ≡ Some w) × (v ≡ (d ∷ w.0, suc w.1)) = put_some (escape b) (unquote q false t) v h in
    let low : (b < 128) × (p.0 < 128) = ascii_escape b p.0 p.2 in
    let s : Said [] p.1 t = go p.1 [] p.3 (after_ascii b t low.0 u.1) in
    subst (λ w. Said x w (b ∷ t)) (sym p.4) (IsUtf8-append x (p.0 ∷ p.1.0) u.0 (IsUtf8-append (p.0 ∷ []) p.1.0 (one_ascii p.0 low.1) s.0), s.1)
  where
    one_ascii : (d : ℕ) → d < 128 → IsUtf8 (d ∷ [])
    one_ascii d l = IsUtf8-from_ascii (d ∷ []) (IsAscii-cons d [] l (λ i. grind arith))

said : (q : ℕ) → q < 128 → (e : Bool) (t : Text) (v : Text × ℕ) (x : Text) → unquote q e t ≡ Some v → Joins e x t → Said x v t
unfolding unquote
said q low e [] v x h u = absurd (cc)
said q low true (b ∷ t) v x h u = said_escaped q b t v x u (λ w y i j. said q low false t w y i j) h
said q low false (b ∷ t) v x h u = said_plain q b low t v (b == q) (b == 92) refl refl x u (λ w y i j. said q low true t w y i j) (λ w y i j. said q low false t w y i j) h

-- what a whole literal says is text
pub literal_utf8 : (q : ℕ) (z : Text) → IsLiteral (q ∷ z) → IsUtf8 (q ∷ z) → IsUtf8 (value_of (unquote q false z))
literal_utf8 q z (k, (v, h)) u =
    let low : q < 128 = ascii_quote q k in
    rw h (said q low false z (v, length z) [] h (after_ascii q z low u)).0

sign_ascii : (x : Sign) → all (λ b. nat_lt b 128) (spelling x) ≡ true
sign_ascii s.Same = refl
sign_ascii s.NotSame = refl
sign_ascii s.Eq = refl
sign_ascii s.Ne = refl
sign_ascii s.Le = refl
sign_ascii s.Ge = refl
sign_ascii s.Or = refl
sign_ascii s.And = refl
sign_ascii s.OrNull = refl
sign_ascii s.SafeDot = refl
sign_ascii s.Lt = refl
sign_ascii s.Gt = refl
sign_ascii s.Plus = refl
sign_ascii s.Minus = refl
sign_ascii s.Star = refl
sign_ascii s.Slash = refl
sign_ascii s.Percent = refl
sign_ascii s.Not = refl
sign_ascii s.Dot = refl
sign_ascii s.Comma = refl
sign_ascii s.Semicolon = refl
sign_ascii s.Question = refl
sign_ascii s.Colon = refl
sign_ascii s.Bar = refl
sign_ascii s.Assign = refl
sign_ascii s.Hash = refl
sign_ascii s.OpenRound = refl
sign_ascii s.CloseRound = refl
sign_ascii s.OpenSquare = refl
sign_ascii s.CloseSquare = refl
sign_ascii s.OpenBrace = refl
sign_ascii s.CloseBrace = refl

below_128 : (b : ℕ) → nat_lt b 128 ≡ true → b < 128
below_128 b e = grind arith

-- what comes after a token is text
pub after_token : (a z : Text) (form : Shape) → Written a form → IsUtf8 (a ++ z) → IsUtf8 z
after_token [] z form h u = u
after_token (b ∷ a) z shape.Number (d, e) u = after_run is_digit ascii_digit (b ∷ a) z (rw d e) u
after_token (b ∷ a) z shape.Name (d, e) u = after_run is_word ascii_word a z e (after_ascii b (a ++ z) (ascii_letter b d) u)
after_token (b ∷ a) z shape.Variable (d, e) u = after_run is_word ascii_word a z e (after_ascii b (a ++ z) (omega (arith, same_39 b 36 d)) u)
after_token (b ∷ a) z shape.Text (k, (v, h)) u =
    let low : b < 128 = ascii_quote b k in
    subst (λ w. IsUtf8 w) (drop-append_seam a z) (said b low false (a ++ z) (v, length a) [] (literal_more b a v h z) (after_ascii b (a ++ z) low u)).1
after_token (b ∷ a) z (shape.Sign x) h u = subst (λ w. IsUtf8 (w ++ z) → IsUtf8 z) (sym h) (after_run (λ b. nat_lt b 128) below_128 (spelling x) z (sign_ascii x)) u

closes_ascii : (p b : ℕ) → closes p b ≡ true → b < 128
closes_ascii p b e = grind arith

-- what comes after a comment is text
after_closed : (p : ℕ) (t : Text) (n : ℕ) (x : Text) → closed p t ≡ Some n → IsUtf8 (x ++ t) → IsUtf8 (drop n t)
after_closed p [] n x e u = absurd (cc)
after_closed p (b ∷ t) n x e u = after_if p b t n x (λ m y f w. after_closed b t m y f w) (closes p b) refl (closed b t) refl e u
  where
    after_if : (p b : ℕ) (t : Text) (n : ℕ) (x : Text) → ((m : ℕ) (y : Text) → closed b t ≡ Some m → IsUtf8 (y ++ t) → IsUtf8 (drop m t))
        → (v : Bool) → closes p b ≡ v → (o : Option ℕ) → closed b t ≡ o → cond v (Some 1) (option_map suc o) ≡ Some n → IsUtf8 (x ++ b ∷ t) → IsUtf8 (drop n (b ∷ t))
    after_if p b t n x go true k o f g u =
        let same : 1 ≡ n = some_same g in
        let low : b < 128 = closes_ascii p b k in
        subst (λ m. IsUtf8 (drop m (b ∷ t))) same (after_ascii b t low (after_seam x b t low u))
    after_if p b t n x go false k None f g u = absurd (cc)
    after_if p b t n x go false k (Some m) f g u =
        let same : suc m ≡ n = some_same g in
        subst (λ m. IsUtf8 (drop m (b ∷ t))) same (go m (x ++ b ∷ []) f (subst (λ w. IsUtf8 w) (sym (append_assoc x (b ∷ []) t)) u))

line_end : (b : ℕ) → in_line b ≡ false → b < 128
line_end b e = grind arith

after_line : (x z : Text) → IsUtf8 (x ++ z) → IsUtf8 (drop (prefix_len in_line z) z)
after_line x [] u = IsUtf8-nil
after_line x (b ∷ z) u = line_if x b z (in_line b) refl (after_line (x ++ b ∷ []) z (subst (λ w. IsUtf8 w) (sym (append_assoc x (b ∷ []) z)) u)) u
  where
    line_if : (x : Text) (b : ℕ) (z : Text) (v : Bool) → in_line b ≡ v → IsUtf8 (drop (prefix_len in_line z) z) → IsUtf8 (x ++ b ∷ z) → IsUtf8 (drop (cond v (1 + prefix_len in_line z) 0) (b ∷ z))
    line_if x b z true e h u = let n : 1 + prefix_len in_line z ≡ suc (prefix_len in_line z) = omega arith in rw n h
    line_if x b z false e h u = after_seam x b z (line_end b e) u

drop_two : (a b : ℕ) (z : Text) (n : ℕ) → drop (2 + n) (a ∷ b ∷ z) ≡ drop n z
drop_two a b z n = let e : 2 + n ≡ suc (suc n) = omega arith in rw e refl

slashes : (c : Bool) (a b : ℕ) (z : Text) → opens_comment c (a ∷ b ∷ z) ≡ true → (a < 128) × (b < 128)
slashes true a b z e = (grind arith, grind arith)
slashes false a b z e = absurd (no_true e)

pub after_comment : (c : Bool) (t : Text) (n : ℕ) → opens_comment c t ≡ true → comment_len t ≡ Some n → IsUtf8 t → IsUtf8 (drop n t)
after_comment c [] n o e u = absurd (cc)
after_comment c (a ∷ []) n o e u = absurd (cc)
after_comment c (a ∷ b ∷ z) n o e u =
    let low : (a < 128) × (b < 128) = slashes c a b z o in
    here (after_ascii b z low.1 (after_ascii a (b ∷ z) low.0 u)) (b == 47) (closed 0 z) refl e
  where
    here : IsUtf8 z → (v : Bool) (o : Option ℕ) → closed 0 z ≡ o → cond v (Some (2 + prefix_len in_line z)) (option_map (λ m. 2 + m) o) ≡ Some n → IsUtf8 (drop n (a ∷ b ∷ z))
    here u true o f g = let same : 2 + prefix_len in_line z ≡ n = some_same g in subst (λ m. IsUtf8 (drop m (a ∷ b ∷ z))) same (rw drop_two (after_line [] z u))
    here u false None f g = absurd (cc)
    here u false (Some m) f g = let same : 2 + m ≡ n = some_same g in subst (λ m. IsUtf8 (drop m (a ∷ b ∷ z))) same (rw drop_two (after_closed 0 z m [] f u))
