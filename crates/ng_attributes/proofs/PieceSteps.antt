-- Pieces as the code reads them.
use Rattle.std.proofs.Common.{◌≡◌, ℕ, suc, ◌+◌, ◌-◌, ◌<◌, ◌≤◌, List, [], ◌∷◌, ◌++◌, length, take, drop, refl, sym, ◌∙◌, ap, subst, append_assoc, arith, length-append}
use Rattle.std.proofs.Math.Seq.{take-append_seam}
use Rattle.std.specs.Prelude.{Bool, true, false, cond, ◌==◌, Option, Some, None}
use Rattle.std.specs.Str.{IsUtf8, IsCharBoundary}
use Rattle.std.proofs.lemmas.Str.{IsCharBoundary-at_seam, IsCharBoundary-before_ascii, IsCharBoundary-end}
use Rattle.ng_ast.specs.declared.Place.{Place}
use Rattle.ng_ast.specs.declared.Expr.{Expr}
use Rattle.ng_ast.specs.declared.AttrForm.{AttrForm}
use Rattle.ng_ast.specs.declared.AttrForm.TheVariants as a
use Rattle.ng_ast.specs.declared.Piece.{Piece}
use Rattle.ng_ast.specs.declared.Piece.TheVariants as piece
use Rattle.ng_tokens.specs.Lexis.{Text, begins}
use Rattle.ng_exprs.specs.Reading.{ReadsExpr, OverText}
use Rattle.ng_lex.specs.declared.kinds.TokenKind.{TokenKind}
use Rattle.ng_lex.specs.declared.kinds.TokenKind.TheVariants as kind
use Rattle.ng_lex.specs.declared.quotes.Quoting.TheVariants.{Outside}
use Rattle.ng_lex.specs.declared.letters.PlacedLetter.{PlacedLetter}
use Rattle.ng_lex.specs.Letters.{Letters, bytes, start}
use Rattle.ng_lex.specs.Words.{literal, unquoted, Clear, First, opening, closing}
use Rattle.ng_lex.specs.Values.{holds, AtOpening, ReadsPieces, OverPieces, IsPlain}
use Rattle.ng_lex.specs.Spans.{IsSpan}
use Rattle.ng_lex.proofs.Boundaries.{word_boundary}
use Rattle.ng_attributes.specs.declared.spelled.Spelled.{Spelled}
use Rattle.ng_attributes.specs.Spelling.{IsSpelled, Splits}
use Rattle.ng_attributes.specs.Pieces.{TextAt, InterpolationAt, GoesPieces, text_len, is_value, PieceAt}
use Rattle.ng_attributes.specs.declared.stop.Stop.{Stop}
use Rattle.ng_attributes.specs.Answers.{Halts}
use Rattle.ng_attributes.proofs.Steps.{goes_more, goes_end, goes_unread}
use Rattle.ng_attributes.proofs.Answering.{halts_as}
use Rattle.ng_attributes.proofs.Lengths.{length_bytes}
use Rattle.ng_attributes.proofs.WordLaws.{ascii_utf8}
use Rattle.ng_attributes.proofs.Texts.{some_one, no_true, not_both, same_front, no_length, begins_self}
use Rattle.ng_attributes.proofs.PieceLaws.{bytes_append, unclosed, opening_begins, text_goes, interpolation_goes, interpolation_over, interpolation_unread, none_over}

-- ---- text

zero_suc : {n : ℕ} → suc n ≡ 0 → ⊥
zero_suc e = omega arith

front_by : (v : Bool) (n m : ℕ) → suc m ≡ cond v 0 (suc n) → (v ≡ false) × (m ≡ n)
front_by true n m e = absurd (zero_suc e)
front_by false n m e = (refl, omega arith)

here_by : (v : Bool) (n : ℕ) → 0 ≡ cond v 0 (suc n) → v ≡ true
here_by true n e = refl
here_by false n e = absurd (zero_suc (sym e))

at_opening : (t : Text) → 0 ≡ text_len t → AtOpening t
at_opening [] e = tt
at_opening (b ∷ t) e = here_by (begins opening (b ∷ t)) (text_len t) e

-- the text before the first `{{`
pub text_front : (t a z : Text) → t ≡ a ++ z → length a ≡ text_len t → Clear unquoted opening Outside a z × AtOpening z
text_front t [] z e h = (tt, subst AtOpening e (at_opening t h))
text_front [] (b ∷ a) z e h = absurd (cc)
text_front (c ∷ t) (b ∷ a) z e h =
    let s : c ≡ b = cc in
    let r : t ≡ a ++ z = cc in
    let g = front_by (begins opening (c ∷ t)) (text_len t) (length a) h in
    let i = text_front t a z r g.1 in
    ((ap (begins opening) (sym e) ∙ g.0, i.0), i.1)

pub none_holds : (t : Text) → text_len t ≡ length t → holds opening t ≡ false
none_holds [] e = refl
none_holds (b ∷ t) e = let g = front_by (begins opening (b ∷ t)) (text_len t) (length t) (sym e) in rw g.0 (none_holds t (sym g.1))

pub some_holds : (t : Text) → (text_len t ≡ length t → ⊥) → holds opening t ≡ true
some_holds [] n = absurd (n refl)
some_holds (b ∷ t) n = by (begins opening (b ∷ t)) refl (λ m. some_holds t m)
  where
    by : (v : Bool) → begins opening (b ∷ t) ≡ v → ((text_len t ≡ length t → ⊥) → holds opening t ≡ true) → cond v true (holds opening t) ≡ true
    by true e go = refl
    by false e go = go (λ f. n (rw e (ap suc f)))

-- a value that passes a limit has an interpolation
begins_holds : (t : Text) → begins opening t ≡ true → holds opening t ≡ true
begins_holds [] e = absurd (no_true e)
begins_holds (b ∷ t) e = rw e refl

later_holds : (x t : Text) → holds opening t ≡ true → holds opening (x ++ t) ≡ true
later_holds [] t e = e
later_holds (b ∷ x) t e = by (begins opening (b ∷ (x ++ t))) (later_holds x t e)
  where
    by : (v : Bool) → holds opening (x ++ t) ≡ true → cond v true (holds opening (x ++ t)) ≡ true
    by true h = refl
    by false h = h

pub over_holds : {ls : Letters} → OverPieces ls → holds opening (bytes ls) ≡ true
over_holds (OverPieces.here o x c z opens closes first over) = begins_holds (bytes (o ++ (x ++ (c ++ z)))) (opening_begins (o ++ (x ++ (c ++ z))) o x c z (record { is = refl; opens = opens; closes = closes; first = first }))
over_holds (OverPieces.after_text l x z clear ends over) = ap (holds opening) (bytes_append (l ∷ x) z) ∙ later_holds (bytes (l ∷ x)) (bytes z) (over_holds over)
over_holds (OverPieces.after_interpolation o x c z opens closes first expr over) = begins_holds (bytes (o ++ (x ++ (c ++ z)))) (opening_begins (o ++ (x ++ (c ++ z))) o x c z (record { is = refl; opens = opens; closes = closes; first = first }))

pub no_over : (ls : Letters) (t : Text) → t ≡ bytes ls → text_len t ≡ length t → OverPieces ls → ⊥
no_over ls t e h over = not_both (holds opening (bytes ls)) (over_holds over) (ap (holds opening) (sym e) ∙ none_holds t h)

-- ---- kinds of tokens

pub value_kind : (k : TokenKind) → is_value k ≡ true → k ≡ kind.Interpolation
value_kind kind.Interpolation e = refl
value_kind _ e = absurd (no_true e)

pub not_value : (k : TokenKind) (n m : ℕ) (o : Option (TokenKind × ℕ)) → o ≡ Some (k, n) → o ≡ Some (kind.Interpolation, m) → is_value k ≡ false → ⊥
not_value k n m o e f g = let h : k ≡ kind.Interpolation = ap (λ (q : TokenKind × ℕ). q.0) (some_one (sym e ∙ f)) in not_both (is_value k) (ap is_value h) g

pub none_found : (o : Option (TokenKind × ℕ)) (m : ℕ) → o ≡ None → o ≡ Some (kind.Interpolation, m) → ⊥
none_found o m e f = let d : ◌≡◌ {A = Option (TokenKind × ℕ)} None (Some (kind.Interpolation, m)) = sym e ∙ f in cc

-- ---- splits

pub text_split : (v first second : Spelled) (n : ℕ) → IsSpelled v → Splits v n first second → n ≡ text_len v.text.now → (l : PlacedLetter) (x : Letters) → first.letters.now ≡ l ∷ x → TextAt v.letters.now l x second.letters.now
text_split v first second n spelled s long l x e =
    let f = text_front v.text.now first.text.now second.text.now s.text (s.long ∙ long) in
    let a : first.text.now ≡ bytes (l ∷ x) = s.first_spelled.says ∙ ap bytes e in
    record {
      is = s.letters ∙ ap (λ k. k ++ second.letters.now) e;
      clear = subst (λ k. Clear unquoted opening Outside k (bytes second.letters.now)) a (subst (λ k. Clear unquoted opening Outside first.text.now k) s.second_spelled.says f.0);
      ends = subst AtOpening s.second_spelled.says f.1;
    }

-- the first text of a whole
pub split_front : (v first second : Spelled) (n : ℕ) → Splits v n first second → first.text.now ≡ take n v.text.now
split_front v first second n s = sym (take-append_seam first.text.now second.text.now) ∙ ap (take (length first.text.now)) (sym s.text) ∙ ap (λ m. take m v.text.now) s.long

-- an interpolation of this length is cut off
pub record Opened (v whole : Spelled) (n : ℕ) : Type 0 where
  pub u : Text
  pub is : whole.text.now ≡ opening ++ (u ++ closing)
  pub long : n ≡ 4 + length u
  pub first : First literal closing u

pub opened : (v whole rest : Spelled) (n : ℕ) → IsSpan kind.Interpolation (take n v.text.now) (drop n v.text.now) → Splits v n whole rest → Opened v whole n
opened v whole rest n (u, is, first) s =
    let e : whole.text.now ≡ opening ++ (u ++ closing) = split_front v whole rest n s ∙ is in
    record { u = u; is = e; long = omega (arith, s.long, ap length e, length-append opening (u ++ closing), length-append u closing); first = first }

pub tail_is : (v whole open_ tail : Spelled) (n : ℕ) → (k : Opened v whole n) → Splits whole 2 open_ tail → (open_.text.now ≡ opening) × (tail.text.now ≡ k.u ++ closing)
tail_is v whole open_ tail n k s = same_front open_.text.now opening tail.text.now (k.u ++ closing) (sym s.text ∙ k.is) s.long

pub inside_is : (v whole open_ tail inside close : Spelled) (n : ℕ) → (k : Opened v whole n) → Splits whole 2 open_ tail → Splits tail (n - 4) inside close → (inside.text.now ≡ k.u) × (close.text.now ≡ closing)
inside_is v whole open_ tail inside close n k s i = same_front inside.text.now k.u close.text.now closing (sym i.text ∙ (tail_is v whole open_ tail n k s).1) (omega (arith, i.long, k.long))

pub interpolation_split : (v whole rest open_ tail inside close : Spelled) (n : ℕ) → IsSpan kind.Interpolation (take n v.text.now) (drop n v.text.now) → Splits v n whole rest → Splits whole 2 open_ tail → Splits tail (n - 4) inside close
    → InterpolationAt v.letters.now open_.letters.now inside.letters.now close.letters.now rest.letters.now
interpolation_split v whole rest open_ tail inside close n span s i j =
    let k = opened v whole rest n span s in
    let f = tail_is v whole open_ tail n k i in
    let g = inside_is v whole open_ tail inside close n k i j in
    record {
      is = s.letters ∙ ap (λ w. w ++ rest.letters.now) (i.letters ∙ ap (λ w. open_.letters.now ++ w) j.letters) ∙ append_assoc open_.letters.now (inside.letters.now ++ close.letters.now) rest.letters.now
          ∙ ap (λ w. open_.letters.now ++ w) (append_assoc inside.letters.now close.letters.now rest.letters.now);
      opens = sym i.first_spelled.says ∙ f.0;
      closes = sym j.second_spelled.says ∙ g.1;
      first = subst (First literal closing) (sym g.0 ∙ j.first_spelled.says) k.first;
    }

-- both cuts fall between characters
pub open_boundary : (v whole : Spelled) (n : ℕ) → (k : Opened v whole n) → IsUtf8 whole.text.now → IsCharBoundary whole.text.now 2
open_boundary v whole n k u = word_boundary opening whole.text.now (ap (begins opening) k.is ∙ begins_self opening (k.u ++ closing)) refl u

pub close_boundary : (v whole open_ tail : Spelled) (n : ℕ) → (k : Opened v whole n) → Splits whole 2 open_ tail → IsCharBoundary tail.text.now (n - 4)
close_boundary v whole open_ tail n k s =
    let e : length k.u ≡ n - 4 = omega (arith, k.long) in
    subst (λ m. IsCharBoundary tail.text.now m) e (IsCharBoundary-at_seam tail.text.now k.u closing (tail_is v whole open_ tail n k s).1 (ascii_utf8 closing refl))

-- before the first `{{`, or at the end
small : (c : ℕ) (t : Text) → begins opening (c ∷ t) ≡ true → c < 128
small c t e = by (123 == c) refl e
  where
    by : (v : Bool) → (123 == c) ≡ v → cond v (begins (123 ∷ []) t) false ≡ true → c < 128
    by true f g = grind arith
    by false f g = absurd (no_true g)

boundary_at : (t : Text) → IsCharBoundary t (text_len t)
boundary_at [] = IsCharBoundary-end []
boundary_at (b ∷ t) = by (begins opening (b ∷ t)) refl (boundary_at t)
  where
    by : (v : Bool) → begins opening (b ∷ t) ≡ v → IsCharBoundary t (text_len t) → IsCharBoundary (b ∷ t) (cond v 0 (suc (text_len t)))
    by true e h = IsCharBoundary-before_ascii (b ∷ t) 0 (omega arith) (small b t e)
    by false e h = (omega (arith, h.0), λ i j. h.1 (omega arith) j)

pub text_boundary : (t : Text) (n : ℕ) → n ≡ text_len t → IsCharBoundary t n
text_boundary t n e = subst (λ m. IsCharBoundary t m) (sym e) (boundary_at t)

-- no interpolation ends
pub unclosed_by : (ls : Letters) (t : Text) → t ≡ bytes ls → begins opening t ≡ true → ((a z : Text) → IsSpan kind.Interpolation a z → t ≡ a ++ z → ⊥) → (ps : List Piece) → ReadsPieces ls ps → ⊥
unclosed_by ls t e starts none = unclosed ls (ap (begins opening) (sym e) ∙ starts) (λ o x c z h. none (opening ++ (bytes x ++ closing)) (bytes z) (bytes x, refl, h.first) (e ∙ whole o x c z h))
  where
    whole : (o x c z : Letters) → InterpolationAt ls o x c z → bytes ls ≡ (opening ++ (bytes x ++ closing)) ++ bytes z
    whole o x c z h =
        ap bytes h.is ∙ bytes_append o (x ++ (c ++ z)) ∙ ap (λ k. k ++ bytes (x ++ (c ++ z))) h.opens
        ∙ ap (λ k. opening ++ k) (bytes_append x (c ++ z) ∙ ap (λ k. bytes x ++ k) (bytes_append c z ∙ ap (λ k. k ++ bytes z) h.closes) ∙ sym (append_assoc (bytes x) closing (bytes z)))

-- ---- all pieces

pub pieces_more : (ls : Letters) (found : List Piece) (rest : Letters) (p : Piece) (more : Spelled) → GoesPieces ls found rest → PieceAt rest p more → GoesPieces ls (found ++ (p ∷ [])) more.letters.now
pieces_more ls found rest p more g h = goes_more _ _ ls rest more.letters.now found (p ∷ []) g h.goes

pub pieces_end : (ls rest : Letters) (found : List Piece) → GoesPieces ls found rest → rest ≡ [] → ReadsPieces ls found × (OverPieces ls → ⊥)
pieces_end ls rest found g e =
    (goes_end _ _ ls rest found g tt (subst (λ k. ReadsPieces k []) (sym e) ReadsPieces.no_piece), λ over. none_over (subst OverPieces e (g.calm over)))

pub pieces_halt : (ls rest : Letters) (found : List Piece) (e : Stop) → GoesPieces ls found rest → Halts ((ps : List Piece) → ReadsPieces rest ps → ⊥) (OverPieces rest) e → Halts ((ps : List Piece) → ReadsPieces ls ps → ⊥) (OverPieces ls) e
pieces_halt ls rest found e g h = halts_as _ _ _ _ e (λ none ps i. goes_unread _ _ ls rest found g (λ u qs j. none qs j) tt ps i) (λ over. g.heavy over) h

pub no_letters : (v : Spelled) → IsSpelled v → length v.text.now ≤ 0 → v.letters.now ≡ []
no_letters v s h = no_length v.letters.now (omega (arith, ap length s.says, length_bytes v.letters.now))

-- a text piece at the front
pub text_piece : (v first second : Spelled) (n : ℕ) → IsSpelled v → Splits v n first second → n ≡ text_len v.text.now → 0 < n → (t : Text) → t ≡ first.text.now → PieceAt v.letters.now (piece.Text t) second
text_piece v first second n spelled s long some t e = by first.letters.now refl
  where
    size : length first.letters.now ≡ n
    size = omega (arith, s.long, ap length s.first_spelled.says, length_bytes first.letters.now)

    by : (ls : Letters) → first.letters.now ≡ ls → PieceAt v.letters.now (piece.Text t) second
    by [] f = absurd (omega (arith, size, ap length f, some))
    by (l ∷ x) f =
        let same : bytes (l ∷ x) ≡ t = sym (e ∙ s.first_spelled.says ∙ ap bytes f) in
        record {
          goes = subst (λ k. GoesPieces v.letters.now (piece.Text k ∷ []) second.letters.now) same (text_goes v.letters.now l x second.letters.now (text_split v first second n spelled s long l x f));
          spelled = s.second_spelled;
          shorter = omega (arith, ap length s.letters, length-append first.letters.now second.letters.now, size, some);
        }

-- an interpolation at the front
module _ (v whole rest open_ tail inside close : Spelled) (n : ℕ) (span : IsSpan kind.Interpolation (take n v.text.now) (drop n v.text.now)) (a : Splits v n whole rest) (b : Splits whole 2 open_ tail) (c : Splits tail (n - 4) inside close) where
  at : InterpolationAt v.letters.now open_.letters.now inside.letters.now close.letters.now rest.letters.now
  at = interpolation_split v whole rest open_ tail inside close n span a b c

  says_inside : inside.text.now ≡ bytes inside.letters.now
  says_inside = c.first_spelled.says

  pub value_piece : (e : Expr) (p : Place) → p ≡ start v.letters.now → ReadsExpr false (start inside.letters.now) inside.text.now e → (OverText false (start inside.letters.now) inside.text.now → ⊥) → PieceAt v.letters.now (piece.Value p e) rest
  value_piece e p is h none = by open_.letters.now refl
    where
      size : length open_.letters.now ≡ 2
      size = omega (arith, b.long, ap length b.first_spelled.says, length_bytes open_.letters.now)

      by : (ls : Letters) → open_.letters.now ≡ ls → PieceAt v.letters.now (piece.Value p e) rest
      by [] f = absurd (omega (arith, size, ap length f))
      by (l ∷ o) f =
          let here : InterpolationAt v.letters.now (l ∷ o) inside.letters.now close.letters.now rest.letters.now = subst (λ k. InterpolationAt v.letters.now k inside.letters.now close.letters.now rest.letters.now) f at in
          let place : l.place ≡ p = sym (is ∙ ap start here.is) in
          record {
            goes = subst (λ k. GoesPieces v.letters.now (piece.Value k e ∷ []) rest.letters.now) place
                (interpolation_goes v.letters.now l o inside.letters.now close.letters.now rest.letters.now e here (subst (λ k. ReadsExpr false (start inside.letters.now) k e) says_inside h)
                (λ over. none (subst (OverText false (start inside.letters.now)) (sym says_inside) over)));
            spelled = a.second_spelled;
            shorter = omega (arith, ap length a.letters, length-append whole.letters.now rest.letters.now, ap length b.letters, length-append open_.letters.now tail.letters.now, size);
          }

  pub value_halts : (e : Stop) → Halts ((x : Expr) → ReadsExpr false (start inside.letters.now) inside.text.now x → ⊥) (OverText false (start inside.letters.now) inside.text.now) e
      → Halts ((ps : List Piece) → ReadsPieces v.letters.now ps → ⊥) (OverPieces v.letters.now) e
  value_halts e h =
      halts_as _ _ _ _ e
      (λ none. interpolation_unread v.letters.now open_.letters.now inside.letters.now close.letters.now rest.letters.now at (λ x i. none x (subst (λ k. ReadsExpr false (start inside.letters.now) k x) (sym says_inside) i)))
      (λ over. interpolation_over v.letters.now open_.letters.now inside.letters.now close.letters.now rest.letters.now at (subst (OverText false (start inside.letters.now)) says_inside over)) h

-- ---- plain values

pub static_ok : (ls : Letters) (t u : Text) → t ≡ bytes ls → text_len t ≡ length t → u ≡ t → ((holds opening (bytes ls) ≡ false) × (u ≡ bytes ls)) × (OverPieces ls → ⊥)
static_ok ls t u e h f = ((ap (holds opening) (sym e) ∙ none_holds t h, f ∙ e), no_over ls t e h)

pub joined_ok : (ls ks : Letters) (t : Text) (ps : List Piece) → t ≡ bytes ls → (text_len t ≡ length t → ⊥) → ks ≡ ls → ReadsPieces ks ps × (OverPieces ks → ⊥) → ((holds opening (bytes ls) ≡ true) × ReadsPieces ls ps) × (OverPieces ls → ⊥)
joined_ok ls ks t ps e some f h = ((ap (holds opening) (sym e) ∙ some_holds t some, subst (λ k. ReadsPieces k ps) f h.0), λ over. h.1 (subst OverPieces (sym f) over))

pub joined_halts : (ls : Letters) (t : Text) (e : Stop) → t ≡ bytes ls → (text_len t ≡ length t → ⊥) → Halts ((ps : List Piece) → ReadsPieces ls ps → ⊥) (OverPieces ls) e → Halts ((form : AttrForm) → IsPlain ls form → ⊥) (OverPieces ls) e
joined_halts ls t e is some h = halts_as _ _ _ _ e (λ none form i. by none form i) (λ over. over) h
  where
    by : ((ps : List Piece) → ReadsPieces ls ps → ⊥) → (form : AttrForm) → IsPlain ls form → ⊥
    by none (a.Static u) i = not_both (holds opening (bytes ls)) (ap (holds opening) (sym is) ∙ some_holds t some) i.0
    by none (a.Joined ps) i = none ps i.1
    by none _ i = i
