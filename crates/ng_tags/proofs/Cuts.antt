-- The tokens of a text fall apart with the text.
use Rattle.std.proofs.Common.{◌≡◌, ℕ, zero, suc, ◌+◌, ◌-◌, ◌<◌, ◌≤◌, [], ◌∷◌, ◌++◌, length, get_or, take, drop, refl, sym, ◌∙◌, ap, subst, append_assoc, arith, length-drop}
use Rattle.std.proofs.Math.Seq.{take-append_seam, drop-append_seam}
use Rattle.std.specs.Prelude.{Bool, true, false, cond, ◌&&◌, ◌==◌, nat_le}
use Rattle.std.specs.Str.{IsUtf8, IsCharBoundary}
use Rattle.std.proofs.lemmas.Str.{IsCharBoundary-at_seam}
use Rattle.ng_ast.specs.declared.Place.{Place}
use Rattle.ng_tokens.specs.declared.kinds.Token.{Token}
use Rattle.ng_tokens.specs.Lexis.{Text, opens_comment, step, steps, Longest, Lexes, kind_of}
use Rattle.ng_tokens.proofs.Utf8.{ascii_blank, after_ascii, after_token}
use Rattle.ng_exprs.specs.Grammar.{Tokens}
use Rattle.ng_attributes.specs.Places.{Fits}
use Rattle.ng_attributes.proofs.Texts.{no_true, steps_append}
use Rattle.ng_attributes.proofs.Places.{Later, fits_front, fits_rest}
use Rattle.ng_tags.specs.declared.outlets.Cursor.{Cursor}
use Rattle.ng_tags.specs.Outlets.{IsCutAt, AreCut, IsCursor, Advances, Skips}

-- the text of some tokens, and that of those that come after
pub record Cut (p : Place) (t : Text) (xs : Tokens) (y : Token) (ys : Tokens) : Type 0 where
  pub a : Text
  pub z : Text
  pub is : t ≡ a ++ z
  pub front : Lexes false p a xs []
  pub back : Lexes false (steps p a) z (y ∷ ys) []
  pub place : y.place ≡ steps p a
  pub utf8 : IsUtf8 t → IsUtf8 z

no_comment : (t : Text) → opens_comment false t ≡ true → ⊥
no_comment [] e = no_true e
no_comment (b ∷ []) e = no_true e
no_comment (b ∷ c ∷ t) e = no_true e

comment_off : (t : Text) → opens_comment false t ≡ false
comment_off [] = refl
comment_off (b ∷ []) = refl
comment_off (b ∷ c ∷ t) = refl

-- what stands behind a token doesn't make it longer
longest_less : (a b z : Text) → Longest a (b ++ z) → Longest a b
longest_less a b z law = λ c r form e w. law c (r ++ z) form (sym (append_assoc a b z) ∙ ap (λ k. k ++ z) e ∙ append_assoc c r z) w

nothing_here : (xs : Tokens) (y : Token) (ys : Tokens) → [] ≡ xs ++ (y ∷ ys) → ⊥
nothing_here [] y ys e = cc
nothing_here (x ∷ xs) y ys e = cc

token_head : {t u : Token} {x y : Tokens} → t ∷ x ≡ u ∷ y → t ≡ u
token_head e = cc

token_tail : {t u : Token} {x y : Tokens} → t ∷ x ≡ u ∷ y → x ≡ y
token_tail e = cc

pub cut_at : {p : Place} {t : Text} {ts : Tokens} {r : Text} → Lexes false p t ts r → r ≡ [] → (xs : Tokens) (y : Token) (ys : Tokens) → ts ≡ xs ++ (y ∷ ys) → Cut p t xs y ys
cut_at Lexes.here n xs y ys e = absurd (nothing_here xs y ys e)
cut_at (Lexes.blank {b = b} {z = z} white h) n xs y ys e =
    let c = cut_at h n xs y ys e in
    record {
      a = b ∷ c.a;
      z = c.z;
      is = ap (λ k. b ∷ k) c.is;
      front = Lexes.blank white c.front;
      back = c.back;
      place = c.place;
      utf8 = λ u. c.utf8 (after_ascii b z (ascii_blank b white) u);
    }
cut_at (Lexes.comment a z o l h) n xs y ys e = absurd (no_comment (a ++ z) o)
cut_at {p = p} (Lexes.next {ts = ts} a z form written fits longest o h) n [] y ys e =
    record {
      a = [];
      z = a ++ z;
      is = refl;
      front = Lexes.here;
      back = subst (λ k. Lexes false p (a ++ z) k []) e (subst (λ k. Lexes false p (a ++ z) (record { kind = kind_of form a; place = p } ∷ ts) k) n (Lexes.next a z form written fits longest o h));
      place = sym (ap (λ (k : Token). k.place) (token_head e));
      utf8 = λ u. u;
    }
cut_at {p = p} (Lexes.next {ts = ts} a z form written fits longest o h) n (x ∷ xs) y ys e =
    let c = cut_at h n xs y ys (token_tail e) in
    let less : Longest a c.a = longest_less a c.a c.z (subst (Longest a) c.is longest) in
    record {
      a = a ++ c.a;
      z = c.z;
      is = ap (λ k. a ++ k) c.is ∙ sym (append_assoc a c.a c.z);
      front = subst (λ k. Lexes false p (a ++ c.a) (k ∷ xs) []) (token_head e) (Lexes.next a c.a form written fits less (comment_off (a ++ c.a)) c.front);
      back = subst (λ k. Lexes false k c.z (y ∷ ys) []) (sym (steps_append p a c.a)) c.back;
      place = c.place ∙ sym (steps_append p a c.a);
      utf8 = λ u. c.utf8 (after_token a z form written u);
    }

step_byte : (p : Place) (b : ℕ) → (step p b).byte ≡ p.byte + 1
step_byte p b = grind arith

pub steps_byte : (p : Place) (t : Text) → (steps p t).byte ≡ p.byte + length t
steps_byte p [] = omega arith
steps_byte p (b ∷ t) = omega (arith, steps_byte (step p b) t, step_byte p b)

-- ---- places

-- the place after a byte, by the tests on it
abbrev stepped : Bool → Bool → Place → Place
stepped feed inner p = cond feed (record { line = p.line + 1; column = 1; byte = p.byte + 1 }) (cond inner (record p { byte = p.byte + 1 }) (record p { column = p.column + 1; byte = p.byte + 1 }))

stepped_later : (feed inner : Bool) (p : Place) → ((stepped feed inner p).line ≤ p.line + 1) × ((stepped feed inner p).column ≤ p.column + 1) × ((stepped feed inner p).byte ≤ p.byte + 1)
stepped_later true inner p = (omega arith, omega arith, omega arith)
stepped_later false true p = (omega arith, omega arith, omega arith)
stepped_later false false p = (omega arith, omega arith, omega arith)

step_later : (p : Place) (b : ℕ) → ((step p b).line ≤ p.line + 1) × ((step p b).column ≤ p.column + 1) × ((step p b).byte ≤ p.byte + 1)
step_later p b = stepped_later (b == 10) (nat_le 128 b && nat_le b 191) p

pub steps_later : (p : Place) (t : Text) → Later (steps p t) p t
steps_later p [] = (omega arith, omega arith, omega arith)
steps_later p (b ∷ t) =
    let g = steps_later (step p b) t in
    let h = step_later p b in
    (omega (arith, g.0, h.0), omega (arith, g.1, h.1), omega (arith, g.2, h.2))

-- ---- cursors

-- the token that so many stand before
pub token_at : (ts : Tokens) (n : ℕ) (y : Token) → n < length ts → y ≡ get_or ts n y → (ys : Tokens) × (ts ≡ take n ts ++ (y ∷ ys)) × (drop n ts ≡ y ∷ ys)
token_at [] n y h e = absurd (omega arith)
token_at (t ∷ ts) zero y h e = (ts, ap (λ k. k ∷ ts) (sym e), ap (λ k. k ∷ ts) (sym e))
token_at (t ∷ ts) (suc n) y h e = let g = token_at ts n y (omega arith) e in (g.0, ap (λ k. t ∷ k) g.1, g.2)

pub cut_token : (c : Cursor) (n : ℕ) (y : Token) → IsCursor c → n < length c.tokens.now → y ≡ get_or c.tokens.now n y → (ys : Tokens) × (drop n c.tokens.now ≡ y ∷ ys) × Cut c.place c.text.now (take n c.tokens.now) y ys
cut_token c n y h i e = let g = token_at c.tokens.now n y i e in (g.0, g.2, cut_at h.lexes refl (take n c.tokens.now) y g.0 g.1)

byte_apart : (p : Place) (t : Text) (xs : Tokens) (y : Token) (ys : Tokens) → (k : Cut p t xs y ys) → y.place.byte ≡ p.byte + length k.a
byte_apart p t xs y ys k = ap (λ (q : Place). q.byte) k.place ∙ steps_byte p k.a

pub is_cut : (c : Cursor) (n : ℕ) (y : Token) → IsCursor c → n < length c.tokens.now → y ≡ get_or c.tokens.now n y → IsCutAt c.text.now c.place y.place
is_cut c n y h i e = let g = cut_token c n y h i e in let k = g.2 in (k.a, k.z, k.is, byte_apart c.place c.text.now (take n c.tokens.now) y g.0 k, k.utf8)

pub cut_boundary : (t : Text) (from to : Place) → IsCutAt t from to → IsUtf8 t → IsCharBoundary t (to.byte - from.byte)
cut_boundary t from to (a, z, is, apart, utf8) u = let e : to.byte - from.byte ≡ length a = omega (arith, apart) in subst (IsCharBoundary t) (sym e) (IsCharBoundary-at_seam t a z is (utf8 u))

pub cut_order : (t : Text) (from to : Place) → IsCutAt t from to → from.byte ≤ to.byte
cut_order t from to (a, z, is, apart, utf8) = omega (arith, apart)

pub advances : (c rest : Cursor) (n : ℕ) (a : Text) (y : Token) → IsCursor c → n < length c.tokens.now → y ≡ get_or c.tokens.now n y → AreCut c.text.now c.place y.place a rest.text.now → rest.place ≡ y.place → rest.tokens.now ≡ drop n c.tokens.now
    → Advances c n a rest
advances c rest n a y h i e cut place tokens = by g.0 g.1 g.2
  where
    g : (ys : Tokens) × (drop n c.tokens.now ≡ y ∷ ys) × Cut c.place c.text.now (take n c.tokens.now) y ys
    g = cut_token c n y h i e

    by : (ys : Tokens) → drop n c.tokens.now ≡ y ∷ ys → Cut c.place c.text.now (take n c.tokens.now) y ys → Advances c n a rest
    by ys d k =
        let apart : y.place.byte - c.place.byte ≡ length k.a = omega (arith, byte_apart c.place c.text.now (take n c.tokens.now) y ys k) in
        let front : a ≡ k.a = cut.0 ∙ ap (λ m. take m c.text.now) apart ∙ ap (take (length k.a)) k.is ∙ take-append_seam k.a k.z in
        let back : rest.text.now ≡ k.z = cut.1 ∙ ap (λ m. drop m c.text.now) apart ∙ ap (drop (length k.a)) k.is ∙ drop-append_seam k.a k.z in
        let at : rest.place ≡ steps c.place k.a = place ∙ k.place in
        record {
          front = subst (λ v. Lexes false c.place v (take n c.tokens.now) []) (sym front) k.front;
          back = record {
            lexes = subst (λ v. Lexes false rest.place rest.text.now v []) (sym (tokens ∙ d)) (subst (λ v. Lexes false v rest.text.now (y ∷ ys) []) (sym at) (subst (λ v. Lexes false (steps c.place k.a) v (y ∷ ys) []) (sym back) k.back));
            fits = subst (λ v. Fits v rest.text.now) (sym at) (subst (Fits (steps c.place k.a)) (sym back) (fits_rest c.place (steps c.place k.a) c.text.now k.a k.z h.fits k.is (steps_later c.place k.a)));
          };
          tokens = tokens;
          fits = subst (Fits c.place) (sym front) (fits_front c.place c.text.now k.a k.z h.fits k.is);
        }

drop_all : (ts : Tokens) (n : ℕ) → length ts ≤ n → drop n ts ≡ []
drop_all [] zero h = refl
drop_all [] (suc n) h = refl
drop_all (t ∷ ts) zero h = absurd (omega arith)
drop_all (t ∷ ts) (suc n) h = drop_all ts n (omega arith)

all_taken : (ts : Tokens) → take (length ts) ts ≡ ts
all_taken [] = refl
all_taken (t ∷ ts) = ap (λ k. t ∷ k) (all_taken ts)

-- what a range that goes to the end has
pub rest_taken : (n : ℕ) (ts : Tokens) → take (length ts - n) (drop n ts) ≡ drop n ts
rest_taken n ts = ap (λ k. take k (drop n ts)) (sym (length-drop n ts)) ∙ all_taken (drop n ts)

-- nothing is left
pub skips_all : (c rest : Cursor) (n : ℕ) → IsCursor c → length c.tokens.now ≤ n → rest.text.now ≡ [] → rest.place ≡ c.place → rest.tokens.now ≡ drop n c.tokens.now → Skips c n rest
skips_all c rest n h all text place tokens = record {
  back = record {
    lexes = subst (λ v. Lexes false rest.place rest.text.now v []) (sym (tokens ∙ drop_all c.tokens.now n all)) (subst (λ v. Lexes false rest.place v [] []) (sym text) Lexes.here);
    fits = subst (λ v. Fits v rest.text.now) (sym place) (subst (Fits c.place) (sym text) (fits_front c.place c.text.now [] c.text.now h.fits refl));
  };
  tokens = tokens;
}

pub skips : (c rest : Cursor) (n : ℕ) (a : Text) → Advances c n a rest → Skips c n rest
skips c rest n a h = record { back = h.back; tokens = h.tokens }
