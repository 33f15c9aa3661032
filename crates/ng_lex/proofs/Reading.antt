-- The loop that reads letters.
use Rattle.std.proofs.Common.{◌≡◌, ℕ, ◌+◌, ◌-◌, ◌^◌, ◌<◌, ◌≤◌, [], ◌∷◌, ◌++◌, length, take, drop, refl, sym, ◌∙◌, ap, subst, append_assoc, arith, length-append, length-take}
use Rattle.std.proofs.Math.Seq.{take-append_seam, drop-append_seam}
use Rattle.std.proofs.lemmas.List.{append-nil}
use Rattle.std.specs.Prelude.{Option, Some, None, Result, Ok, Err, Vec, MatchOption, IfOk, IfSome, IfNone}
use Rattle.std.specs.declared.alloc.AllocError.{AllocError}
use Rattle.std.specs.declared.alloc.Global.{Global}
use Rattle.std.specs.Str.{IsUtf8}
use Rattle.ng_ast.specs.declared.Place.{Place}
use Rattle.ng_tokens.specs.Lexis.{Text, steps}
use Rattle.ng_tokens.proofs.Scanning.{after_some}
use Rattle.ng_lex.specs.declared.letters.PlacedLetter.{PlacedLetter}
use Rattle.ng_lex.specs.Letters.{Letters, bytes, Decodes}
use Rattle.ng_lex.specs.Decode.{letters_at, before, decode, joined, Puts}
use Rattle.ng_lex.proofs.Decoding.{decode_front, Front, front, sound, decoded_none, decoded_utf8}

-- what was found, and what is to come, are the letters of the whole, and no place is too far
abbrev pub Inv : Option Letters → Letters → Place → Text → Type 0
Inv o found p t = (o ≡ joined found (decode 0 p t)) × (p.line + length t < 2 ^ 31) × (p.column + length t < 2 ^ 31) × (p.byte + length t < 2 ^ 31)

pub inv_start : (p : Place) (t : Text) → p.line + length t < 2 ^ 31 → p.column + length t < 2 ^ 31 → p.byte + length t < 2 ^ 31 → Inv (decode 0 p t) [] p t
inv_start p t l k y = (nothing (decode 0 p t), l, k, y)
  where
    nothing : (o : Option Letters) → o ≡ joined [] o
    nothing None = refl
    nothing (Some ls) = refl

decode_none : (p : Place) (t : Text) → 0 < length t → letters_at p t ≡ None → decode 0 p t ≡ None
unfolding decode
decode_none p [] h e = absurd (omega arith)
decode_none p (b ∷ t) h e = rw e refl

pub inv_none : (o : Option Letters) (found : Letters) (p : Place) (t : Text) → Inv o found p t → 0 < length t → letters_at p t ≡ None → o ≡ None
inv_none o found p t i h e = i.0 ∙ ap (joined found) (decode_none p t h e)

joined_before : (found ls : Letters) (o : Option Letters) → joined found (before ls o) ≡ joined (found ++ ls) o
joined_before found ls None = refl
joined_before found ls (Some ms) = ap Some (sym (append_assoc found ls ms))

pub inv_some : (o : Option Letters) (found now : Letters) (p : Place) (t : Text) (n : ℕ) (p' : Place) → Inv o found p t → Puts (letters_at p t) found now (Some n) → p' ≡ steps p (take n t)
    → (p'.line ≤ p.line + length (take n t)) × (p'.column ≤ p.column + length (take n t)) × (p'.byte ≤ p.byte + length (take n t)) → Inv o now p' (take (length t - n) (drop n t))
inv_some o found now p t n p' (h, l, k, y) (ls, e, same) s b =
    let f : Front p t (ls, n) = front p t (ls, n) e in
    let front : take n t ≡ f.text = ap (take n) f.is ∙ ap (λ m. take m (f.text ++ f.rest)) (sym f.long) ∙ take-append_seam f.text f.rest in
    let rest : drop n t ≡ f.rest = ap (drop n) f.is ∙ ap (λ m. drop m (f.text ++ f.rest)) (sym f.long) ∙ drop-append_seam f.text f.rest in
    let place : p' ≡ steps p f.text = s ∙ ap (steps p) front in
    let size : length t ≡ n + length f.rest = omega (arith, ap length f.is, length-append f.text f.rest, f.long) in
    let step : decode 0 p t ≡ before ls (decode 0 p' f.rest) =
    ap (decode 0 p) f.is ∙ decode_front p f.text f.rest (ls, n) (ap (letters_at p) (sym f.is) ∙ e) f.long f.some ∙ ap (λ q. before ls (decode 0 q f.rest)) (sym place) in
    let whole : o ≡ joined now (decode 0 p' f.rest) = h ∙ ap (joined found) step ∙ joined_before found ls (decode 0 p' f.rest) ∙ ap (λ k. joined k (decode 0 p' f.rest)) (sym same) in
    let long : length (take n t) ≤ n = omega (arith, length-take n t) in
    subst (Inv o now p') (sym (after_some t n ∙ rest)) (whole, omega (arith, b, l, size, long), omega (arith, b, k, size, long), omega (arith, b, y, size, long))

pub inv_end : (o : Option Letters) (found : Letters) (p : Place) (t : Text) → Inv o found p t → length t ≤ 0 → o ≡ Some found
unfolding decode
inv_end o found p [] i h = i.0 ∙ ap Some (append-nil found)
inv_end o found p (b ∷ t) i h = absurd (omega arith)

-- ---- the clauses

abbrev pub Read : Place → Text → Result (Option (Vec PlacedLetter Global)) AllocError → Type 0
Read p t r = IfOk r (λ o. MatchOption o (decode 0 p t ≡ None) (λ v. decode 0 p t ≡ Some v.items))

pub some_clause : (p : Place) (t : Text) (r : Result (Option (Vec PlacedLetter Global)) AllocError) → Read p t r → IfOk r (λ o. IfSome o (λ v. Decodes p t v.items))
some_clause p t (Ok None) k = tt
some_clause p t (Ok (Some v)) k = sound p t v.items k
some_clause p t (Err e) k = tt

pub none_clause : (p : Place) (t : Text) (r : Result (Option (Vec PlacedLetter Global)) AllocError) → Read p t r → IfOk r (λ o. IfNone o ((ls : Letters) → Decodes p t ls → ⊥))
none_clause p t (Ok None) k = decoded_none p t k
none_clause p t (Ok (Some v)) k = tt
none_clause p t (Err e) k = tt

pub utf8_clause : (p : Place) (t : Text) (r : Result (Option (Vec PlacedLetter Global)) AllocError) → Read p t r → IsUtf8 t → IfOk r (λ o. IfSome o (λ v. IsUtf8 (bytes v.items)))
utf8_clause p t (Ok None) k u = tt
utf8_clause p t (Ok (Some v)) k u = decoded_utf8 p t v.items (sound p t v.items k) u
utf8_clause p t (Err e) k u = tt
