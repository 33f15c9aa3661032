-- What is decoded is what the text says, and what the text says is decoded.
use Rattle.std.proofs.Common.{◌≡◌, ℕ, zero, suc, ◌+◌, ◌-◌, ◌<◌, List, [], ◌∷◌, ◌++◌, length, take, drop, map, refl, sym, ◌∙◌, ap, subst, append_assoc, arith, length-append}
use Rattle.std.proofs.Math.Seq.{take-append_seam, drop-append_seam}
use Rattle.std.proofs.lemmas.List.{map-append}
use Rattle.std.specs.Char.{IsScalar}
use Rattle.std.specs.Str.{IsUtf8}
use Rattle.std.proofs.lemmas.Str.{IsUtf8-append, IsUtf8-encode}
use Rattle.std.specs.Prelude.{Bool, true, false, cond, if◌then◌else◌, ◌==◌, ◌&&◌, ◌||◌, nat_le, Option, Some, None, encode_utf8}
use Rattle.ng_ast.specs.declared.Place.{Place}
use Rattle.ng_tokens.specs.Lexis.{Text, is_digit, all, begins, same_text, step, steps, value_from}
use Rattle.ng_lex.specs.declared.letters.PlacedLetter.{PlacedLetter}
use Rattle.ng_lex.specs.Letters.{Letters, bytes, itself, decoded, scalar, is_hex, hex_from, decimal, hexadecimal, numeral, named, characters, entity_of, begins_entity, Decodes}
use Rattle.ng_lex.specs.Attributes.{differs}
use Rattle.ng_lex.specs.Decode.{name_len, with_len, entity_at, named_by, letters_at, before, decode_by, decode}
use Rattle.ng_lex.proofs.Texts.{both_true, same_byte, begins_is, run_len, Splits, run_split}
use Rattle.ng_lex.proofs.Ends.{same_is}
use Rattle.ng_lex.proofs.Utf8.{utf8_before, utf8_after}

-- ---- how entities are written

-- no `;` stands in it, and it begins an entity
abbrev IsWritten : Text → Type 0
IsWritten a = (all (differs 59) a ≡ true) × ((z : Text) → begins_entity (a ++ (59 ∷ z)) ≡ true)

some_if : {A : Type 0} (t : Bool) (o : Option A) (c : A) → (if t then o else None) ≡ Some c → (t ≡ true) × (o ≡ Some c)
some_if true o c e = (refl, e)
some_if false o c e = absurd (cc)

all_weaker : (p q : ℕ → Bool) → ((b : ℕ) → p b ≡ true → q b ≡ true) → (a : Text) → all p a ≡ true → all q a ≡ true
all_weaker p q law [] e = refl
all_weaker p q law (b ∷ a) e = let g = both_true (p b) (all p a) e in rw (law b g.0) (all_weaker p q law a g.1)

digit_free : (b : ℕ) → is_digit b ≡ true → differs 59 b ≡ true
digit_free b e = grind arith

hex_free : (b : ℕ) → is_hex b ≡ true → differs 59 b ≡ true
hex_free b e = grind arith

decimal_free : (z : Text) (c : ℕ) → decimal z ≡ Some c → all (differs 59) z ≡ true
decimal_free [] c e = absurd (cc)
decimal_free (b ∷ z) c e = all_weaker is_digit (differs 59) digit_free (b ∷ z) (some_if (all is_digit (b ∷ z)) (scalar (value_from 0 (b ∷ z))) c e).0

hexadecimal_free : (z : Text) (c : ℕ) → hexadecimal z ≡ Some c → all (differs 59) z ≡ true
hexadecimal_free [] c e = absurd (cc)
hexadecimal_free (b ∷ z) c e = all_weaker is_hex (differs 59) hex_free (b ∷ z) (some_if (all is_hex (b ∷ z)) (scalar (hex_from 0 (b ∷ z))) c e).0

numeral_if : (b : ℕ) (z : Text) (c : ℕ) (v : Bool) → (b == 120) ≡ v → cond v (hexadecimal z) (decimal (b ∷ z)) ≡ Some c → all (differs 59) (b ∷ z) ≡ true
numeral_if b z c true f e = rw (same_byte b 120 f) (hexadecimal_free z c e)
numeral_if b z c false f e = decimal_free (b ∷ z) c e

numeral_free : (z : Text) (c : ℕ) → numeral z ≡ Some c → all (differs 59) z ≡ true
numeral_free [] c e = absurd (cc)
numeral_free (b ∷ z) c e = numeral_if b z c (b == 120) refl e

abbrev EachNamed : (Text → Type 0) → List (Text × ℕ) → Type 0
EachNamed P [] = Unit {0}
EachNamed P (e ∷ es) = P e.0 × EachNamed P es

named_one : (P : Text → Type 0) (es : List (Text × ℕ)) → EachNamed P es → (a : Text) (c : ℕ) → named es a ≡ Some c → P a
named_one P [] h a c e = absurd (cc)
named_one P (x ∷ es) h a c e = by (same_text x.0 a) refl e (λ g. named_one P es h.1 a c g)
  where
    by : (v : Bool) → same_text x.0 a ≡ v → cond v (Some x.1) (named es a) ≡ Some c → (named es a ≡ Some c → P a) → P a
    by true f g go = subst P (sym (same_is x.0 a f)) h.0
    by false f g go = go g

named_written : (a : Text) (c : ℕ) → named characters a ≡ Some c → IsWritten a
unfolding characters
named_written a c e =
    named_one IsWritten characters ((refl, λ z. refl), ((refl, λ z. refl), ((refl, λ z. refl), ((refl, λ z. refl), ((refl, λ z. refl), ((refl, λ z. refl), tt)))))) a c e

entity_if : (b : ℕ) (a : Text) (c : ℕ) (v : Bool) → (b == 35) ≡ v → cond v (numeral a) (named characters (b ∷ a)) ≡ Some c → IsWritten (b ∷ a)
entity_if b a c true f e = (rw (same_byte b 35 f) (numeral_free a c e), λ z. rw f refl)
entity_if b a c false f e = named_written (b ∷ a) c e

entity_written : (a : Text) (c : ℕ) → entity_of a ≡ Some c → IsWritten a
entity_written [] c e = absurd (cc)
entity_written (b ∷ a) c e = entity_if b a c (b == 35) refl e

-- ---- what the text says is decoded

name_is : (a z : Text) → all (differs 59) a ≡ true → name_len (a ++ (59 ∷ z)) ≡ length a
name_is a z e = run_len (differs 59) a (59 ∷ z) e refl

entity_found : (a z : Text) (c : ℕ) → entity_of a ≡ Some c → entity_at (a ++ (59 ∷ z)) ≡ Some (c, length a + 1)
unfolding entity_at
entity_found a z c e = rw (name_is a z (entity_written a c e).0) (rw (drop-append_seam a (59 ∷ z)) (rw (take-append_seam a (59 ∷ z)) (rw e refl)))

letters_entity : (p : Place) (a z : Text) (c : ℕ) → entity_of a ≡ Some c → letters_at p (38 ∷ (a ++ (59 ∷ z))) ≡ Some (map (decoded p) (encode_utf8 c), suc (length a + 1))
unfolding letters_at
letters_entity p a z c e = rw ((entity_written a c e).1 z) (ap (named_by p) (entity_found a z c e))

letters_byte : (p : Place) (b : ℕ) (z : Text) → (b == 38) ≡ false → letters_at p (b ∷ z) ≡ Some (itself p b ∷ [], 1)
unfolding letters_at
letters_byte p b z e = rw e refl

letters_ampersand : (p : Place) (z : Text) → begins_entity z ≡ false → letters_at p (38 ∷ z) ≡ Some (itself p 38 ∷ [], 1)
unfolding letters_at
letters_ampersand p z e = rw e refl

decode_over : (a z : Text) (left : ℕ) (p : Place) → left ≡ length a → decode left p (a ++ z) ≡ decode 0 (steps p a) z
unfolding decode
decode_over [] z left p e = ap (λ n. decode n p z) e
decode_over (b ∷ a) z zero p e = absurd (omega arith)
decode_over (b ∷ a) z (suc left) p e = decode_over a z left (step p b) (omega arith)

pub decode_front : (p : Place) (a z : Text) (q : Letters × ℕ) → letters_at p (a ++ z) ≡ Some q → length a ≡ q.1 → 0 < q.1 → decode 0 p (a ++ z) ≡ before q.0 (decode 0 (steps p a) z)
unfolding decode
decode_front p [] z q e l h = absurd (omega arith)
decode_front p (b ∷ a) z q e l h = rw e (ap (before q.0) (decode_over a z (q.1 - 1) (step p b) (omega arith)))

pub complete : {p : Place} {t : Text} {ls : Letters} → Decodes p t ls → decode 0 p t ≡ Some ls
unfolding decode
complete Decodes.nothing = refl
complete (Decodes.byte {p = p} {z = z} b e h) = decode_front p (b ∷ []) z (itself p b ∷ [], 1) (letters_byte p b z e) refl (omega arith) ∙ ap (before (itself p b ∷ [])) (complete h)
complete (Decodes.ampersand {p = p} {z = z} e h) = decode_front p (38 ∷ []) z (itself p 38 ∷ [], 1) (letters_ampersand p z e) refl (omega arith) ∙ ap (before (itself p 38 ∷ [])) (complete h)
complete (Decodes.entity {p = p} {c = c} a z e h) =
    let whole : 38 ∷ (a ++ (59 ∷ z)) ≡ (38 ∷ (a ++ (59 ∷ []))) ++ z = simp append_assoc refl in
    ap (decode 0 p) whole ∙ decode_front p (38 ∷ (a ++ (59 ∷ []))) z (map (decoded p) (encode_utf8 c), suc (length a + 1)) (ap (letters_at p) (sym whole) ∙ letters_entity p a z c e) (omega (arith, length-append a (59 ∷ []))) (omega arith)
    ∙ ap (before (map (decoded p) (encode_utf8 c))) (complete h)

-- ---- what is decoded is what the text says

some_same : {A : Type 0} {a b : A} → Some a ≡ Some b → a ≡ b
some_same e = cc

with_some : (n : ℕ) (o : Option ℕ) (q : ℕ × ℕ) → with_len n o ≡ Some q → (c : ℕ) × (o ≡ Some c) × (q ≡ (c, n))
with_some n None q e = absurd (cc)
with_some n (Some c) q e = (c, refl, sym (some_same e))

-- an entity after `&`
record Entity (t : Text) (q : ℕ × ℕ) : Type 0 where
  name : Text
  rest : Text
  is : t ≡ name ++ (59 ∷ rest)
  says : entity_of name ≡ Some q.0
  long : q.1 ≡ length name + 1

entity : (t : Text) (q : ℕ × ℕ) → entity_at t ≡ Some q → Entity t q
unfolding entity_at
entity t q e =
    let g = some_if (begins (59 ∷ []) (drop (name_len t) t)) (with_len (name_len t + 1) (entity_of (take (name_len t) t))) q e in
    let s : Splits (differs 59) t (name_len t) = run_split (differs 59) t in
    let rest : drop (name_len t) t ≡ s.rest = ap (drop (name_len t)) s.is ∙ ap (λ n. drop n (s.run ++ s.rest)) (sym s.long) ∙ drop-append_seam s.run s.rest in
    let front : take (name_len t) t ≡ s.run = ap (take (name_len t)) s.is ∙ ap (λ n. take n (s.run ++ s.rest)) (sym s.long) ∙ take-append_seam s.run s.rest in
    let r : (r : Text) × (s.rest ≡ 59 ∷ r) = begins_is (59 ∷ []) s.rest (ap (begins (59 ∷ [])) (sym rest) ∙ g.0) in
    let w : (c : ℕ) × (entity_of (take (name_len t) t) ≡ Some c) × (q ≡ (c, name_len t + 1)) = with_some (name_len t + 1) _ q g.1 in
    record {
      name = s.run;
      rest = r.0;
      is = s.is ∙ ap (λ k. s.run ++ k) r.1;
      says = ap entity_of (sym front) ∙ w.1 ∙ ap (λ p. Some p.0) (sym w.2);
      long = ap (λ p. p.1) w.2 ∙ ap (λ n. n + 1) (sym s.long);
    }

-- letters at the front, whatever comes after them
pub record Front (p : Place) (t : Text) (q : Letters × ℕ) : Type 0 where
  pub text : Text
  pub rest : Text
  pub is : t ≡ text ++ rest
  pub long : length text ≡ q.1
  pub some : 0 < q.1
  pub reads : (ls : Letters) → Decodes (steps p text) rest ls → Decodes p t (q.0 ++ ls)

front_entity : (p : Place) (t : Text) (q : Letters × ℕ) → (o : Option (ℕ × ℕ)) → entity_at t ≡ o → named_by p o ≡ Some q → Front p (38 ∷ t) q
front_entity p t q None e f = absurd (cc)
front_entity p t q (Some c) e f =
    let n : Entity t c = entity t c e in
    let same : (map (decoded p) (encode_utf8 c.0), suc c.1) ≡ q = some_same f in
    subst (Front p (38 ∷ t)) same (record {
      text = 38 ∷ (n.name ++ (59 ∷ []));
      rest = n.rest;
      is = ap (λ k. 38 ∷ k) n.is ∙ regroup n.name n.rest;
      long = omega (arith, n.long, length-append n.name (59 ∷ []));
      some = omega arith;
      reads = λ ls h. subst (λ k. Decodes p (38 ∷ k) (map (decoded p) (encode_utf8 c.0) ++ ls)) (sym n.is) (Decodes.entity n.name n.rest n.says h);
    })
  where
    regroup : (a z : Text) → 38 ∷ (a ++ (59 ∷ z)) ≡ (38 ∷ (a ++ (59 ∷ []))) ++ z
    regroup a z = simp append_assoc refl

front_byte : (p : Place) (b : ℕ) (t : Text) (q : Letters × ℕ) → ((ls : Letters) → Decodes (step p b) t ls → Decodes p (b ∷ t) (itself p b ∷ ls)) → Some (itself p b ∷ [], 1) ≡ Some q → Front p (b ∷ t) q
front_byte p b t q reads e = subst (Front p (b ∷ t)) (some_same e) (record { text = b ∷ []; rest = t; is = refl; long = refl; some = omega arith; reads = reads })

front_if : (p : Place) (b : ℕ) (t : Text) (q : Letters × ℕ) (v w : Bool) → (b == 38) ≡ v → begins_entity t ≡ w → cond (v && w) (named_by p (entity_at t)) (Some (itself p b ∷ [], 1)) ≡ Some q → Front p (b ∷ t) q
front_if p b t q true true e f h = subst (λ c. Front p (c ∷ t) q) (sym (same_byte b 38 e)) (front_entity p t q (entity_at t) refl h)
front_if p b t q true false e f h = front_byte p b t q (λ ls d. at (same_byte b 38 e) ls d) h
  where
    at : b ≡ 38 → (ls : Letters) → Decodes (step p b) t ls → Decodes p (b ∷ t) (itself p b ∷ ls)
    at same ls d = subst (λ c. Decodes p (c ∷ t) (itself p c ∷ ls)) (sym same) (Decodes.ampersand f (subst (λ c. Decodes (step p c) t ls) same d))
front_if p b t q false w e f h = front_byte p b t q (λ ls d. Decodes.byte b e d) h

pub front : (p : Place) (t : Text) (q : Letters × ℕ) → letters_at p t ≡ Some q → Front p t q
unfolding letters_at
front p [] q e = absurd (cc)
front p (b ∷ t) q e = front_if p b t q (b == 38) (begins_entity t) refl refl e

before_some : (ls : Letters) (o : Option Letters) (ms : Letters) → before ls o ≡ Some ms → (ns : Letters) × (o ≡ Some ns) × (ms ≡ ls ++ ns)
before_some ls None ms e = absurd (cc)
before_some ls (Some ns) ms e = (ns, refl, sym (some_same e))

sound_front : (p : Place) (b : ℕ) (t : Text) (ms : Letters) → ((n : ℕ) (a r : Text) → t ≡ a ++ r → length a ≡ n → (ns : Letters) → decode n (step p b) t ≡ Some ns → Decodes (steps (step p b) a) r ns)
    → (o : Option (Letters × ℕ)) → letters_at p (b ∷ t) ≡ o → decode_by (λ n. decode n (step p b) t) o ≡ Some ms → Decodes p (b ∷ t) ms
sound_front p b t ms go None e f = absurd (cc)
sound_front p b t ms go (Some q) e f =
    let h : Front p (b ∷ t) q = front p (b ∷ t) q e in
    let g : (ns : Letters) × (decode (q.1 - 1) (step p b) t ≡ Some ns) × (ms ≡ q.0 ++ ns) = before_some q.0 _ ms f in
    at h.text h.rest h.is h.long h.some h.reads g.0 g.1 g.2
  where
    at : (a r : Text) → b ∷ t ≡ a ++ r → length a ≡ q.1 → 0 < q.1 → ((ls : Letters) → Decodes (steps p a) r ls → Decodes p (b ∷ t) (q.0 ++ ls)) → (ns : Letters) → decode (q.1 - 1) (step p b) t ≡ Some ns → ms ≡ q.0 ++ ns → Decodes p (b ∷ t) ms
    at [] r is long some reads ns d same = absurd (omega arith)
    at (c ∷ a) r is long some reads ns d same =
        let hd : b ≡ c = cc in
        let tl : t ≡ a ++ r = cc in
        subst (Decodes p (b ∷ t)) (sym same) (reads ns (subst (λ k. Decodes (steps (step p k) a) r ns) hd (go (q.1 - 1) a r tl (omega arith) ns d)))

sound_from : (t : Text) (left : ℕ) (p : Place) (a r : Text) → t ≡ a ++ r → length a ≡ left → (ms : Letters) → decode left p t ≡ Some ms → Decodes (steps p a) r ms
unfolding decode
sound_from [] left p [] r e l ms f = let g : [] ≡ ms = some_same f in subst (Decodes p r) g (subst (λ k. Decodes p k []) e Decodes.nothing)
sound_from [] left p (c ∷ a) r e l ms f = absurd (cc)
sound_from (b ∷ t) zero p [] r e l ms f = subst (λ k. Decodes p k ms) e (sound_front p b t ms (λ n a r. sound_from t n (step p b) a r) (letters_at p (b ∷ t)) refl f)
sound_from (b ∷ t) zero p (c ∷ a) r e l ms f = absurd (omega arith)
sound_from (b ∷ t) (suc left) p [] r e l ms f = absurd (omega arith)
sound_from (b ∷ t) (suc left) p (c ∷ a) r e l ms f =
    let hd : b ≡ c = cc in
    let tl : t ≡ a ++ r = cc in
    subst (λ k. Decodes (steps (step p k) a) r ms) hd (sound_from t left (step p b) a r tl (omega arith) ms f)

pub sound : (p : Place) (t : Text) (ls : Letters) → decode 0 p t ≡ Some ls → Decodes p t ls
sound p t ls e = sound_from t 0 p [] t refl refl ls e

-- ---- the laws

pub one_decoding : (p : Place) (t : Text) (ls ms : Letters) → Decodes p t ls → Decodes p t ms → ls ≡ ms
one_decoding p t ls ms h i = some_same (sym (complete h) ∙ complete i)

pub decoded_none : (p : Place) (t : Text) → decode 0 p t ≡ None → (ls : Letters) → Decodes p t ls → ⊥
decoded_none p t e ls h = absurd (none_some (sym e ∙ complete h))
  where
    none_some : None ≡ Some ls → ⊥
    none_some i = cc

-- ---- what is decoded are characters

scalar_is : (n c : ℕ) → scalar n ≡ Some c → IsScalar c
scalar_is n c e = let g = given ((nat_le 1 n && nat_le n 55295) || (nat_le 57344 n && nat_le n 1114111)) n c e in subst IsScalar g.1 (in_range n g.0)
  where
    given : (v : Bool) (n c : ℕ) → cond v (Some n) None ≡ Some c → (v ≡ true) × (n ≡ c)
    given true n c e = (refl, some_same e)
    given false n c e = absurd (cc)

    in_range : (c : ℕ) → ((nat_le 1 c && nat_le c 55295) || (nat_le 57344 c && nat_le c 1114111)) ≡ true → IsScalar c
    in_range c e = grind arith

numeral_scalar : (b : ℕ) (z : Text) (c : ℕ) (v : Bool) → cond v (hexadecimal z) (decimal (b ∷ z)) ≡ Some c → IsScalar c
numeral_scalar b [] c true e = absurd (cc)
numeral_scalar b (d ∷ z) c true e = scalar_is (hex_from 0 (d ∷ z)) c (some_if (all is_hex (d ∷ z)) (scalar (hex_from 0 (d ∷ z))) c e).1
numeral_scalar b z c false e = scalar_is (value_from 0 (b ∷ z)) c (some_if (all is_digit (b ∷ z)) (scalar (value_from 0 (b ∷ z))) c e).1

abbrev EachScalar : List (Text × ℕ) → Type 0
EachScalar [] = Unit {0}
EachScalar (e ∷ es) = IsScalar e.1 × EachScalar es

named_scalar : (es : List (Text × ℕ)) → EachScalar es → (a : Text) (c : ℕ) → named es a ≡ Some c → IsScalar c
named_scalar [] h a c e = absurd (cc)
named_scalar (x ∷ es) h a c e = by (same_text x.0 a) e (λ g. named_scalar es h.1 a c g)
  where
    by : (v : Bool) → cond v (Some x.1) (named es a) ≡ Some c → (named es a ≡ Some c → IsScalar c) → IsScalar c
    by true g go = subst IsScalar (some_same g) h.0
    by false g go = go g

character_scalar : (a : Text) (c : ℕ) → named characters a ≡ Some c → IsScalar c
unfolding characters
character_scalar a c e = named_scalar characters (refl, (refl, (refl, (refl, (refl, (refl, tt)))))) a c e

entity_scalar : (a : Text) (c : ℕ) → entity_of a ≡ Some c → IsScalar c
entity_scalar [] c e = absurd (cc)
entity_scalar (b ∷ a) c e = by (b == 35) a e
  where
    by : (v : Bool) (a : Text) → cond v (numeral a) (named characters (b ∷ a)) ≡ Some c → IsScalar c
    by true [] e = absurd (cc)
    by true (d ∷ a) e = numeral_scalar d a c (d == 120) e
    by false a e = character_scalar (b ∷ a) c e

bytes_decoded : (p : Place) (x : Text) → bytes (map (decoded p) x) ≡ x
bytes_decoded p [] = refl
bytes_decoded p (b ∷ x) = ap (λ k. b ∷ k) (bytes_decoded p x)

bytes_append : (ls ms : Letters) → bytes (ls ++ ms) ≡ bytes ls ++ bytes ms
bytes_append ls ms = map-append (λ (l : PlacedLetter). l.letter.byte) ls ms

-- What stands before a byte of a text may be any bytes of UTF-8 that aren't whole: the bytes before it go along.
abbrev Along : Text → Text → Letters → Type 0
Along w t ls = IsUtf8 (w ++ t) → IsUtf8 (w ++ bytes ls)

along : {p : Place} {t : Text} {ls : Letters} → Decodes p t ls → (w : Text) → Along w t ls
along Decodes.nothing w u = u
along (Decodes.byte {z = z} {ls = ls} b e h) w u =
    subst IsUtf8 (append_assoc w (b ∷ []) (bytes ls)) (along h (w ++ (b ∷ [])) (subst IsUtf8 (sym (append_assoc w (b ∷ []) z)) u))
along (Decodes.ampersand {z = z} {ls = ls} e h) w u =
    subst IsUtf8 (append_assoc w (38 ∷ []) (bytes ls)) (along h (w ++ (38 ∷ [])) (subst IsUtf8 (sym (append_assoc w (38 ∷ []) z)) u))
along (Decodes.entity {p = p} {c = c} {ls = ls} a z e h) w u =
    let before : IsUtf8 w = utf8_before w 38 (a ++ (59 ∷ z)) (omega arith) u in
    let behind : IsUtf8 z = utf8_after (w ++ (38 ∷ a)) 59 z (omega arith) (subst IsUtf8 (sym (append_assoc w (38 ∷ a) (59 ∷ z))) u) in
    let rest : IsUtf8 (bytes ls) = along h [] behind in
    let whole : encode_utf8 c ++ bytes ls ≡ bytes (map (decoded p) (encode_utf8 c) ++ ls) = sym (bytes_append (map (decoded p) (encode_utf8 c)) ls ∙ ap (λ k. k ++ bytes ls) (bytes_decoded p (encode_utf8 c))) in
    IsUtf8-append w _ before (subst IsUtf8 whole (IsUtf8-append (encode_utf8 c) (bytes ls) (IsUtf8-encode c (entity_scalar a c e)) rest))

pub decoded_utf8 : (p : Place) (t : Text) (ls : Letters) → Decodes p t ls → IsUtf8 t → IsUtf8 (bytes ls)
decoded_utf8 p t ls h u = along h [] u
