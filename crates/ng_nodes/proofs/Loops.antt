-- Steps of the functions on letters.
use Rattle.std.proofs.Common.{◌≡◌, ℕ, ◌+◌, ◌<◌, ◌≤◌, List, [], ◌∷◌, ◌++◌, length, drop, get_or, refl, sym, ◌∙◌, ap, subst, append_assoc}
use Rattle.std.proofs.lemmas.List.{at_drop_more, at_drop_all, append-nil}
use Rattle.std.specs.Prelude.{Bool, true, false, cond, if◌then◌else◌, Some, None, Vec, String, string_bytes}
use Rattle.std.specs.declared.alloc.Global.{Global}
use Rattle.std.specs.Str.{IsUtf8, is_utf8}
use Rattle.std.specs.String.{string_vec}
use Rattle.std.proofs.lemmas.Str.{IsUtf8-string_bytes, IsUtf8-from_is_utf8, is_utf8-from_IsUtf8}
use Rattle.ng_lex.specs.declared.markup.Letter.{Letter}
use Rattle.ng_nodes.specs.Texts.{Text, all_blank, kept, collapsed}

pub all_blank_more : (cs : List Letter) (i : ℕ) (c : Letter) → (i < length cs) × (c ≡ get_or cs i c) → all_blank (drop i cs) ≡ cond c.blank (all_blank (drop (i + 1) cs)) false
all_blank_more cs i c h = at_drop_more all_blank cs i c h.0 ∙ ap (λ x. all_blank (x ∷ drop (i + 1) cs)) (sym h.1)

pub all_blank_end : (cs : List Letter) (i : ℕ) → length cs ≤ i → all_blank (drop i cs) ≡ true
all_blank_end cs i h = at_drop_all all_blank cs i h

pub kept_more : (found : Text) (cs : List Letter) (i : ℕ) (c : Letter) → (i < length cs) × (c ≡ get_or cs i c) → found ++ kept (drop i cs) ≡ (found ++ c.byte ∷ []) ++ kept (drop (i + 1) cs)
kept_more found cs i c h = ap (λ z. found ++ z) (at_drop_more kept cs i c h.0 ∙ ap (λ x. kept (x ∷ drop (i + 1) cs)) (sym h.1)) ∙ sym (append_assoc found (c.byte ∷ []) _)

pub kept_end : (found : Text) (cs : List Letter) (i : ℕ) → length cs ≤ i → found ++ kept (drop i cs) ≡ found
kept_end found cs i h = ap (λ z. found ++ z) (at_drop_all kept cs i h) ∙ append-nil found

pub collapsed_more : (after : Bool) (cs : List Letter) (i : ℕ) (c : Letter) → (i < length cs) × (c ≡ get_or cs i c)
    → collapsed after (drop i cs) ≡ cond c.blank (cond after (collapsed true (drop (i + 1) cs)) (32 ∷ collapsed true (drop (i + 1) cs))) (c.byte ∷ collapsed false (drop (i + 1) cs))
collapsed_more after cs i c h = at_drop_more (collapsed after) cs i c h.0 ∙ ap (λ x. collapsed after (x ∷ drop (i + 1) cs)) (sym h.1)

pub collapsed_end : (after : Bool) (cs : List Letter) (i : ℕ) → length cs ≤ i → collapsed after (drop i cs) ≡ []
collapsed_end after cs i h = at_drop_all (collapsed after) cs i h

-- bytes that are a string
pub decoded_some : (s : String Global) (v : Vec ℕ Global) (t : List ℕ) → string_vec s ≡ v → t ≡ string_bytes s → Some t ≡ (if is_utf8 v.items then Some v.items else None)
decoded_some s v t e f =
    let same : string_bytes s ≡ v.items = ap (λ u. u.items) e in
    let utf8 : is_utf8 v.items ≡ true = subst (λ bs. is_utf8 bs ≡ true) same (is_utf8-from_IsUtf8 (string_bytes s) (IsUtf8-string_bytes s)) in
    ap (λ z. Some z) (f ∙ same) ∙ sym (ap (λ b. if b then Some v.items else None) utf8)

-- bytes that are none
pub decoded_none : (bs : List ℕ) → (IsUtf8 bs → false ≡ true) → None ≡ (if is_utf8 bs then Some bs else None)
decoded_none bs isnt = by_bool (is_utf8 bs) refl
  where
    by_bool : (v : Bool) → is_utf8 bs ≡ v → None ≡ (if v then Some bs else None)
    by_bool true e = let f : false ≡ true = isnt (IsUtf8-from_is_utf8 bs e) in absurd cc
    by_bool false e = refl
