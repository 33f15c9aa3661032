-- Letters without their places, one after another.
use Rattle.std.proofs.Common.{◌≡◌, ℕ, ◌+◌, ◌<◌, ◌≤◌, List, [], ◌∷◌, ◌++◌, length, drop, get_or, sym, ◌∙◌, ap, append_assoc}
use Rattle.std.proofs.lemmas.List.{at_drop_more, at_drop_all, append-nil}
use Rattle.ng_lex.specs.declared.letters.PlacedLetter.{PlacedLetter}
use Rattle.ng_lex.specs.declared.markup.Letter.{Letter}
use Rattle.ng_lex.specs.Letters.{Letters, letters}

pub letters_more : (kept : List Letter) (found : Letters) (i : ℕ) (l : PlacedLetter) → (i < length found) × (l ≡ get_or found i l) → kept ++ letters (drop i found) ≡ (kept ++ l.letter ∷ []) ++ letters (drop (i + 1) found)
letters_more kept found i l h = ap (λ z. kept ++ z) (at_drop_more letters found i l h.0 ∙ ap (λ x. letters (x ∷ drop (i + 1) found)) (sym h.1)) ∙ sym (append_assoc kept (l.letter ∷ []) _)

pub letters_end : (kept : List Letter) (found : Letters) (i : ℕ) → length found ≤ i → kept ++ letters (drop i found) ≡ kept
letters_end kept found i h = ap (λ z. kept ++ z) (at_drop_all letters found i h) ∙ append-nil kept
