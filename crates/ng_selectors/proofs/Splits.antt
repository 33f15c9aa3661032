-- The words of a text, and the pieces that `split` gives.
use Rattle.std.proofs.Common.{◌≡◌, ℕ, List, [], ◌∷◌, refl, sym, ◌∙◌, ap}
use Rattle.std.specs.Prelude.{Bool, true, false, cond, ◌&&◌, ◌||◌, filter}
use Rattle.std.specs.List.{list_any, slice_split, onto_first}
use Rattle.std.specs.Str.{bytes_eq}
use Rattle.ng_tokens.specs.Lexis.{Text, is_blank}
use Rattle.ng_selectors.specs.Fits.{before_byte, between_blanks, is_filled, has_word}

pieces_if : (x : Bool) (b : ℕ) (ws : List Text) → before_byte x b ws ≡ cond x ([] ∷ ws) (onto_first b ws)
pieces_if true b ws = refl
pieces_if false b ws = refl

pieces_are : (t : Text) → between_blanks t ≡ slice_split is_blank t
pieces_are [] = refl
pieces_are (b ∷ t) = pieces_if (is_blank b) b (between_blanks t) ∙ ap (λ ws. cond (is_blank b) ([] ∷ ws) (onto_first b ws)) (pieces_are t)

filled_any : (test : Text → Bool) (ws : List Text) → list_any (λ w. is_filled w && test w) ws ≡ list_any test (filter is_filled ws)
filled_any test [] = refl
filled_any test ([] ∷ ws) = filled_any test ws
filled_any test ((b ∷ w) ∷ ws) = ap (λ x. test (b ∷ w) || x) (filled_any test ws)

-- a word is a piece that isn't empty
pub has_word_is : (w t : Text) → list_any (λ piece. is_filled piece && bytes_eq w piece) (slice_split is_blank t) ≡ has_word w t
has_word_is w t = ap (list_any (λ piece. is_filled piece && bytes_eq w piece)) (sym (pieces_are t)) ∙ filled_any (bytes_eq w) (between_blanks t)
