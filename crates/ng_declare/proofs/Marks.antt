-- A byte order mark.
use Rattle.std.proofs.Common.{◌≡◌, ℕ, true, [], ◌∷◌, ◌∙◌, ap, arith}
use Rattle.std.specs.Prelude.{◌==◌, ◌&&◌}
use Rattle.std.specs.Str.{IsUtf8, IsCharBoundary}
use lib.Utf8.{encode}
use Rattle.std.proofs.lemmas.Str.{IsCharBoundary-past_char}
use Rattle.ng_tokens.specs.Lexis.{Text}
use Rattle.ng_declare.specs.Files.{is_marked}

all_three : (a b c : ℕ) → (a == 239 && b == 187 && c == 191) ≡ true → (a ≡ 239) × (b ≡ 187) × (c ≡ 191)
all_three a b c e = grind arith

-- the text may be cut after its byte order mark
pub after_mark : (t : Text) → IsUtf8 t → is_marked t ≡ true → IsCharBoundary t 3
unfolding encode
after_mark [] u e = absurd (cc)
after_mark (a ∷ []) u e = absurd (cc)
after_mark (a ∷ b ∷ []) u e = absurd (cc)
after_mark (a ∷ b ∷ c ∷ z) u e =
    let h = all_three a b c e in
    IsCharBoundary-past_char (a ∷ b ∷ c ∷ z) z 0 65279 (omega arith) u (ap (λ x. x ∷ b ∷ c ∷ z) h.0 ∙ ap (λ x. 239 ∷ x ∷ c ∷ z) h.1 ∙ ap (λ x. 239 ∷ 187 ∷ x ∷ z) h.2)
