-- Runs of bytes that pass a test, as long as can be.
use Rattle.std.specs.Prelude.{◌≡◌, ℕ, Bool, true, false, ◌||◌, ◌==◌, if◌then◌else◌, ◌++◌}
use Rattle.ng_tokens.specs.Lexis.{Text, is_blank, all}
use Rattle.ng_lex.specs.Words.{at_front}

-- The first text is the second, each of whose bytes passes the test, and the third, which doesn't go on so.
pub record Run (p : ℕ → Bool) (t a z : Text) : Type 0 where
  pub is : t ≡ a ++ z
  pub passes : all p a ≡ true
  pub stops : at_front p z ≡ false

-- any byte but white space
abbrev pub in_word : ℕ → Bool
in_word b = if is_blank b then false else true

-- any byte but `;` and `)`
abbrev pub in_piece : ℕ → Bool
in_piece b = if b == 59 || b == 41 then false else true
