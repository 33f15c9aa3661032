-- How a text is read from left to right.
use Rattle.std.specs.Prelude.{◌≡◌, ℕ, Bool, ◌++◌}
use Rattle.ng_tokens.specs.Lexis.{Text, steps}
use Rattle.ng_heads.specs.declared.at.At.{At}
use Rattle.ng_heads.specs.Runs.{Run}

-- this text stands before what is left
pub record Past (at : At) (a : Text) (next : At) : Type 0 where
  pub is : at.text.now ≡ a ++ next.text.now
  pub place : next.place ≡ steps at.place a

-- the bytes that pass the test are skipped
pub record Skips (p : ℕ → Bool) (at next : At) : Type 0 where
  pub a : Text
  pub run : Run p at.text.now a next.text.now
  pub place : next.place ≡ steps at.place a

-- the bytes that pass the test, and what is left
pub record Splits (p : ℕ → Bool) (at front next : At) : Type 0 where
  pub run : Run p at.text.now front.text.now next.text.now
  pub here : front.place ≡ at.place
  pub place : next.place ≡ steps at.place front.text.now
