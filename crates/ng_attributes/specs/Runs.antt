-- Runs of bytes of one class, as long as can be.
use Rattle.std.specs.Prelude.{◌≡◌, ℕ, Bool, true, false, ◌++◌}
use Rattle.ng_tokens.specs.Lexis.{Text, is_blank, is_word, all}
use Rattle.ng_lex.specs.Words.{at_front}
use Rattle.ng_lex.specs.Names.{in_attribute, in_part}
use Rattle.ng_lex.specs.Attributes.{differs, in_bare, in_tag}
use Rattle.ng_attributes.specs.declared.classes.Class.{Class}
use Rattle.ng_attributes.specs.declared.classes.Class.TheVariants as c

-- the bytes of a class
abbrev pub passes : Class → ℕ → Bool
passes c.Blank b = is_blank b
passes c.Tag b = in_tag b
passes c.Word b = is_word b
passes c.Part b = in_part b
passes c.Attribute b = in_attribute b
passes c.Bare b = in_bare b
passes c.NotDouble b = differs 34 b
passes c.NotSingle b = differs 39 b

-- The first text is the second, each of whose bytes passes the test, and the third, which doesn't go on so.
pub record Run (p : ℕ → Bool) (t a z : Text) : Type 0 where
  pub is : t ≡ a ++ z
  pub passes : all p a ≡ true
  pub stops : at_front p z ≡ false
