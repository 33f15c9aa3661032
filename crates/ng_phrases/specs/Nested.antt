-- A phrase that may stand in itself: read to any depth, and over where it is begun in too many of its own.
use Rattle.std.specs.Prelude.{ℕ, zero, suc, Err}
use Rattle.ng_ast.specs.declared.Place.{Place}
use Rattle.ng_tokens.specs.Lexis.{Text}
use Rattle.ng_phrases.specs.Parser.{Readers, Stop, Parser}
use Rattle.ng_phrases.specs.Phrase.{Phrase}
use Rattle.ng_phrases.specs.Reading.{reads, over}
use Rattle.ng_phrases.specs.Parse.{parse}

module _ {R : Readers} {H : Type 0} (g : Phrase R H H) where
  -- the phrase, in itself in fewer than so many levels
  unfoldable pub reads_below : ℕ → Place → Text → Text → H → Type 0
  reads_below zero p x z a = ⊥
  reads_below (suc n) p x z a = reads (reads_below n) g p x z a

  -- in any number of levels
  abbrev pub Nests : Place → Text → Text → H → Type 0
  Nests p x z a = (n : ℕ) × reads_below n p x z a

  -- it passes a limit, or is begun where so many levels are
  unfoldable pub over_below : ℕ → Place → Text → Type 0
  over_below zero p t = Unit {0}
  over_below (suc d) p t = over Nests (over_below d) g p t

  -- its parser, for fewer than so many levels
  unfoldable pub parse_below : ℕ → Parser R.Question H
  parse_below zero = λ p t. Err Stop.Limit
  parse_below (suc d) = parse (parse_below d) g
