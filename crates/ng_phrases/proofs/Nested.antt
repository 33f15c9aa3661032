-- The parser of a phrase that may stand in itself, and the phrase, are one.
use Rattle.std.proofs.Common.{ℕ, zero, suc, subst}
use Rattle.ng_phrases.specs.Parser.{Readers, Stop, Sound, Calm, Complete, Means, Stops, Exact}
use Rattle.ng_phrases.specs.Phrase.{Phrase}
use Rattle.ng_phrases.specs.Nested.{reads_below, Nests, over_below, parse_below}
use Rattle.ng_phrases.specs.ParserLaws.{err_no_ok, same_stop}
use Rattle.ng_phrases.proofs.Laws.{sound, complete, calm, stops}

module _ (R : Readers) {H : Type 0} (g : Phrase R H H) where
  -- whatever the depth of what is read
  complete_below : (n d : ℕ) → Complete R (reads_below g n) (parse_below g d)
  unfolding reads_below parse_below
  complete_below zero d = record { gets = λ p x z a h. absurd h }
  complete_below (suc n) zero = record { gets = λ p x z a h. tt }
  complete_below (suc n) (suc d) = complete R (reads_below g n) (parse_below g d) (complete_below n d) g

  complete_any : (d : ℕ) → Complete R (Nests g) (parse_below g d)
  complete_any d = record { gets = λ p x z a h. (complete_below h.0 d).gets p x z a h.1 }

  sound_below : (d : ℕ) → Sound (reads_below g d) (parse_below g d)
  unfolding reads_below parse_below
  sound_below zero = record { takes = λ p t a q z e. absurd (err_no_ok Stop.Limit (a, q, z) e) }
  sound_below (suc d) = sound R (reads_below g d) (parse_below g d) (sound_below d) g

  sound_any : (d : ℕ) → Sound (Nests g) (parse_below g d)
  sound_any d = record {
    takes = λ p t a q z e. let h = (sound_below d).takes p t a q z e in record { text = h.text; parts = h.parts; place = h.place; reads = (d, h.reads) };
  }

  calm_below : (d : ℕ) → Calm (over_below g d) (parse_below g d)
  unfolding over_below parse_below
  calm_below zero = record { within = λ p t a q z e h. err_no_ok Stop.Limit (a, q, z) e }
  calm_below (suc d) = calm R (Nests g) (parse_below g d) (over_below g d) (calm_below d) (complete_any d) g

  stops_below : (d : ℕ) → Stops R (over_below g d) (parse_below g d)
  unfolding over_below parse_below
  stops_below zero = record { means = λ p t e h. subst (Means R (Unit {0})) (same_stop Stop.Limit e h) tt }
  stops_below (suc d) = stops R (Nests g) (parse_below g d) (over_below g d) (stops_below d) (sound_any d) g

  pub exact_below : (d : ℕ) → Exact R (Nests g) (over_below g d) (parse_below g d)
  exact_below d = record { sound = sound_any d; calm = calm_below d; complete = complete_any d; stops = stops_below d }
