-- The rounds of a list, one at a time.
use Rattle.std.proofs.Common.{◌≡◌, ℕ, suc, ◌<◌, Bool, true, false, List, [], ◌∷◌, ◌++◌, length, refl, ◌∙◌, ap, arith, length-append}
use Rattle.std.specs.Prelude.{Ok, Err}
use Rattle.ng_ast.specs.declared.Place.{Place}
use Rattle.ng_tokens.specs.declared.kinds.Token.{Token}
use Rattle.ng_tokens.specs.Lexis.{Text}
use Rattle.ng_phrases.specs.Parser.{Stop, Outcome, Parser, Sound}
use Rattle.ng_phrases.specs.Phrase.{Phrase}
use Rattle.ng_phrases.specs.Parse.{parse}
use Rattle.ng_phrases.specs.ParserLaws.{then_ok, err_no_ok}
use Rattle.ng_phrases.specs.Tokens.{parse_token}
use Rattle.ng_phrases.specs.TokensLaws.{exact_token, token_takes_some}
use Rattle.ng_phrases.specs.Words.{token, repeat_from}
use Rattle.ng_phrases.proofs.Laws.{sound}
use Rattle.ng_phrases.specs.Nested.{Nests, parse_below}
use Rattle.ng_phrases.proofs.Nested.{exact_below}
use Rattle.ng_phrases.proofs.Turns.{Falls, each_stops, each_fails, each_fills, each_goes_on, each_enough}
use Rattle.ng_values.specs.declared.value.Value.{Value}
use Rattle.ng_declare.specs.declared.halt.Halt.{Halt}
use Rattle.ng_declare.specs.declared.halt.Halt.TheVariants as h
use Rattle.ng_declare.specs.Readers.{Question, ask, readers}
use Rattle.ng_declare.specs.Constants.{constant_within}
use Rattle.ng_declare.specs.Gives.{nothing, inside, Fails}
use Rattle.ng_declare.specs.Files.{nowhere}
use Rattle.ng_declare.specs.Weights.{Fits}
use Rattle.ng_declare.specs.Rounds.{one, rounds}

some_text : (x : Text) → (x ≡ [] → ⊥) → 0 < length x
some_text [] h = absurd (h refl)
some_text (b ∷ x) h = omega arith

-- a token, and what comes after it, is not empty
falls_one : {H A : Type 0} (r : Place → Text → Text → H → Type 0) (inner : Parser Question H) → Sound r inner → (item : Token → Phrase readers H A) → Falls (parse inner (one item))
unfolding parse token
falls_one r inner sure item p t a q u e =
    let i = then_ok (parse_token p t) (λ k. parse inner (item k)) (a, q, u) e in
    let w = (exact_token readers).sound.takes p t i.0.0 i.0.1 i.0.2 i.1 in
    let v = (sound readers r inner sure (item i.0.0)).takes i.0.1 i.0.2 a q u i.2 in
    let some : 0 < length w.text = some_text w.text (token_takes_some p w.text i.0.2 i.0.0 w.reads) in
    omega (arith, some, ap length w.parts, length-append w.text i.0.2, ap length v.parts, length-append v.text u)

sound_nothing : Sound nowhere nothing
sound_nothing = record { takes = λ p t a q z e. absurd (err_no_ok Stop.Syntax (a, q, z) e) }

pub falls_read : {A : Type 0} (item : Token → Phrase readers ⊥ A) → Falls (parse nothing (one item))
falls_read item = falls_one nowhere nothing sound_nothing item

pub falls_inside : {A : Type 0} (d : ℕ) (item : Token → Phrase readers Value A) → Falls (inside d (one item))
falls_inside d item = falls_one (Nests {R = readers} constant_within) (parse_below {R = readers} constant_within d) (exact_below readers constant_within d).sound item

module _ {H A : Type 0} (inner : Parser Question H) (more : Text → Bool) (item : Token → Phrase readers H A) (good : List A → Bool) where
  -- what a list is read by
  pub rounds_start : (start : List A) (p : Place) (t : Text) → parse inner (repeat_from start more item good) p t ≡ rounds inner more item good start p t
  unfolding parse token rounds
  rounds_start start p t = refl

  module _ (found : List A) (p : Place) (t : Text) where
    pub round_stops : more t ≡ false → rounds inner more item good found p t ≡ Ok (found, p, t)
    unfolding rounds
    round_stops e = each_stops more (parse inner (one item)) good (length t) found p t e

    round_fails : (e : Stop Question) → more t ≡ true → parse inner (one item) p t ≡ Err e → rounds inner more item good found p t ≡ Err e
    unfolding rounds
    round_fails e h i = each_fails more (parse inner (one item)) good (length t) found p t e h i

    round_fills : (a : A) (q : Place) (u : Text) → more t ≡ true → parse inner (one item) p t ≡ Ok (a, q, u) → good (found ++ a ∷ []) ≡ false → rounds inner more item good found p t ≡ Err Stop.Limit
    unfolding rounds
    round_fills a q u h i g = each_fills more (parse inner (one item)) good (length t) found p t a q u h i g

    pub round_on : Falls (parse inner (one item)) → (a : A) (q : Place) (u : Text) → more t ≡ true → parse inner (one item) p t ≡ Ok (a, q, u) → good (found ++ a ∷ []) ≡ true
        → rounds inner more item good found p t ≡ rounds inner more item good (found ++ a ∷ []) q u
    unfolding rounds
    round_on falls a q u h i g =
        each_goes_on more (parse inner (one item)) good (length t) found p t a q u h i g
        ∙ each_enough more (parse inner (one item)) good falls (length t) (suc (length u)) (found ++ a ∷ []) q u (falls p t a q u i) (omega arith)

    -- the refusal of a phrase is that of the list
    pub round_refused : (o : Outcome Question (List A)) (e : Halt) (q : Place) (u : Text) → o ≡ rounds inner more item good found p t → more t ≡ true → Fails (parse inner (one item) p t) e q u → Fails o e q u
    round_refused o (h.Syntax at) q u is goes f = is ∙ round_fails Stop.Syntax goes f
    round_refused o (h.Limit at) q u is goes f = is ∙ round_fails Stop.Limit goes f
    round_refused o h.Memory q u is goes f = tt
    round_refused o (h.Refused what error) q u is goes f = (is ∙ round_fails (Stop.Refused (ask what q u)) goes f.0, f.1)

    -- one phrase too many
    pub round_full : (o : Outcome Question (List A)) (e : Halt) (a : A) (q m : Place) (u v : Text) → o ≡ rounds inner more item good found p t → more t ≡ true → parse inner (one item) p t ≡ Ok (a, q, u)
        → Fits (good (found ++ a ∷ [])) e → Fails o e m v
    round_full o (h.Syntax at) a q m u v is goes i f = absurd f
    round_full o (h.Limit at) a q m u v is goes i f = is ∙ round_fills a q u goes i f
    round_full o h.Memory a q m u v is goes i f = tt
    round_full o (h.Refused what error) a q m u v is goes i f = absurd f
