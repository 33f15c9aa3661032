-- The parser of a phrase and what the phrase reads are one, where they are for what is put for the hole.
use Rattle.std.proofs.Common.{◌≡◌, Bool, true, false, cond, [], ◌∷◌, ◌++◌, refl, sym, ◌∙◌, ap, subst}
use Rattle.std.specs.Prelude.{Ok, Err, ◌⊎◌}
use Rattle.ng_ast.specs.declared.Place.{Place}
use Rattle.ng_tokens.specs.Lexis.{Text, steps}
use Rattle.ng_phrases.specs.Parser.{Readers, Stop, Outcome, Parser, and_then, Took, Sound, Calm, Gets, Complete, Means, Stops, Exact, Takes}
use Rattle.ng_phrases.specs.Phrase.{Phrase}
use Rattle.ng_phrases.specs.Reading.{Then, Later, reads, over}
use Rattle.ng_phrases.specs.Parse.{parse}
use Rattle.ng_phrases.specs.ParserLaws.{same_done, err_no_ok, ok_no_err, same_stop}
use Rattle.ng_phrases.proofs.Sequences.{sound_then, complete_then, calm_then, stops_then}
use Rattle.ng_phrases.proofs.Lists.{sound_each, complete_each, calm_each, stops_each}

-- ---- phrases of no text

-- nothing is taken, for a value
nothing : {A : Type 0} (r : Place → Text → Text → A → Type 0) (p : Place) (t : Text) (b : A) (u : A × Place × Text) → ◌≡◌ {A = A × Place × Text} (b, p, t) u → r p [] t b → Took r p t u.0 u.1 u.2
nothing {A} r p t b u e h = let P : A × Place × Text → Type 0 = λ y. Took r p t y.0 y.1 y.2 in subst P e (record { text = []; parts = refl; place = refl; reads = h })

gets_nothing : (R : Readers) {A : Type 0} (a b : A) (p : Place) (x z : Text) → x ≡ [] → b ≡ a → Gets R (b, steps p x, z) (Ok (a, p, x ++ z))
gets_nothing R {A} a b p x z e h =
    let P : Text → A → Type 0 = λ (w : Text) (c : A). ◌≡◌ {A = A × Place × Text} (a, p, w ++ z) (c, steps p w, z) in
    subst (λ (w : Text). P w b) (sym e) (subst (λ (c : A). P [] c) (sym h) refl)

taken_within : {Q : Type 0} (b : Bool) (p : Place) (t : Text) (u : Unit {0} × Place × Text) → ◌≡◌ {A = Outcome Q (Unit {0})} (cond b (Ok (tt, p, t)) (Err Stop.Limit)) (Ok u) → (b ≡ true) × (◌≡◌ {A = Unit {0} × Place × Text} (tt, p, t) u)
taken_within true p t u e = (refl, same_done (tt, p, t) u e)
taken_within false p t u e = absurd (err_no_ok Stop.Limit u e)

true_no_false : (b : Bool) → b ≡ true → b ≡ false → ⊥
true_no_false b e h = cc

gets_within : (R : Readers) (b : Bool) (p : Place) (t : Text) (v : Unit {0} × Place × Text) → Gets R v (Ok (tt, p, t)) → Gets R v (cond b (Ok (tt, p, t)) (Err Stop.Limit))
gets_within R true p t v h = h
gets_within R false p t v h = tt

means_within : (R : Readers) (b : Bool) (p : Place) (t : Text) (e : Stop R.Question) → ◌≡◌ {A = Outcome R.Question (Unit {0})} (cond b (Ok (tt, p, t)) (Err Stop.Limit)) (Err e) → Means R (b ≡ false) e
means_within R true p t e h = absurd (ok_no_err e (tt, p, t) h)
means_within R false p t e h = subst (Means R (false ≡ false)) (same_stop Stop.Limit e h) refl

-- ---- every phrase

module _ (R : Readers) {H : Type 0} (inner : Place → Text → Text → H → Type 0) (parser : Parser R.Question H) where
  pub sound : Sound inner parser → {A : Type 0} (g : Phrase R H A) → Sound (reads inner g) (parse parser g)
  unfolding reads parse
  sound h (Phrase.pure a) = record { takes = λ p t b q z e. nothing (reads {R = R} inner (Phrase.pure a)) p t a (b, q, z) (same_done _ _ e) (refl, refl) }
  sound h (Phrase.bind r f) = sound_then R (reads inner r) (λ a. reads inner (f a)) (parse parser r) (λ a. parse parser (f a)) (sound h r) (λ a. sound h (f a))
  sound h Phrase.here = record { takes = λ p t b q z e. nothing (reads {R = R} inner Phrase.here) p t p (b, q, z) (same_done _ _ e) (refl, refl) }
  sound h (Phrase.ahead see) = record { takes = λ p t b q z e. nothing (reads {R = R} inner (Phrase.ahead see)) p t (see t) (b, q, z) (same_done _ _ e) (refl, refl) }
  sound h Phrase.refuse = record { takes = λ p t b q z e. absurd (err_no_ok Stop.Syntax (b, q, z) e) }
  sound h (Phrase.within b) = record { takes = λ p t u q z e. nothing (reads {R = R} inner (Phrase.within b)) p t tt (u, q, z) (taken_within b p t (u, q, z) e).1 refl }
  sound h (Phrase.leaf l) = l.exact.sound
  sound h (Phrase.many more l some item good start) =
      sound_each more (Then l.reads (λ k. reads inner (item k))) (λ q u. and_then (l.parse q u) (λ k. parse parser (item k))) good
      (sound_then R l.reads (λ k. reads inner (item k)) l.parse (λ k. parse parser (item k)) l.exact.sound (λ k. sound h (item k))) start
  sound h Phrase.hole = h

  pub complete : Complete R inner parser → {A : Type 0} (g : Phrase R H A) → Complete R (reads inner g) (parse parser g)
  unfolding reads parse
  complete h (Phrase.pure a) = record { gets = λ p x z b i. gets_nothing R a b p x z i.0 i.1 }
  complete h (Phrase.bind r f) = complete_then R (reads inner r) (λ a. reads inner (f a)) (parse parser r) (λ a. parse parser (f a)) (complete h r) (λ a. complete h (f a))
  complete h Phrase.here = record { gets = λ p x z b i. gets_nothing R p b p x z i.0 i.1 }
  complete h (Phrase.ahead see) = record { gets = λ p x z b i. gets_nothing R (see (x ++ z)) b p x z i.0 (i.1 ∙ ap (λ (w : Text). see (w ++ z)) (sym i.0)) }
  complete h Phrase.refuse = record { gets = λ p x z b i. absurd i }
  complete h (Phrase.within b) = record { gets = λ p x z u i. gets_within R b p (x ++ z) (u, steps p x, z) (gets_nothing R tt u p x z i refl) }
  complete h (Phrase.leaf l) = l.exact.complete
  complete h (Phrase.many more l some item good start) =
      complete_each R more (Then l.reads (λ k. reads inner (item k))) (λ p t. ⊥) (λ q u. and_then (l.parse q u) (λ k. parse parser (item k))) good
      (complete_then R l.reads (λ k. reads inner (item k)) l.parse (λ k. parse parser (item k)) l.exact.complete (λ k. complete h (item k)))
      (takes_first l.reads (λ k. reads inner (item k)) some) start
    where
      takes_first : {A B : Type 0} (r : Place → Text → Text → A → Type 0) (s : A → Place → Text → Text → B → Type 0) → Takes r → Takes (Then r s)
      takes_first r s none p x z b i e = none p i.front (i.back ++ z) i.value i.begins_so (no_front i.front i.back (sym i.parts ∙ e))
        where
          no_front : (x y : Text) → x ++ y ≡ [] → x ≡ []
          no_front [] y e = refl
          no_front (b ∷ x) y e = absurd (cc)
  complete h Phrase.hole = h

  module _ (passes : Place → Text → Type 0) where
    pub calm : Calm passes parser → Complete R inner parser → {A : Type 0} (g : Phrase R H A) → Calm (over inner passes g) (parse parser g)
    unfolding reads over parse
    calm h i (Phrase.pure a) = record { within = λ p t b q z e k. k }
    calm h i (Phrase.bind r f) =
        calm_then R (reads inner r) (λ a. reads inner (f a)) (parse parser r) (λ a. parse parser (f a)) (over inner passes r) (λ a. over inner passes (f a)) (calm h i r) (complete i r) (λ a. calm h i (f a))
    calm h i Phrase.here = record { within = λ p t b q z e k. k }
    calm h i (Phrase.ahead see) = record { within = λ p t b q z e k. k }
    calm h i Phrase.refuse = record { within = λ p t b q z e k. k }
    calm h i (Phrase.within b) = record { within = λ p t u q z e k. true_no_false b (taken_within b p t (u, q, z) e).0 k }
    calm h i (Phrase.leaf l) = l.exact.calm
    calm h i (Phrase.many more l some item good start) =
        calm_each R more (Then l.reads (λ k. reads inner (item k))) (λ q u. l.over q u ⊎ Later l.reads (λ k. over inner passes (item k)) q u) (λ q u. and_then (l.parse q u) (λ k. parse parser (item k))) good
        (calm_then R l.reads (λ k. reads inner (item k)) l.parse (λ k. parse parser (item k)) l.over (λ k. over inner passes (item k)) l.exact.calm l.exact.complete (λ k. calm h i (item k)))
        (complete_then R l.reads (λ k. reads inner (item k)) l.parse (λ k. parse parser (item k)) l.exact.complete (λ k. complete i (item k))) start
    calm h i Phrase.hole = h

    pub stops : Stops R passes parser → Sound inner parser → {A : Type 0} (g : Phrase R H A) → Stops R (over inner passes g) (parse parser g)
    unfolding reads over parse
    stops h i (Phrase.pure a) = record { means = λ p t e k. absurd (ok_no_err e (a, p, t) k) }
    stops h i (Phrase.bind r f) =
        stops_then R (reads inner r) (λ a. reads inner (f a)) (parse parser r) (λ a. parse parser (f a)) (over inner passes r) (λ a. over inner passes (f a)) (stops h i r) (sound i r) (λ a. stops h i (f a))
    stops h i Phrase.here = record { means = λ p t e k. absurd (ok_no_err e (p, p, t) k) }
    stops h i (Phrase.ahead see) = record { means = λ p t e k. absurd (ok_no_err e (see t, p, t) k) }
    stops h i Phrase.refuse = record { means = λ p t e k. subst (Means R ⊥) (same_stop Stop.Syntax e k) tt }
    stops h i (Phrase.within b) = record { means = λ p t e k. means_within R b p t e k }
    stops h i (Phrase.leaf l) = l.exact.stops
    stops h i (Phrase.many more l some item good start) =
        stops_each R more (Then l.reads (λ k. reads inner (item k))) (λ q u. l.over q u ⊎ Later l.reads (λ k. over inner passes (item k)) q u) (λ q u. and_then (l.parse q u) (λ k. parse parser (item k))) good
        (stops_then R l.reads (λ k. reads inner (item k)) l.parse (λ k. parse parser (item k)) l.over (λ k. over inner passes (item k)) l.exact.stops l.exact.sound (λ k. stops h i (item k)))
        (sound_then R l.reads (λ k. reads inner (item k)) l.parse (λ k. parse parser (item k)) l.exact.sound (λ k. sound i (item k))) start
    stops h i Phrase.hole = h

    pub exact : Exact R inner passes parser → {A : Type 0} (g : Phrase R H A) → Exact R (reads inner g) (over inner passes g) (parse parser g)
    exact h g = record { sound = sound h.sound g; calm = calm h.calm h.complete g; complete = complete h.complete g; stops = stops h.stops h.sound g }
