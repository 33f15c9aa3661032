-- One phrase after another, and its parser.
use Rattle.std.proofs.Common.{◌≡◌, ◌++◌, refl, sym, ◌∙◌, ap, subst, append_assoc, inl, inr}
use Rattle.std.specs.Prelude.{Ok, ◌⊎◌}
use Rattle.ng_ast.specs.declared.Place.{Place}
use Rattle.ng_tokens.specs.Lexis.{Text, steps}
use Rattle.ng_phrases.specs.Parser.{Readers, Outcome, Parser, and_then, Took, Sound, Calm, Gets, Complete, Stops}
use Rattle.ng_phrases.specs.Reading.{Then, Later}
use Rattle.ng_phrases.specs.ParserLaws.{steps-append, then_ok, then_err, gets_then, means_map}

joined : {A B : Type 0} (r : Place → Text → Text → A → Type 0) (s : A → Place → Text → Text → B → Type 0) (p : Place) (t : Text) (a : A) (m : Place) (u : Text) (b : B) (q : Place) (z : Text)
    → Took r p t a m u → Took (s a) m u b q z → Took (Then r s) p t b q z
joined r s p t a m u b q z h i = record {
  text = h.text ++ i.text;
  parts = h.parts ∙ ap (λ (w : Text). h.text ++ w) i.parts ∙ sym (append_assoc h.text i.text z);
  place = i.place ∙ ap (λ n. steps n i.text) h.place ∙ sym (steps-append p h.text i.text);
  reads = record {
    front = h.text;
    back = i.text;
    value = a;
    parts = refl;
    begins_so = subst (λ (w : Text). r p h.text w a) i.parts h.reads;
    goes_on = subst (λ n. s a n i.text z b) h.place i.reads;
  };
}

-- what is read at a front, where the parser took something, is what was taken
pub took_that : (R : Readers) {A : Type 0} (r : Place → Text → Text → A → Type 0) (f : Parser R.Question A) → Complete R r f → (p : Place) (t x z : Text) (a : A) (u : A × Place × Text) → t ≡ x ++ z → r p x z a
    → f p t ≡ Ok u → u ≡ (a, steps p x, z)
took_that R r f c p t x z a u parts h e = let P : _ → Type 0 = λ (o : Outcome _ _). Gets R (a, steps p x, z) o in subst P (ap (f p) (sym parts) ∙ e) (c.gets p x z a h)

module _ (R : Readers) {A B : Type 0} (r : Place → Text → Text → A → Type 0) (s : A → Place → Text → Text → B → Type 0) (f : Parser R.Question A) (h : A → Parser R.Question B) where
  pub sound_then : Sound r f → ((a : A) → Sound (s a) (h a)) → Sound (Then r s) (λ p t. and_then (f p t) h)
  sound_then one two = record {
    takes = λ p t b q z e.
        let c = then_ok (f p t) h (b, q, z) e in
        joined r s p t c.0.0 c.0.1 c.0.2 b q z (one.takes p t c.0.0 c.0.1 c.0.2 c.1) ((two c.0.0).takes c.0.1 c.0.2 b q z c.2);
  }

  pub complete_then : Complete R r f → ((a : A) → Complete R (s a) (h a)) → Complete R (Then r s) (λ p t. and_then (f p t) h)
  complete_then one two = record {
    gets = λ p x z b i.
        let g = gets_then R (f p (i.front ++ (i.back ++ z))) h (i.value, steps p i.front, i.back ++ z) (b, steps (steps p i.front) i.back, z)
        (one.gets p i.front (i.back ++ z) i.value i.begins_so) ((two i.value).gets (steps p i.front) i.back z b i.goes_on) in
        let parts : i.front ++ (i.back ++ z) ≡ x ++ z = sym (append_assoc i.front i.back z) ∙ ap (λ (w : Text). w ++ z) (sym i.parts) in
        let end : steps (steps p i.front) i.back ≡ steps p x = sym (steps-append p i.front i.back) ∙ ap (steps p) (sym i.parts) in
        subst (λ (w : Text). Gets R (b, steps p x, z) (and_then (f p w) h)) parts (subst (λ (n : Place). Gets R (b, n, z) (and_then (f p (i.front ++ (i.back ++ z))) h)) end g);
  }

  module _ (o : Place → Text → Type 0) (v : A → Place → Text → Type 0) where
    pub calm_then : Calm o f → Complete R r f → ((a : A) → Calm (v a) (h a)) → Calm (λ p t. o p t ⊎ Later r v p t) (λ p t. and_then (f p t) h)
    calm_then one whole two = record {
      within = λ p t b q z e k.
          let c = then_ok (f p t) h (b, q, z) e in
          elim k [
            | inl l ↦ one.within p t c.0.0 c.0.1 c.0.2 c.1 l
            | inr m ↦
                let same : c.0 ≡ (m.value, steps p m.front, m.back) = took_that R r f whole p t m.front m.back m.value c.0 m.parts m.begins_so c.1 in
                (two m.value).within (steps p m.front) m.back b q z (subst (λ (y : A × Place × Text). h y.0 y.1 y.2 ≡ Ok (b, q, z)) same c.2) m.passes
          ];
    }

    pub stops_then : Stops R o f → Sound r f → ((a : A) → Stops R (v a) (h a)) → Stops R (λ p t. o p t ⊎ Later r v p t) (λ p t. and_then (f p t) h)
    stops_then one found two = record {
      means = λ p t e k.
          elim (then_err (f p t) h e k) [
            | inl l ↦ means_map R (o p t) _ e inl (one.means p t e l)
            | inr m ↦
                let w = found.takes p t m.0.0 m.0.1 m.0.2 m.1 in
                means_map R (v m.0.0 m.0.1 m.0.2) _ e
                (λ i. inr (record { front = w.text; back = m.0.2; value = m.0.0; parts = w.parts; begins_so = w.reads; passes = subst (λ n. v m.0.0 n m.0.2) w.place i }))
                ((two m.0.0).means m.0.1 m.0.2 e m.2)
          ];
    }
