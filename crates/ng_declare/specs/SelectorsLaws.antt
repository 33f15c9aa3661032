-- The selector that a text literal writes: the function and the grammar are one.
use Rattle.std.proofs.Common.{◌≡◌, [], ◌++◌, refl, sym, ◌∙◌, subst}
use Rattle.std.specs.Prelude.{Option, Some, None, Ok, Err}
use Rattle.ng_ast.specs.declared.Place.{Place}
use Rattle.ng_ast.specs.declared.Selector.{Selector}
use Rattle.ng_tokens.specs.Lexis.{Text, steps}
use Rattle.ng_selectors.specs.Parse.{selector_of}
use Rattle.ng_selectors.proofs.Complete.{complete}
use Rattle.ng_selectors.proofs.Sound.{sound}
use Rattle.ng_phrases.specs.Parser.{Readers, Stop, Outcome, Took, Gets, Means, Exact, Agree}
use Rattle.ng_phrases.specs.ParserLaws.{same_done, err_no_ok, ok_no_err, same_stop}
use Rattle.ng_declare.specs.Selectors.{ReadsWritten, written_by, parse_written}

one_some : (a b : Selector) → Some a ≡ Some b → a ≡ b
one_some a b e = cc

takes_written : {Q : Type 0} (t : Text) (p : Place) (z : Text) (v : Selector × Place × Text) (o : Option Selector) → selector_of t ≡ o → ◌≡◌ {A = Outcome Q Selector} (written_by o p z) (Ok v) → Took (ReadsWritten t) p z v.0 v.1 v.2
takes_written t p z v None e h = absurd (err_no_ok Stop.Syntax v h)
takes_written t p z v (Some a) e h =
    subst (λ (y : Selector × Place × Text). Took (ReadsWritten t) p z y.0 y.1 y.2) (same_done _ v h)
    (record { text = []; parts = refl; place = refl; reads = (refl, sound t a e) })

gets_written : (R : Readers) (t : Text) (p : Place) (x z : Text) (a : Selector) → ReadsWritten t p x z a → Gets R (a, steps p x, z) (written_by (selector_of t) p (x ++ z))
gets_written R t p x z a h =
    subst (λ o. Gets R (a, steps p x, z) (written_by o p (x ++ z))) (sym (complete t a h.1))
    (subst (λ (w : Text). ◌≡◌ {A = Selector × Place × Text} (a, p, w ++ z) (a, steps p w, z)) (sym h.0) refl)

means_written : (R : Readers) (p : Place) (z : Text) (e : Stop R.Question) (o : Option Selector) → ◌≡◌ {A = Outcome R.Question Selector} (written_by o p z) (Err e) → Means R ⊥ e
means_written R p z e (Some a) h = absurd (ok_no_err e (a, p, z) h)
means_written R p z e None h = subst (Means R ⊥) (same_stop Stop.Syntax e h) tt

pub exact_written : (R : Readers) (t : Text) → Exact R (ReadsWritten t) (λ p z. ⊥) (parse_written t)
unfolding parse_written
exact_written R t = record {
  sound = record { takes = λ p z a q y e. takes_written t p z (a, q, y) (selector_of t) refl e };
  calm = record { within = λ p z a q y e h. h };
  complete = record { gets = λ p x z a h. gets_written R t p x z a h };
  stops = record { means = λ p z e h. means_written R p z e (selector_of t) h };
}

pub agree_written : (t : Text) → Agree (ReadsWritten t) (ReadsWritten t)
agree_written t = record { same = λ p x z y w a b h i e. (h.0 ∙ sym i.0, one_some a b (sym (complete t a h.1) ∙ complete t b i.1)) }
