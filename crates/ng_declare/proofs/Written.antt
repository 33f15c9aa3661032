-- The selector of a text literal, as its reader finds it.
use Rattle.std.proofs.Common.{◌≡◌, refl, ap, sym, subst}
use Rattle.std.specs.Prelude.{Option, Some, None, Ok, Err}
use Rattle.ng_ast.specs.declared.Place.{Place}
use Rattle.ng_ast.specs.declared.Selector.{Selector}
use Rattle.ng_ast.specs.declared.refusals.ReadError.{ReadError}
use Rattle.ng_ast.specs.declared.refusals.ReadError.TheVariants as r
use Rattle.ng_tokens.specs.Lexis.{Text}
use Rattle.ng_selectors.specs.Grammar.{ReadsSelector}
use Rattle.ng_selectors.specs.Parse.{selector_of}
use Rattle.ng_selectors.specs.Reading.{Refuses, IsUnlimited}
use Rattle.ng_selectors.proofs.Complete.{complete}
use Rattle.ng_selectors.proofs.Sound.{sound}
use Rattle.ng_phrases.specs.Parser.{Stop}
use Rattle.ng_phrases.specs.Parse.{parse}
use Rattle.ng_declare.specs.declared.halt.Halt.{Halt}
use Rattle.ng_declare.specs.declared.halt.Halt.TheVariants as h
use Rattle.ng_declare.specs.Selectors.{written_by, parse_written}
use Rattle.ng_declare.specs.Readers.{Question}
use Rattle.ng_declare.specs.Leaves.{selector_here}
use Rattle.ng_declare.specs.Gives.{read, Fails, Unwritten}

pub written_found : (t : Text) (p : Place) (z : Text) (a : Selector) → ReadsSelector t a → read (selector_here t) p z ≡ Ok (a, p, z)
unfolding parse selector_here parse_written
written_found t p z a h = ap (λ o. written_by {Q = Question} o p z) (complete t a h)

written_none : (t : Text) (p : Place) (z : Text) → ((s : Selector) → ReadsSelector t s → ⊥) → read (selector_here t) p z ≡ Err Stop.Syntax
unfolding parse selector_here parse_written
written_none t p z h = by (selector_of t) refl
  where
    by : (o : Option Selector) → selector_of t ≡ o → written_by {Q = Question} (selector_of t) p z ≡ Err Stop.Syntax
    by None e = ap (λ o. written_by {Q = Question} o p z) e
    by (Some s) e = absurd (h s (sound t s e))

pub written_refused : (t : Text) (base p : Place) (z : Text) (e : ReadError) (halt : Halt) → Refuses t base e → IsUnlimited e → Unwritten e halt → Fails (read (selector_here t) p z) halt p z
written_refused t base p z r.Memory halt i j k = subst (λ (x : Halt). Fails (read (selector_here t) p z) x p z) (sym k) tt
written_refused t base p z r.Utf8 halt i j k = absurd j
written_refused t base p z (r.Limit f) halt i j k = absurd j
written_refused t base p z (r.Syntax f) (h.Syntax q) i j k = written_none t p z i.3
written_refused t base p z (r.Syntax f) (h.Limit q) i j k = absurd k
written_refused t base p z (r.Syntax f) h.Memory i j k = tt
written_refused t base p z (r.Syntax f) (h.Refused what error) i j k = absurd k
