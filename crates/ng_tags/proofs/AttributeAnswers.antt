-- One attribute, as the code makes it.
use Rattle.std.proofs.Common.{◌≡◌, sym, ◌∙◌, ap, subst}
use Rattle.std.specs.Prelude.{true, false, Some, None, Ok}
use Rattle.ng_ast.specs.declared.Place.{Place}
use Rattle.ng_ast.specs.declared.TAttr.{TAttr}
use Rattle.ng_ast.specs.declared.AttrForm.{AttrForm}
use Rattle.ng_tokens.specs.Lexis.{Text}
use Rattle.ng_lex.specs.declared.attributes.NameForm.{NameForm}
use Rattle.ng_lex.specs.Letters.{Letters, Decodes}
use Rattle.ng_lex.specs.Words.{at_front}
use Rattle.ng_lex.specs.Names.{word_of}
use Rattle.ng_lex.specs.Values.{Says, without_value, OverValue}
use Rattle.ng_lex.proofs.Decoding.{one_decoding}
use Rattle.ng_attributes.specs.declared.stop.Stop.{Stop}
use Rattle.ng_attributes.specs.Answers.{Answers, Halts}
use Rattle.ng_attributes.proofs.Texts.{not_both}
use Rattle.ng_attributes.proofs.Answering.{halts_as}
use Rattle.ng_tags.specs.Tags.{ends_attribute}
use Rattle.ng_tags.specs.Reads.{Lone, Said, OverSaid}

abbrev pub made : Place → Text → AttrForm → TAttr
made p n form = record { place = p; name = n; form = form }

made_as : (p : Place) (n k : Text) (form : AttrForm) → n ≡ k → made p n form ≡ made p k form
made_as p n k form e = ap (λ w. made p w form) e

-- ---- without a value

module _ (p : Place) (f : NameForm) (r : Text) where
  pub lone_followed : at_front ends_attribute r ≡ false → (one : TAttr) → Lone p f r one → ⊥
  lone_followed e one h = not_both (at_front ends_attribute r) h.ends e

  pub lone_valued : without_value f ≡ None → (one : TAttr) → Lone p f r one → ⊥
  lone_valued e one h = differ (sym h.without ∙ e)
    where
      differ : {A : Type 0} {a : A} → Some a ≡ None → ⊥
      differ d = cc

  pub lone_ok : (form : AttrForm) (n : Text) → without_value f ≡ Some form → n ≡ word_of f → at_front ends_attribute r ≡ true → Answers (Lone p f r) ⊥ (Ok (made p n form))
  lone_ok form n e d ends = (record { form = form; without = e; all = made_as p n (word_of f) form d; ends = ends }, λ x. x)

-- ---- with a value

module _ (p : Place) (f : NameForm) (s : Place) (x r : Text) where
  pub said_undecoded : ((ls : Letters) → Decodes s x ls → ⊥) → (one : TAttr) → Said p f s x r one → ⊥
  said_undecoded none one h = none h.ls h.decodes

  pub said_followed : at_front ends_attribute r ≡ false → (one : TAttr) → Said p f s x r one → ⊥
  said_followed e one h = not_both (at_front ends_attribute r) h.ends e

  module _ (ls : Letters) (decodes : Decodes s x ls) where
    pub saying_halts : (e : Stop) → Halts ((form : AttrForm) → Says f s ls form → ⊥) (OverValue f s ls) e → Halts ((one : TAttr) → Said p f s x r one → ⊥) (OverSaid f s x) e
    saying_halts e h =
        halts_as _ _ _ _ e (λ none one i. none i.form (subst (λ k. Says f s k i.form) (one_decoding s x i.ls ls i.decodes decodes) i.says)) (λ over. record { ls = ls; decodes = decodes; over = over }) h

    pub said_ok : (form : AttrForm) (n : Text) → Says f s ls form × (OverValue f s ls → ⊥) → n ≡ word_of f → at_front ends_attribute r ≡ true → Answers (Said p f s x r) (OverSaid f s x) (Ok (made p n form))
    said_ok form n h d ends = (
      record { ls = ls; form = form; decodes = decodes; says = h.0; all = made_as p n (word_of f) form d; ends = ends },
      λ over. h.1 (subst (OverValue f s) (one_decoding s x over.ls ls over.decodes decodes) over.over),
    )
