-- What a value says, by the form of its name.
use Rattle.std.proofs.Common.{◌≡◌, List, refl, sym, ap, subst}
use Rattle.std.specs.Prelude.{true, false, Option, Some, Result, Ok, Err}
use Rattle.ng_ast.specs.declared.Expr.{Expr}
use Rattle.ng_ast.specs.declared.Stmt.{Stmt}
use Rattle.ng_ast.specs.declared.OutletForm.{OutletForm}
use Rattle.ng_ast.specs.declared.AttrForm.TheVariants as a
use Rattle.ng_exprs.specs.Reading.{ReadsExpr, OverText}
use Rattle.ng_exprs.specs.Listening.{ReadsLines, OverLines, NoLines}
use Rattle.ng_lex.specs.declared.attributes.NameForm.TheVariants as f
use Rattle.ng_ast.specs.declared.Place.{Place}
use Rattle.ng_ast.specs.declared.AttrForm.{AttrForm}
use Rattle.ng_tokens.specs.Lexis.{Text}
use Rattle.ng_lex.specs.declared.attributes.NameForm.{NameForm}
use Rattle.ng_lex.specs.Letters.{Letters, bytes}
use Rattle.ng_lex.specs.Words.{IsOneName}
use Rattle.ng_lex.specs.Values.{IsPlain, OverPieces, IsOutlet, OverOutlet, Says, OverValue}
use Rattle.ng_attributes.specs.declared.stop.Stop.{Stop}
use Rattle.ng_attributes.specs.Answers.{Halts, Answers}
use Rattle.ng_attributes.proofs.Answering.{halts_as}

-- The form of a name, and how its values are read: as something that its text is.
pub record Form (form : NameForm) (p : Place) (ls : Letters) (A : Type 0) (reads : Text → A → Type 0) (over : Text → Type 0) (make : A → AttrForm) : Type 0 where
  pub says : (a : A) → reads (bytes ls) a → Says form p ls (make a)
  pub said : (x : AttrForm) → Says form p ls x → (a : A) × reads (bytes ls) a
  pub heavy : over (bytes ls) → OverValue form p ls
  pub calm : OverValue form p ls → over (bytes ls)

module _ (form other : NameForm) (is : form ≡ other) (p : Place) (ls : Letters) (t : Text) (text : t ≡ bytes ls) (A : Type 0) (reads : Text → A → Type 0) (over : Text → Type 0) (make : A → AttrForm) (g : Form other p ls A reads over make) where
  pub form_ok : (a : A) → reads t a → (over t → ⊥) → Answers (Says form p ls) (OverValue form p ls) (Ok (make a))
  form_ok a h none = subst (λ k. Answers (Says k p ls) (OverValue k p ls) (Ok (make a))) (sym is) (g.says a (subst (λ k. reads k a) text h), λ o. none (subst over (sym text) (g.calm o)))

  pub form_err : (e : Stop) → Halts ((a : A) → reads t a → ⊥) (over t) e → Answers (Says form p ls) (OverValue form p ls) (Err e)
  form_err e h =
      subst (λ k. Answers (Says k p ls) (OverValue k p ls) (Err e)) (sym is)
      (halts_as _ _ _ _ e (λ none x i. let h2 = g.said x i in none h2.0 (subst (λ k. reads k h2.0) (sym text) h2.1)) (λ o. g.heavy (subst over text o)) h)

-- ---- the forms

module _ (n : Text) (p : Place) (ls : Letters) where
  pub property : Form (f.Property n) p ls Expr (λ t e. ReadsExpr false p t e) (OverText false p) a.Property
  property = record { says = λ e h. (e, h, refl); said = λ x s. (s.0, s.1); heavy = λ o. o; calm = λ o. o }

  pub attribute_form : Form (f.Attribute n) p ls Expr (λ t e. ReadsExpr false p t e) (OverText false p) a.Attribute
  attribute_form = record { says = λ e h. (e, h, refl); said = λ x s. (s.0, s.1); heavy = λ o. o; calm = λ o. o }

  pub class_form : Form (f.Class n) p ls Expr (λ t e. ReadsExpr false p t e) (OverText false p) a.Class
  class_form = record { says = λ e h. (e, h, refl); said = λ x s. (s.0, s.1); heavy = λ o. o; calm = λ o. o }

  pub style_form : (u : Option Text) → Form (f.Style n u) p ls Expr (λ t e. ReadsExpr false p t e) (OverText false p) (a.Style u)
  style_form u = record { says = λ e h. (e, h, refl); said = λ x s. (s.0, s.1); heavy = λ o. o; calm = λ o. o }

  pub event_form : Form (f.Event n) p ls (List Stmt) (λ t bs. ReadsLines false p t bs) (λ t. OverLines p t × NoLines true p t) a.Listener
  event_form = record { says = λ bs h. (bs, h, refl); said = λ x s. (s.0, s.1); heavy = λ o. o; calm = λ o. o }

pub context_form : (p : Place) (ls : Letters) → Form f.Context p ls Expr (λ t e. ReadsExpr false p t e) (OverText false p) a.Context
context_form p ls = record { says = λ e h. (e, h, refl); said = λ x s. (s.0, s.1); heavy = λ o. o; calm = λ o. o }

pub outlet_form : (p : Place) (ls : Letters) → Form f.Outlet p ls OutletForm (λ t o. IsOutlet p t o) (OverOutlet p) a.Outlet
outlet_form p ls = record { says = λ o h. (o, h, refl); said = λ x s. (s.0, s.1); heavy = λ o. o; calm = λ o. o }

-- a style, with the unit of its name
module _ (form : NameForm) (n : Text) (u k : Option Text) (is : form ≡ f.Style n u) (same : k ≡ u) (p : Place) (ls : Letters) (t : Text) (text : t ≡ bytes ls) where
  pub style_ok : (e : Expr) → ReadsExpr false p t e → (OverText false p t → ⊥) → Answers (Says form p ls) (OverValue form p ls) (Ok (a.Style k e))
  style_ok e h none =
      subst (λ j. Answers (Says form p ls) (OverValue form p ls) (Ok (a.Style j e))) (sym same)
      (form_ok form (f.Style n u) is p ls t text Expr (λ v d. ReadsExpr false p v d) (OverText false p) (a.Style u) (style_form n p ls u) e h none)

-- ---- the other forms

module _ (form : NameForm) (n : Text) (p : Place) (ls : Letters) where
  pub plain_says : form ≡ f.Plain n → (r : Result AttrForm Stop) → Answers (IsPlain ls) (OverPieces ls) r → Answers (Says form p ls) (OverValue form p ls) r
  plain_says is r h = subst (λ k. Answers (Says k p ls) (OverValue k p ls) r) (sym is) h

  pub both_says : form ≡ f.Both n → (t : Text) → t ≡ bytes ls → (r : Result AttrForm Stop) → Answers (λ x. (y : Text) × IsOneName t y × (x ≡ a.Both y)) ⊥ r → Answers (Says form p ls) (OverValue form p ls) r
  both_says is t text r h =
      subst (λ k. Answers (Says k p ls) (OverValue k p ls) r) (sym is) (subst (λ k. Answers (λ x. (y : Text) × IsOneName k y × (x ≡ a.Both y)) ⊥ r) text h)

  pub reference_says : form ≡ f.Reference n → (x : AttrForm) → Says form p ls x → ⊥
  reference_says is x h = subst (λ k. Says k p ls x) is h

  pub variable_says : form ≡ f.Variable n → (member : Text) → member ≡ bytes ls → Answers (Says form p ls) (OverValue form p ls) (Ok (a.Variable (Some member)))
  variable_says is member e = subst (λ k. Answers (Says k p ls) (OverValue k p ls) (Ok (a.Variable (Some member)))) (sym is) (ap (λ k. a.Variable (Some k)) e, λ over. over)
