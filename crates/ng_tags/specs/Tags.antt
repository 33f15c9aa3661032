-- How the attributes of a tag begin.
use Rattle.std.specs.Prelude.{◌≡◌, ℕ, Bool, true, ◌⊎◌, List, ◌∷◌, ◌++◌, ◌||◌, ◌==◌, Some}
use Rattle.ng_ast.specs.declared.Place.{Place}
use Rattle.ng_ast.specs.declared.TAttr.{TAttr}
use Rattle.ng_ast.specs.declared.AttrForm.{AttrForm}
use Rattle.ng_tokens.specs.Lexis.{Text, is_blank, steps}
use Rattle.ng_lex.specs.declared.attributes.NameForm.{NameForm}
use Rattle.ng_lex.specs.Letters.{Letters, Decodes}
use Rattle.ng_lex.specs.Words.{IsBlank, at_front}
use Rattle.ng_lex.specs.Names.{IsAttribute, form_of}
use Rattle.ng_lex.specs.Values.{Says, without_value, OverValue}
use Rattle.ng_lex.specs.Attributes.{Marked, attribute, ReadsAttrs, OverAttrs}
use Rattle.ng_attributes.specs.Answers.{Goes}

-- ---- one attribute

-- white space, `>` or `/`, which may come after an attribute
abbrev pub ends_attribute : ℕ → Bool
ends_attribute b = is_blank b || b == 62 || b == 47

-- no `=` stands there, with white space before it or without
abbrev pub NoEquals : Text → Type 0
NoEquals r = (w z : Text) → IsBlank w → r ≡ w ++ (61 ∷ z) → ⊥

-- The text begins with a name of this form, `=` and a value, which says these letters, of which the first stands at the second place. The second text is left, and its first byte stands at the third place.
pub record ValuedAt (p : Place) (t : Text) (f : NameForm) (s : Place) (ls : Letters) (q : Place) (r : Text) : Type 0 where
  pub n : Text
  pub w : Text
  pub v : Text
  pub m : Text
  pub x : Text
  pub name : IsAttribute n
  pub form : form_of n ≡ Some f
  pub before : IsBlank w
  pub behind : IsBlank v
  pub marked : Marked m x r
  pub is : t ≡ n ++ (w ++ (61 ∷ (v ++ (m ++ (x ++ (m ++ r))))))
  pub inside : s ≡ steps p (n ++ (w ++ (61 ∷ (v ++ m))))
  pub at : q ≡ steps p (n ++ (w ++ (61 ∷ (v ++ (m ++ (x ++ m))))))
  pub decodes : Decodes s x ls

-- The text begins with this attribute, which is a name alone. The second text is left, and its first byte stands at the second place.
pub record AloneAt (p : Place) (t : Text) (one : TAttr) (q : Place) (r : Text) : Type 0 where
  pub n : Text
  pub f : NameForm
  pub says : AttrForm
  pub name : IsAttribute n
  pub form : form_of n ≡ Some f
  pub without : without_value f ≡ Some says
  pub is : t ≡ n ++ r
  pub at : q ≡ steps p n
  pub all : one ≡ attribute p f says
  pub unvalued : NoEquals r
  pub ends : at_front ends_attribute r ≡ true

-- the same of an attribute with a value
pub record SaysAt (p : Place) (t : Text) (one : TAttr) (q : Place) (r : Text) : Type 0 where
  pub f : NameForm
  pub s : Place
  pub ls : Letters
  pub form : AttrForm
  pub valued : ValuedAt p t f s ls q r
  pub says : Says f s ls form
  pub all : one ≡ attribute p f form
  pub ends : at_front ends_attribute r ≡ true

abbrev pub AttributeAt : Place → Text → TAttr → Place → Text → Type 0
AttributeAt p t one q r = AloneAt p t one q r ⊎ SaysAt p t one q r

-- The text begins with a name, `=` and a value that is begun, and passes a limit.
pub record OverAttributeAt (p : Place) (t : Text) : Type 0 where
  pub f : NameForm
  pub s : Place
  pub ls : Letters
  pub q : Place
  pub r : Text
  pub valued : ValuedAt p t f s ls q r
  pub over : OverValue f s ls

-- ---- all attributes

-- The text begins with these attributes and the end of a tag; what is left is given, and whether the tag closes itself.
abbrev pub ReadsTag : Bool × Text → Place × Text → List TAttr → Type 0
ReadsTag i at attrs = (x : Text) × (at.1 ≡ x ++ i.1) × ReadsAttrs i.0 at.0 x attrs

abbrev pub OverTag : Place × Text → Type 0
OverTag at = OverAttrs at.0 at.1

-- these attributes stand before what is left
abbrev pub GoesTag : Place → Text → List TAttr → Place → Text → Type 0
GoesTag p t attrs q r = Goes ReadsTag OverTag (p, t) attrs (q, r)
