-- What the readers of attributes give.
use Rattle.std.specs.Prelude.{◌≡◌, Bool, true, false, ◌<◌, List, [], ◌++◌, length, Some, Result, Ok, Err}
use Rattle.ng_ast.specs.declared.Place.{Place}
use Rattle.ng_ast.specs.declared.TAttr.{TAttr}
use Rattle.ng_ast.specs.declared.AttrForm.{AttrForm}
use Rattle.ng_tokens.specs.Lexis.{Text, is_blank, begins, steps}
use Rattle.ng_lex.specs.declared.attributes.NameForm.{NameForm}
use Rattle.ng_lex.specs.Letters.{Letters, Decodes}
use Rattle.ng_lex.specs.Words.{IsBlank, IsGap, at_front}
use Rattle.ng_lex.specs.Names.{in_attribute, form_of}
use Rattle.ng_lex.specs.Values.{Says, without_value, OverValue}
use Rattle.ng_lex.specs.Attributes.{attribute, ending, OverAttrs}
use Rattle.ng_attributes.specs.declared.at.At.{At}
use Rattle.ng_attributes.specs.declared.stop.Stop.{Stop}
use Rattle.ng_tags.specs.declared.attributes.Next.{Next}
use Rattle.ng_tags.specs.declared.attributes.Next.TheVariants as n
use Rattle.ng_tags.specs.declared.attributes.Attributes.{Attributes}
use Rattle.ng_attributes.specs.Answers.{Halts}
use Rattle.ng_attributes.specs.Places.{Fits}
use Rattle.ng_attributes.specs.Runs.{Run}
use Rattle.ng_tags.specs.Tags.{ends_attribute, AttributeAt, OverAttributeAt, ReadsTag}

-- an attribute without a value, which stands before the text
pub record Lone (p : Place) (f : NameForm) (r : Text) (one : TAttr) : Type 0 where
  pub form : AttrForm
  pub without : without_value f ≡ Some form
  pub all : one ≡ attribute p f form
  pub ends : at_front ends_attribute r ≡ true

-- an attribute with the value that is written so at the second place, before the last text
pub record Said (p : Place) (f : NameForm) (s : Place) (x r : Text) (one : TAttr) : Type 0 where
  pub ls : Letters
  pub form : AttrForm
  pub decodes : Decodes s x ls
  pub says : Says f s ls form
  pub all : one ≡ attribute p f form
  pub ends : at_front ends_attribute r ≡ true

pub record OverSaid (f : NameForm) (s : Place) (x : Text) : Type 0 where
  pub ls : Letters
  pub decodes : Decodes s x ls
  pub over : OverValue f s ls

-- the attribute at the front, and what comes after it
pub record Found (at : At) (one : TAttr) (rest : At) : Type 0 where
  pub reads : AttributeAt at.place at.text.now one rest.place rest.text.now
  pub calm : OverAttributeAt at.place at.text.now → ⊥
  pub fits : Fits rest.place rest.text.now
  pub shorter : length rest.text.now < length at.text.now

abbrev pub AnswersAttribute : At → Result (TAttr × At) Stop → Type 0
AnswersAttribute at (Ok v) = Found at v.0 v.1
AnswersAttribute at (Err e) = Halts ((one : TAttr) (q : Place) (r : Text) → AttributeAt at.place at.text.now one q r → ⊥) (OverAttributeAt at.place at.text.now) e

-- the same where a name of this form stands before the text
abbrev pub AnswersBehind : Place → NameForm → At → Result (TAttr × At) Stop → Type 0
AnswersBehind p f rest r = (at : At) (n : Text) → p ≡ at.place → Run in_attribute at.text.now n rest.text.now → rest.place ≡ steps at.place n → (n ≡ [] → ⊥) → form_of n ≡ Some f → AnswersAttribute at r

-- what comes next in a tag
pub record Ends (at : At) (closed : Bool) (rest : At) : Type 0 where
  pub w : Text
  pub blank : IsBlank w
  pub is : at.text.now ≡ w ++ (ending closed ++ rest.text.now)

pub record Begins (at : At) (one : At) : Type 0 where
  pub w : Text
  pub gap : IsGap w
  pub run : Run is_blank at.text.now w one.text.now
  pub place : one.place ≡ steps at.place w
  pub more : begins (ending false) one.text.now ≡ false
  pub shut : begins (ending true) one.text.now ≡ false
  pub fits : Fits one.place one.text.now

abbrev pub NoTag : At → Type 0
NoTag at = (i : Bool × Text) (attrs : List TAttr) → ReadsTag i (at.place, at.text.now) attrs → ⊥

abbrev pub IsNext : At → Next → Type 0
IsNext at (n.End closed rest) = Ends at closed rest
IsNext at (n.Attribute one) = Begins at one
IsNext at (n.Nothing p) = NoTag at

abbrev pub AnswersAttributes : At → Result Attributes Stop → Type 0
AnswersAttributes at (Ok v) = ReadsTag (v.closed, v.rest.text.now) (at.place, at.text.now) v.found × (OverAttrs at.place at.text.now → ⊥)
AnswersAttributes at (Err e) = Halts (NoTag at) (OverAttrs at.place at.text.now) e
