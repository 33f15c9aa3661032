use Rattle.std.proofs.Common.{rules, ◌≤◌, length, sym, ◌∙◌, subst}
use Rattle.ng_attributes.specs.Places.{Fits}
use Rattle.ng_attributes.proofs.Lengths.{fits_near}
use Rattle.ng_tags.proofs.Saying.{form_ok, form_err, property, attribute_form, class_form, style_form, style_ok, event_form, outlet_form, context_form, plain_says, both_says, reference_says, variable_says}
use Rattle.ng_tags.proofs.values.says.Goals as goal

pub plain-requires : goal.plain-requires
plain-requires c = c.requires.decoded

pub returns-in-Plain : goal.returns-in-Plain
returns-in-Plain c = plain_says _ _ _ _ c.in-Plain.is _ c.plain.ensures

pub expression-requires-clause-size : goal.expression-requires-clause-size
expression-requires-clause-size c = subst (λ t. length t ≤ 1048576) (sym c.as_str.ensures.value) c.requires.fits.size

pub expression-requires-clause-near : goal.expression-requires-clause-near
expression-requires-clause-near c = fits_near _ _ c.requires.fits

pub returns-in-Ok : goal.returns-in-Ok
returns-in-Ok c = form_ok _ _ c.in-Property.is _ _ _ (c.as_str.ensures.value ∙ c.requires.decoded.says) _ _ _ _ (property _ _ _) c.in-Ok.found c.in-Ok.ensures.0 c.in-Ok.ensures.1

pub returns-in-Property : goal.returns-in-Property
returns-in-Property c = form_err _ _ c.in-Property.is _ _ _ (c.as_str.ensures.value ∙ c.requires.decoded.says) _ _ _ _ (property _ _ _) c.in-Err.stop c.in-Err.ensures

pub expression-requires-in-Attribute-clause-size : goal.expression-requires-in-Attribute-clause-size
expression-requires-in-Attribute-clause-size c = subst (λ t. length t ≤ 1048576) (sym c.as_str-in-Attribute.ensures.value) c.requires.fits.size

pub expression-requires-in-Attribute-clause-near : goal.expression-requires-in-Attribute-clause-near
expression-requires-in-Attribute-clause-near c = fits_near _ _ c.requires.fits

pub returns-in-Ok-expression : goal.returns-in-Ok-expression
returns-in-Ok-expression c = form_ok _ _ c.in-Attribute.is _ _ _ (c.as_str-in-Attribute.ensures.value ∙ c.requires.decoded.says) _ _ _ _ (attribute_form _ _ _) c.in-Ok-expression.found c.in-Ok-expression.ensures.0 c.in-Ok-expression.ensures.1

pub returns-in-Attribute : goal.returns-in-Attribute
returns-in-Attribute c = form_err _ _ c.in-Attribute.is _ _ _ (c.as_str-in-Attribute.ensures.value ∙ c.requires.decoded.says) _ _ _ _ (attribute_form _ _ _) c.in-Err-expression.stop c.in-Err-expression.ensures

pub expression-requires-in-Class-clause-size : goal.expression-requires-in-Class-clause-size
expression-requires-in-Class-clause-size c = subst (λ t. length t ≤ 1048576) (sym c.as_str-in-Class.ensures.value) c.requires.fits.size

pub expression-requires-in-Class-clause-near : goal.expression-requires-in-Class-clause-near
expression-requires-in-Class-clause-near c = fits_near _ _ c.requires.fits

pub returns-in-Ok-expression-2 : goal.returns-in-Ok-expression-2
returns-in-Ok-expression-2 c = form_ok _ _ c.in-Class.is _ _ _ (c.as_str-in-Class.ensures.value ∙ c.requires.decoded.says) _ _ _ _ (class_form _ _ _) c.in-Ok-expression-2.found c.in-Ok-expression-2.ensures.0 c.in-Ok-expression-2.ensures.1

pub returns-in-Class : goal.returns-in-Class
returns-in-Class c = form_err _ _ c.in-Class.is _ _ _ (c.as_str-in-Class.ensures.value ∙ c.requires.decoded.says) _ _ _ _ (class_form _ _ _) c.in-Err-expression-2.stop c.in-Err-expression-2.ensures

pub returns-in_err-unit-in-Style : goal.returns-in_err-unit-in-Style
returns-in_err-unit-in-Style c = search rules

pub expression-requires-in-Style-clause-size : goal.expression-requires-in-Style-clause-size
expression-requires-in-Style-clause-size c = subst (λ t. length t ≤ 1048576) (sym c.as_str-in-Style.ensures.value) c.requires.fits.size

pub expression-requires-in-Style-clause-near : goal.expression-requires-in-Style-clause-near
expression-requires-in-Style-clause-near c = fits_near _ _ c.requires.fits

pub returns-in-Ok-expression-3 : goal.returns-in-Ok-expression-3
returns-in-Ok-expression-3 c = style_ok _ _ _ _ c.in-Style.is c.in_ok-unit-in-Style.ensures _ _ _ (c.as_str-in-Style.ensures.value ∙ c.requires.decoded.says) c.in-Ok-expression-3.found c.in-Ok-expression-3.ensures.0 c.in-Ok-expression-3.ensures.1

pub returns-in-Style : goal.returns-in-Style
returns-in-Style c = form_err _ _ c.in-Style.is _ _ _ (c.as_str-in-Style.ensures.value ∙ c.requires.decoded.says) _ _ _ _ (style_form _ _ _ _) c.in-Err-expression-3.stop c.in-Err-expression-3.ensures

pub listener-requires-clause-size : goal.listener-requires-clause-size
listener-requires-clause-size c = subst (λ t. length t ≤ 1048576) (sym c.as_str-in-Event.ensures.value) c.requires.fits.size

pub listener-requires-clause-near : goal.listener-requires-clause-near
listener-requires-clause-near c = fits_near _ _ c.requires.fits

pub returns-in-Ok-listener : goal.returns-in-Ok-listener
returns-in-Ok-listener c = form_ok _ _ c.in-Event.is _ _ _ (c.as_str-in-Event.ensures.value ∙ c.requires.decoded.says) _ _ _ _ (event_form _ _ _) c.in-Ok-listener.found c.in-Ok-listener.ensures.0 c.in-Ok-listener.ensures.1

pub returns-in-Event : goal.returns-in-Event
returns-in-Event c = form_err _ _ c.in-Event.is _ _ _ (c.as_str-in-Event.ensures.value ∙ c.requires.decoded.says) _ _ _ _ (event_form _ _ _) c.in-Err-listener.stop c.in-Err-listener.ensures

pub returns-in-Both : goal.returns-in-Both
returns-in-Both c = both_says _ _ _ _ c.in-Both.is _ (c.as_str-in-Both.ensures.value ∙ c.requires.decoded.says) _ c.both.ensures

pub returns-in-Reference : goal.returns-in-Reference
returns-in-Reference c = reference_says _ _ _ _ c.in-Reference.is

pub returns-in_err-member-in-Variable : goal.returns-in_err-member-in-Variable
returns-in_err-member-in-Variable c = search rules

pub returns-in-Variable : goal.returns-in-Variable
returns-in-Variable c = variable_says _ _ _ _ c.in-Variable.is _ (c.in_ok-member-in-Variable.ensures ∙ c.requires.decoded.says)

pub outlet-requires : goal.outlet-requires
outlet-requires c = subst (Fits c.args.place) (sym c.as_str-in-Outlet.ensures.value) c.requires.fits

pub returns-in-Ok-outlet : goal.returns-in-Ok-outlet
returns-in-Ok-outlet c = form_ok _ _ c.in-Outlet.is _ _ _ (c.as_str-in-Outlet.ensures.value ∙ c.requires.decoded.says) _ _ _ _ (outlet_form _ _) c.in-Ok-outlet.found c.in-Ok-outlet.ensures.0 c.in-Ok-outlet.ensures.1

pub returns-in-Outlet : goal.returns-in-Outlet
returns-in-Outlet c = form_err _ _ c.in-Outlet.is _ _ _ (c.as_str-in-Outlet.ensures.value ∙ c.requires.decoded.says) _ _ _ _ (outlet_form _ _) c.in-Err-outlet.stop c.in-Err-outlet.ensures

pub expression-requires-in-Context-clause-size : goal.expression-requires-in-Context-clause-size
expression-requires-in-Context-clause-size c = subst (λ t. length t ≤ 1048576) (sym c.as_str-in-Context.ensures.value) c.requires.fits.size

pub expression-requires-in-Context-clause-near : goal.expression-requires-in-Context-clause-near
expression-requires-in-Context-clause-near c = fits_near _ _ c.requires.fits

pub returns-in-Ok-expression-4 : goal.returns-in-Ok-expression-4
returns-in-Ok-expression-4 c = form_ok _ _ c.in-Context.is _ _ _ (c.as_str-in-Context.ensures.value ∙ c.requires.decoded.says) _ _ _ _ (context_form _ _) c.in-Ok-expression-4.found c.in-Ok-expression-4.ensures.0 c.in-Ok-expression-4.ensures.1

pub returns : goal.returns
returns c = form_err _ _ c.in-Context.is _ _ _ (c.as_str-in-Context.ensures.value ∙ c.requires.decoded.says) _ _ _ _ (context_form _ _) c.in-Err-expression-4.stop c.in-Err-expression-4.ensures
