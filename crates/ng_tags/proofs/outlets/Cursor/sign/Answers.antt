use Rattle.std.proofs.Common.{sym, ◌∙◌, ap}
use Rattle.ng_exprs.specs.Parse.{sign_of}
use Rattle.ng_tags.proofs.OutletForms.{sign_found, sign_past, no_sign}
use Rattle.ng_tags.proofs.outlets.Cursor.sign.Goals as goal

pub returns-in-Sign : goal.returns-in-Sign
returns-in-Sign c = sym (sign_found c.args.self.tokens.now c.args.at c.in-Some.token.now c.in-Some.ensures.lookup.3.0 c.in-Some.ensures.lookup.1 ∙ ap sign_of c.in-Sign.is)

pub returns-in_default : goal.returns-in_default
returns-in_default c = sym (sign_found c.args.self.tokens.now c.args.at c.in-Some.token.now c.in-Some.ensures.lookup.3.0 c.in-Some.ensures.lookup.1 ∙ no_sign c.in-Some.token.now.kind c.in_default.not-Sign)

pub returns-in-None : goal.returns-in-None
returns-in-None c = sym (sign_past c.args.self.tokens.now c.args.at c.in-None.ensures.lookup.3)
