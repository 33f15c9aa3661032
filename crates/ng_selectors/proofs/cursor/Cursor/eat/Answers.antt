use Rattle.std.proofs.Common.{◌++◌, refl, sym, ◌∙◌, ap}
use Rattle.ng_selectors.proofs.Words.{strip_some, strip_none}
use Rattle.ng_selectors.proofs.cursor.Cursor.eat.Goals as goal

pub returns-in-Some : goal.returns-in-Some
returns-in-Some c = let h = c.in-Some.ensures.cases in strip_some _ _ _ (h.1.1 ∙ ap (λ z. c.args.sign.now ++ z) (sym h.2))

pub returns-in-None : goal.returns-in-None
returns-in-None c = (strip_none c.args.sign.now c.args.self.now.rest.now c.in-None.ensures.cases, refl)
