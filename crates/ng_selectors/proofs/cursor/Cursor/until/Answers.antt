use Rattle.std.proofs.Common.{ap, sym, ◌∙◌}
use Rattle.std.specs.Prelude.{Some, None}
use Rattle.std.proofs.lemmas.Str.Pattern.{split_parts}
use Rattle.ng_selectors.specs.Parse.{until}
use Rattle.ng_selectors.proofs.Words.{until_front, until_none, all_other}
use Rattle.ng_selectors.proofs.cursor.Cursor.until.Goals as goal

pub returns-in_default : goal.returns-in_default
returns-in_default c = let t = c.args.self.now.rest.now in until_none c.args.quote t (split_parts c.args.quote t None c.in_default.ensures.cases c.requires)

pub returns : goal.returns
returns c =
    let t = c.args.self.now.rest.now in
    let h = split_parts c.args.quote t (Some (c.in-Some.text, c.in-Some.rest)) c.in-Some.ensures.cases c.requires in
    ap (until c.args.quote) h.0 ∙ until_front c.args.quote _ _ (all_other c.args.quote _ h.1) ∙ ap (λ v. Some (v, c.in-Some.rest.now)) (sym c.in_ok-new.ensures)
