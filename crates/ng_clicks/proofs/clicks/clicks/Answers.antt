use Rattle.std.proofs.Common.{◌≡◌, ◌∙◌, sym, ap, subst, IfOk, Some, Option, List, arith}
use Rattle.serde_json.specs.View.{view, items_view}
use Rattle.ng_semantics.specs.Text.{Text}
use Rattle.ng_clicks.specs.Clicks.{click_tags}
use Rattle.ng_clicks.proofs.ClickLoop.{clicks_are, too_many}
use Rattle.ng_clicks.proofs.clicks.clicks.Goals as goal

pub returns-then-len-gt-MAX_EVENTS-clause-not_built : goal.returns-then-len-gt-MAX_EVENTS-clause-not_built
returns-then-len-gt-MAX_EVENTS-clause-not_built c = λ _. too_many (view c.args.events.now) c.in-Some.list.now.items c.in-Some.ensures (omega arith)

pub returns-clause-ok : goal.returns-clause-ok
returns-clause-ok c = subst (λ (o : Option (List Text)). IfOk c.tags_of.result (λ tags. o ≡ Some tags.items))
    (ap (λ vs. click_tags (items_view vs)) c.deref.ensures.value ∙ sym (clicks_are (view c.args.events.now) c.in-Some.list.now.items c.in-Some.ensures (omega arith))) c.tags_of.ensures.ok
