use Rattle.std.proofs.Common.{◌∙◌, sym, ap}
use Rattle.serde_json.specs.View.{view}
use Rattle.ng_clicks.specs.Clicks.{is_click}
use Rattle.ng_clicks.proofs.ClickLoop.{tag_is, no_tag_by_len}
use Rattle.ng_clicks.proofs.clicks.tag_of.Goals as goal

pub returns-then-len-ne2 : goal.returns-then-len-ne2
returns-then-len-ne2 c = sym (no_tag_by_len (view c.args.event.now) c.in_ok-members.members.now.entries c.in_ok-members.ensures (λ e. c.if-len-ne2.true (c.len.ensures.len ∙ e)))

pub returns : goal.returns
returns c = c.text_of-2.ensures ∙ sym (tag_is (view c.args.event.now) c.in_ok-members.members.now.entries c.in_ok-members.ensures (sym c.len.ensures.len ∙ c.if-len-ne2.false) (ap is_click (sym c.text_of.ensures) ∙ sym c.is_click_event.ensures ∙ c.if-not-is_click_event.false))
