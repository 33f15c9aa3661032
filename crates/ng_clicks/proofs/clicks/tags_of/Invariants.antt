use Rattle.std.proofs.Common.{◌≡◌, drop}
use Rattle.serde_json.specs.View.{items_view}
use Rattle.ng_clicks.specs.Clicks.{click_tags}
use Rattle.ng_clicks.proofs.ClickLoop.{joined}
use Rattle.ng_clicks.proofs.clicks.tags_of.Given as goal

abbrev pub invariant-loop-event : goal.invariant-loop-event
invariant-loop-event l = joined l.tags.items (click_tags (items_view (drop l.event-index l.events))) ≡ click_tags (items_view l.events)
