use Rattle.std.proofs.Common.{◌≡◌, drop}
use Rattle.ng_update.specs.Clicked.{click_in}
use Rattle.ng_update.proofs.click.click_listener.Given as goal

abbrev pub invariant-loop-attribute : goal.invariant-loop-attribute
invariant-loop-attribute l = click_in (drop l.attribute-index l.attributes) ≡ click_in l.attributes
