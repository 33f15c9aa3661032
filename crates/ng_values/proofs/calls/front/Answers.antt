use Rattle.std.proofs.Common.{sym}
use Rattle.std.proofs.lemmas.List.{take-map}
use Rattle.ng_values.specs.View.{plain}
use Rattle.ng_values.proofs.calls.front.Goals as goal

pub returns-then-number-items : goal.returns-then-number-items
returns-then-number-items c = sym (take-map plain c.args.number c.args.items.now)
