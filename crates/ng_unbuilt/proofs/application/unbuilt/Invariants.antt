use Rattle.std.proofs.Common.{◌≡◌, drop}
use Rattle.ng_unbuilt.specs.Least.{least_of, least}
use Rattle.ng_unbuilt.specs.Forms.{forms_after, forms}
use Rattle.ng_unbuilt.proofs.application.unbuilt.Given as goal

abbrev pub invariant-loop-one : goal.invariant-loop-one
invariant-loop-one l = least (forms l.app) ≡ least_of l.best (forms_after l.seen (drop l.one-index l.one-items))
