use Rattle.std.proofs.Common.{◌≡◌, map, take}
use Rattle.ng_unbuilt.specs.Least.{least_of}
use Rattle.ng_unbuilt.proofs.template.all_places.Given as goal

abbrev pub invariant-loop-attribute : goal.invariant-loop-attribute
invariant-loop-attribute l = l.best ≡ least_of l.initial.best (map (λ a. a.place) (take l.attribute-index l.attributes))
