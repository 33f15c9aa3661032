-- What a path keeps inside.
use Rattle.std.specs.Prelude.{List}
use Rattle.ng_tree.specs.declared.Step.{Step}
use Rattle.ng_tree.specs.declared.Steps.{Steps}
use Rattle.ng_tree.specs.declared.Steps.TheVariants.{Own, Shared}

-- the steps of one path, or those that several share
abbrev pub steps_in : Steps → List Step
steps_in (Own steps) = steps.items
steps_in (Shared steps) = steps.value.items
