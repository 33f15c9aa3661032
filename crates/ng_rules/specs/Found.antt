-- What is found of all breaks.
use Rattle.std.specs.Prelude.{◌≡◌, List, Option}
use Rattle.ng_ast.specs.declared.App.{App}
use Rattle.ng_ast.specs.declared.refusals.Refusal.{Refusal}
use Rattle.ng_breaks.specs.Least.{least}
use Rattle.ng_rules.specs.Breaks.{AreBreaks}

-- the least of all breaks, if there is one
pub record IsFound (app : App) (found : Option Refusal) : Type 0 where
  pub breaks : List Refusal
  pub are : AreBreaks app breaks
  pub is : found ≡ least breaks
