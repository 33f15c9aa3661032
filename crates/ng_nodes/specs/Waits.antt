-- What an element or a block that is begun is taken for.
use Rattle.std.specs.Prelude.{Bool, true, false, List, Option, Some, None}
use Rattle.ng_ast.specs.declared.Place.{Place}
use Rattle.ng_ast.specs.declared.Branch.{Branch}
use Rattle.ng_nodes.specs.Texts.{Text, same}
use Rattle.ng_nodes.specs.declared.state.Opener.{Opener}
use Rattle.ng_nodes.specs.declared.state.Opener.TheVariants as op
use Rattle.ng_nodes.specs.declared.state.Waiting.{Waiting}
use Rattle.ng_nodes.specs.declared.state.Waiting.TheVariants as wt

-- the `@if` that may go on, with its branches, if what stands after it lets it
abbrev pub if_of : Bool → Waiting → Option (Place × List Branch)
if_of true (wt.If p bs) = Some (p, bs)
if_of gap w = None

-- whether this is an element of the tag
abbrev pub is_tag : Text → Opener → Bool
is_tag tag (op.Tag p mark attrs) = same mark tag
is_tag tag _ = false
