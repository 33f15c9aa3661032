use Rattle.std.proofs.Common.{◌≡◌, List, subst}
use Rattle.std.specs.Prelude.{Result}
use Rattle.ng_ast.specs.declared.TNode.{TNode}
use Rattle.ng_nodes.specs.declared.halt.Halt.{Halt}
use Rattle.ng_nodes.specs.Texts.{Parts}
use Rattle.ng_nodes.specs.Machine.{begin, read}
use Rattle.ng_nodes.specs.Limits.{ReadsNodes}
use Rattle.ng_nodes.specs.Reading.{OverParts, IsOrMemory}
use Rattle.ng_nodes.specs.Gives.{Answers}
use Rattle.ng_nodes.proofs.Public.{exactly_read}
use Rattle.ng_nodes.proofs.read_nodes.Goals as goal

exactly : (ts us : Parts) (r : Result (List TNode) Halt) → us ≡ ts → Answers (read 32 4096 begin us) r → (ns : List TNode) → ReadsNodes ts ns → (OverParts ts → ⊥) → IsOrMemory ns r
exactly ts us r e g = exactly_read ts r (subst (λ x. Answers (read 32 4096 begin x) r) e g)

pub returns-clause-exact : goal.returns-clause-exact
returns-clause-exact c = exactly c.args.parts.items _ c.read.result c.from_vec.ensures c.read.ensures
