-- What is owed for each answer.
use Rattle.std.proofs.Common.{◌≡◌, List}
use Rattle.std.specs.Prelude.{Result, Ok, Err, IfOk, IfErr}
use Rattle.ng_ast.specs.declared.TNode.{TNode}
use Rattle.ng_nodes.specs.declared.halt.Halt.{Halt}
use Rattle.ng_nodes.specs.declared.state.State.{State}
use Rattle.ng_nodes.specs.Texts.{Parts}
use Rattle.ng_nodes.specs.Machine.{finish, begin, after, read}
use Rattle.ng_nodes.specs.Limits.{ReadsNodes}
use Rattle.ng_nodes.specs.Reading.{OverParts, AreNoNodes, Halts}
use Rattle.ng_nodes.specs.Gives.{Answers}
use Rattle.ng_nodes.proofs.Public.{finished, all_read, not_read}

pub finish_reads : (st : State) (r : Result (List TNode) Halt) → Answers (finish 4096 st) r
    → IfOk r (λ ns. (front : Parts) → after 32 4096 begin front ≡ Ok st → ReadsNodes front ns × (OverParts front → ⊥))
finish_reads st (Ok ns) g = finished st ns g
finish_reads st (Err e) g = tt

pub read_reads : (ts : Parts) (r : Result (List TNode) Halt) → Answers (read 32 4096 begin ts) r → IfOk r (λ ns. ReadsNodes ts ns × (OverParts ts → ⊥))
read_reads ts (Ok ns) g = all_read ts ns g
read_reads ts (Err e) g = tt

pub read_refused : (ts : Parts) (r : Result (List TNode) Halt) → Answers (read 32 4096 begin ts) r → IfErr r (Halts (AreNoNodes ts) (OverParts ts))
read_refused ts (Ok ns) g = tt
read_refused ts (Err e) g = not_read ts e g
