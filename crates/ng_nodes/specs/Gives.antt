-- What a function of the code gives: what the machine gives, unless memory ran out.
use Rattle.std.specs.Prelude.{◌≡◌, List, Result, Ok, Err}
use Rattle.ng_ast.specs.declared.TNode.{TNode}
use Rattle.ng_nodes.specs.declared.halt.Halt.{Halt}
use Rattle.ng_nodes.specs.declared.halt.Halt.TheVariants as h
use Rattle.ng_nodes.specs.declared.state.State.{State}
use Rattle.ng_nodes.specs.Machine.{Stop, Syntax, Limit}

abbrev pub Fails : {A : Type 0} → Result A Stop → Halt → Type 0
Fails o (h.Syntax p) = o ≡ Err Syntax
Fails o (h.Limit p) = o ≡ Err Limit
Fails o h.Memory = Unit {0}

-- a call that leaves this state
abbrev pub Gives : {A : Type 0} → Result State Stop → Result A Halt → State → Type 0
Gives o (Ok u) st = o ≡ Ok st
Gives o (Err e) st = Fails o e

-- a call that answers nodes
abbrev pub Answers : Result (List TNode) Stop → Result (List TNode) Halt → Type 0
Answers o (Ok ns) = o ≡ Ok ns
Answers o (Err e) = Fails o e
