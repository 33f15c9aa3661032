use Rattle.std.proofs.Common.{◌≡◌, drop}
use Rattle.std.specs.List.{list_all}
use Rattle.ng_ast.specs.declared.Stmt.{out-Stmt}
use Rattle.ng_semantics.specs.First.{is_first_statement, names_of}
use Rattle.ng_unbuilt.proofs.listener.are_first_statements.Given as goal

abbrev pub invariant-loop-statement : goal.invariant-loop-statement
invariant-loop-statement l = list_all (λ s. is_first_statement (names_of l.members) (out-Stmt s)) (drop l.statement-index l.statements) ≡ list_all (λ s. is_first_statement (names_of l.members) (out-Stmt s)) l.statements
