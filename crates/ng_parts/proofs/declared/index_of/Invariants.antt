use Rattle.std.proofs.Common.{drop}
use Rattle.ng_parts.proofs.Index.{Indexed}
use Rattle.ng_parts.proofs.declared.index_of.Given as goal

abbrev pub invariant-loop-decl : goal.invariant-loop-decl
invariant-loop-decl l = Indexed l.index l.at (drop l.decl-index l.decls) l.decls
