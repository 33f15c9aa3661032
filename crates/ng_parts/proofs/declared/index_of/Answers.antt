use Rattle.std.proofs.Common.{◌+◌, arith, subst, sym, drop}
use Rattle.ng_parts.proofs.Index.{Indexed, indexed_more}
use Rattle.ng_parts.proofs.declared.index_of.Goals as goal

pub loop-decl-preserved : goal.loop-decl-preserved
loop-decl-preserved c = subst (λ n. Indexed c.add_decl.new.index n (drop (c.loop-decl.decl-index + 1) c.args.decls.now) c.args.decls.now) (sym c.in_ok-at.ensures)
    (indexed_more c.loop-decl.index c.add_decl.new.index c.loop-decl.at c.args.decls.now c.args.decls.now c.loop-decl.decl-index c.decl-item.result (omega arith) c.decl-item.is c.loop-decl.invariant c.in_ok-add_decl.ensures)
