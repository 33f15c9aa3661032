use Rattle.std.proofs.Common.{arith}
use Rattle.ng_tree.specs.Names.{environment_in}
use Rattle.ng_tree.proofs.More.{filter_map_more}
use Rattle.ng_tree.proofs.naming.environment_names.Goals as goal

pub loop-decl-preserved : goal.loop-decl-preserved
loop-decl-preserved c =
    let more = filter_map_more environment_in c.args.decls.now c.loop-decl.decl-index c.decl-item.result (omega arith) c.decl-item.is in
    cc (more, c.in_ok-push_name.ensures, c.environment_name.ensures, c.loop-decl.invariant)
