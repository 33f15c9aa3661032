use Rattle.std.proofs.Common.{sym}
use Rattle.ng_semantics.specs.Template.{nesting}
use Rattle.ng_update.specs.Fields.{names_in}
use Rattle.ng_update.proofs.Nodes.{found_first}
use Rattle.ng_update.proofs.Targets.{listener_first}
use Rattle.ng_update.proofs.engine.click_in.Goals as goal

pub run-requires : goal.run-requires
run-requires c =
    let names = names_in c.args.fields.now in
    listener_first names c.in-Some.attributes.now c.in-Some-click_listener.statements.now
    (found_first names c.args.tag.now nesting c.args.nodes.now c.in-Some.attributes.now c.requires (sym c.in-Some.ensures)) (sym c.in-Some-click_listener.ensures)
