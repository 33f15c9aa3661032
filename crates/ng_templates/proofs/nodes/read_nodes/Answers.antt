use Rattle.ng_templates.proofs.Turns.{nothing_read, stopped}
use Rattle.ng_templates.proofs.nodes.read_nodes.Goals as goal

pub loop-alloc-init : goal.loop-alloc-init
loop-alloc-init c = record { fits = c.requires; far = nothing_read c.args.base c.args.text.now c.new.result c.new.ensures }

pub returns-in-Err : goal.returns-in-Err
returns-in-Err c = stopped c.args.base c.args.text.now c.in-Err.halt (c.in-Err.ensures c.args.base c.args.text.now c.loop-alloc.invariant.far)
