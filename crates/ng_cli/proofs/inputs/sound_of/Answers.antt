use Rattle.std.proofs.Common.{sym, subst}
use Rattle.ng_ready.specs.Sized.{AreSized}
use Rattle.ng_cli.proofs.Stopping.{read_stop, check_stop}
use Rattle.ng_cli.proofs.inputs.sound_of.Goals as goal

pub returns-in-Err-clause-err : goal.returns-in-Err-clause-err
returns-in-Err-clause-err c = read_stop c.args.bytes.now c.in-Err.error c.unread.result c.requires c.in-Err.ensures.refused c.unread.ensures

pub returns-in-Ok-check-clause-sized : goal.returns-in-Ok-check-clause-sized
returns-in-Ok-check-clause-sized c = subst AreSized (sym c.in-Ok-check.ensures.0) (c.readings_are_sized.ensures c.args.bytes.now c.in-Ok.app c.in-Ok.ensures.reads.0 c.in-Ok.ensures.reads.1)

pub returns-in-Err-check-clause-err : goal.returns-in-Err-check-clause-err
returns-in-Err-check-clause-err c =
    check_stop c.args.bytes.now c.in-Ok.app c.in-Err-check.error c.unsound.result (record { short = c.requires; reads = c.in-Ok.ensures.reads.0; calm = c.in-Ok.ensures.reads.1 }) c.in-Err-check.ensures c.unsound.ensures
