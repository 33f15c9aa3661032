use Rattle.ng_heads.proofs.ExtraLaws.{for_unrowed, for_list, for_parts, for_all}
use Rattle.ng_heads.proofs.fors.read_for.Goals as goal

pub returns-in_default : goal.returns-in_default
returns-in_default c = for_unrowed c.args.at c.args.at.place (rw c.in_default.is at c.row.ensures)

pub returns-in-Err : goal.returns-in-Err
returns-in-Err c = for_list c.args.at c.in-Some.name c.in-Some.rest (rw c.in-Some.is at c.row.ensures) c.in-Err.stop c.in-Err.ensures

pub returns-in-Err-read_extras : goal.returns-in-Err-read_extras
returns-in-Err-read_extras c = for_parts c.args.at c.in-Some.name c.in-Some.rest (rw c.in-Some.is at c.row.ensures) c.in-Ok.list c.in-Ok.rest c.in-Ok.ensures c.in-Err-read_extras.stop c.in-Err-read_extras.ensures

pub returns-in-Ok-read_extras : goal.returns-in-Ok-read_extras
returns-in-Ok-read_extras c = for_all c.args.at c.in-Some.name c.in-Some.rest (rw c.in-Some.is at c.row.ensures) c.in-Ok.list c.in-Ok.rest c.in-Ok.ensures c.in-Ok-read_extras.extras c.with_row.result c.with_row.ensures c.in-Ok-read_extras.ensures
