use Rattle.ng_heads.proofs.TestLaws.{test_read, test_nameless, test_stops}
use Rattle.ng_heads.proofs.conditions.read_test.Goals as goal

pub returns-in-Err : goal.returns-in-Err
returns-in-Err c = test_stops c.args.at c.in-Err.stop c.in-Err.ensures

pub returns-in-Ok-name_behind : goal.returns-in-Ok-name_behind
returns-in-Ok-name_behind c = test_read c.args.at c.in-Ok.rest c.in-Ok.test c.in-Ok-name_behind.name c.in-Ok.ensures c.in-Ok-name_behind.ensures

pub returns-in-Err-name_behind : goal.returns-in-Err-name_behind
returns-in-Err-name_behind c = test_nameless c.args.at c.in-Ok.rest c.in-Ok.test c.in-Err-name_behind.stop c.in-Ok.ensures c.in-Err-name_behind.ensures
