use Rattle.ng_templates.proofs.Turns.{nowhere_halts}
use Rattle.ng_templates.proofs.nodes.turn.Goals as goal

pub returns-in-Err : goal.returns-in-Err
returns-in-Err c = λ base t far. nowhere_halts base t c.args.reader.builder c.args.reader.place c.args.reader.rest.now far c.requires.some c.in-Err.halt c.in-Err.ensures.refused
