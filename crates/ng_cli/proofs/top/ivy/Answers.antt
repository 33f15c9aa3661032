use Rattle.ng_cli.specs.Steps.{texts}
use Rattle.ng_cli.proofs.Finish.{allowed_at, complete_at, complete_usage_at, two_at, five_at, six_at, front_at, three_at}
use Rattle.ng_cli.proofs.top.ivy.Goals as goal

pub returns-clause-allowed : goal.returns-clause-allowed
returns-clause-allowed g c = rw c.code.ensures (allowed_at (texts c.args.words.now) (g.H.Shelf.told c.args.shelf.now) (g.H.Shelf.faults c.args.shelf.now) (g.H.Shelf.faults c.answer.new.shelf) (g.K.Sink.taken c.args.sink.now) (g.K.Sink.taken c.answer.new.sink) (g.K.Sink.faults c.args.sink.now) (g.K.Sink.faults c.answer.new.sink) c.answer.result c.answer.ensures)

pub returns-clause-complete : goal.returns-clause-complete
returns-clause-complete g c = rw c.code.ensures (complete_at (texts c.args.words.now) (g.H.Shelf.told c.args.shelf.now) (g.H.Shelf.faults c.args.shelf.now) (g.H.Shelf.faults c.answer.new.shelf) (g.K.Sink.taken c.args.sink.now) (g.K.Sink.taken c.answer.new.sink) (g.K.Sink.faults c.args.sink.now) (g.K.Sink.faults c.answer.new.sink) c.answer.result c.answer.ensures)

pub returns-clause-complete_usage : goal.returns-clause-complete_usage
returns-clause-complete_usage g c = rw c.code.ensures (complete_usage_at (texts c.args.words.now) (g.H.Shelf.told c.args.shelf.now) (g.H.Shelf.faults c.args.shelf.now) (g.H.Shelf.faults c.answer.new.shelf) (g.K.Sink.taken c.args.sink.now) (g.K.Sink.taken c.answer.new.sink) (g.K.Sink.faults c.args.sink.now) (g.K.Sink.faults c.answer.new.sink) c.answer.result c.answer.ensures)

pub returns-clause-two : goal.returns-clause-two
returns-clause-two g c = rw c.code.ensures (two_at (texts c.args.words.now) (g.H.Shelf.told c.args.shelf.now) (g.H.Shelf.faults c.args.shelf.now) (g.H.Shelf.faults c.answer.new.shelf) (g.K.Sink.taken c.args.sink.now) (g.K.Sink.taken c.answer.new.sink) (g.K.Sink.faults c.args.sink.now) (g.K.Sink.faults c.answer.new.sink) c.answer.result c.answer.ensures)

pub returns-clause-six : goal.returns-clause-six
returns-clause-six g c = rw c.code.ensures (six_at (texts c.args.words.now) (g.H.Shelf.told c.args.shelf.now) (g.H.Shelf.faults c.args.shelf.now) (g.H.Shelf.faults c.answer.new.shelf) (g.K.Sink.taken c.args.sink.now) (g.K.Sink.taken c.answer.new.sink) (g.K.Sink.faults c.args.sink.now) (g.K.Sink.faults c.answer.new.sink) c.answer.result c.answer.ensures)

pub returns-clause-front : goal.returns-clause-front
returns-clause-front g c = rw c.code.ensures (front_at (texts c.args.words.now) (g.H.Shelf.told c.args.shelf.now) (g.H.Shelf.faults c.args.shelf.now) (g.H.Shelf.faults c.answer.new.shelf) (g.K.Sink.taken c.args.sink.now) (g.K.Sink.taken c.answer.new.sink) (g.K.Sink.faults c.args.sink.now) (g.K.Sink.faults c.answer.new.sink) c.answer.result c.answer.ensures)

pub returns-clause-five : goal.returns-clause-five
returns-clause-five g c = rw c.code.ensures (λ h. (five_at (texts c.args.words.now) (g.H.Shelf.told c.args.shelf.now) (g.H.Shelf.faults c.args.shelf.now) (g.H.Shelf.faults c.answer.new.shelf) (g.K.Sink.taken c.args.sink.now) (g.K.Sink.taken c.answer.new.sink) (g.K.Sink.faults c.args.sink.now) (g.K.Sink.faults c.answer.new.sink) c.answer.result c.answer.ensures h).0)

pub returns-clause-nothing : goal.returns-clause-nothing
returns-clause-nothing g c = rw c.code.ensures (λ h. (five_at (texts c.args.words.now) (g.H.Shelf.told c.args.shelf.now) (g.H.Shelf.faults c.args.shelf.now) (g.H.Shelf.faults c.answer.new.shelf) (g.K.Sink.taken c.args.sink.now) (g.K.Sink.taken c.answer.new.sink) (g.K.Sink.faults c.args.sink.now) (g.K.Sink.faults c.answer.new.sink) c.answer.result c.answer.ensures h).1)

pub returns-clause-three : goal.returns-clause-three
returns-clause-three g c = rw c.code.ensures (three_at (texts c.args.words.now) (g.H.Shelf.told c.args.shelf.now) (g.H.Shelf.faults c.args.shelf.now) (g.H.Shelf.faults c.answer.new.shelf) (g.K.Sink.taken c.args.sink.now) (g.K.Sink.taken c.answer.new.sink) (g.K.Sink.faults c.args.sink.now) (g.K.Sink.faults c.answer.new.sink) c.answer.result c.answer.ensures)
