use Rattle.ng_meaning.specs.Laws.Bubbling.{handle-One}
use Rattle.ng_meaning.proofs.laws.one_listener_is_alone.Goals as goal

pub returns : goal.returns
returns c = handle-One
