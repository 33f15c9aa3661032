use Rattle.ng_meaning.specs.Laws.Bubbling.{in_turn-Faulted, in_turn-Ended}
use Rattle.ng_meaning.proofs.laws.listeners_run_in_turn.Goals as goal

pub returns : goal.returns
returns c = record { faulted = in_turn-Faulted; ended = in_turn-Ended }
