use Rattle.ng_meaning.specs.Laws.Listed.{pass-Lists, turns-List, nodes-AreLive}
use Rattle.ng_meaning.proofs.laws.live_elements_are_listed.Goals as goal

pub returns : goal.returns
returns c = record { in_passes = pass-Lists; in_runs = turns-List; each_node = nodes-AreLive }
