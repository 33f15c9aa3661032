use Rattle.ng_meaning.specs.Laws.Once.{page-HasOnce, turns-HaveOnce}
use Rattle.ng_meaning.specs.Laws.Each.{page-HasEach}
use Rattle.ng_meaning.specs.Laws.Only.{page-HasOnly}
use Rattle.ng_meaning.proofs.laws.page_has_each_shown_node_once.Goals as goal

pub returns : goal.returns
returns c = record { each = page-HasEach; others = page-HasOnly; once = page-HasOnce; once_in_runs = turns-HaveOnce }
