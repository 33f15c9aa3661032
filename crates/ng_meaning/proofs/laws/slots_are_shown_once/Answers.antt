use Rattle.ng_meaning.specs.Laws.Once.{turns-HaveOnce}
use Rattle.ng_meaning.specs.Laws.SlotsOnce.{templates-ShowOnce}
use Rattle.ng_meaning.proofs.laws.slots_are_shown_once.Goals as goal

pub returns : goal.returns
returns c = record {
  slots = templates-ShowOnce;
  pages = λ app every events t i templates. turns-HaveOnce app every events t i (templates-ShowOnce app t.state.tree templates);
}
