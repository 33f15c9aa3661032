use Rattle.ng_meaning.specs.Page.{page_nodes}
use Rattle.ng_meaning.specs.Laws.Deeper.{pass-DrawsAlike, pass-MeetsAlike, pass-ListsAlike}
use Rattle.ng_meaning.proofs.laws.levels_are_enough.Goals as goal

pub returns : goal.returns
returns c = record {
  drawn = λ app every marks z r e more. pass-DrawsAlike app every marks z r e page_nodes more;
  met = pass-MeetsAlike;
  listed = λ app every marks z r counted e more. pass-ListsAlike app every marks z r e counted more;
}
