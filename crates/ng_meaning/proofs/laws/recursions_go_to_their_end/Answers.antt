use Rattle.ng_meaning.specs.Laws.Expressions.{mean_chain_is}
use Rattle.ng_meaning.specs.Laws.Outlets.{outlet_is}
use Rattle.ng_meaning.specs.Laws.Pages.{ways_is, html_is}
use Rattle.ng_meaning.specs.Laws.Statements.{act_is, init_is}
use Rattle.ng_meaning.specs.Laws.Templates.{form_is}
use Rattle.ng_meaning.proofs.laws.recursions_go_to_their_end.Goals as goal

pub returns : goal.returns
returns c = record {
  expressions = mean_chain_is;
  statements = act_is;
  inits = init_is;
  templates = form_is;
  outlets = outlet_is;
  ways = ways_is;
  printing = html_is;
}
