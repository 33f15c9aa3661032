use Rattle.ng_scopes.specs.Scope.{names_at}
use Rattle.ng_scopes.proofs.TemplateLaws.{for_told}
use Rattle.ng_scopes.proofs.templates.+reads.Goals as goal

pub push_node-returns-in_ok-push_empty-in-For-clause-found : goal.push_node-returns-in_ok-push_empty-in-For-clause-found
push_node-returns-in_ok-push_empty-in-For-clause-found t c = for_told c.args.found.now.items _ _ _ (names_at c.args.view) _ c.args.passed c.args.node.now c.in-For.place c.in-For.head _ _
    c.scope-scope.ensures c.in-For.is c.in_ok-push_for_head-in-For.ensures (rw c.as_slice-in-For.ensures at c.in_ok-push_rows-in-For.ensures) c.in_ok-push_empty-in-For.ensures
