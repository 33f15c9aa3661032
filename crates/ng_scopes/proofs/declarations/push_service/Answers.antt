use Rattle.std.proofs.Common.{ap, ◌∙◌, ◌++◌}
use Rattle.ng_scopes.specs.Names.{Scope}
use Rattle.ng_scopes.specs.Declarations.{members_usages}
use Rattle.ng_scopes.proofs.ScopeLaws.{first_scope, meaning_of-outside}
use Rattle.ng_scopes.proofs.declarations.push_service.Goals as goal

pub returns : goal.returns
returns c = c.in_ok-push_service_in.ensures ∙ ap (λ (s : Scope). c.args.found.now.items ++ members_usages s c.args.members.now)
    (first_scope c.in_ok-table.table _ _ _ c.in_ok-table.ensures (c.as_slice.ensures.value ∙ c.in_ok-names.ensures) meaning_of-outside)
