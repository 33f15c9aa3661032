use Rattle.std.proofs.Common.{ap, ◌∙◌, ◌++◌, []}
use Rattle.ng_scopes.specs.Names.{Scope}
use Rattle.ng_scopes.specs.Templates.{view_reads}
use Rattle.ng_scopes.specs.Declarations.{members_usages, member_names}
use Rattle.ng_scopes.proofs.ScopeLaws.{first_scope, meaning_of-outside}
use Rattle.ng_scopes.proofs.declarations.push_component.Goals as goal

pub returns : goal.returns
returns c = c.in_ok-push_component_in.ensures ∙ ap (λ (s : Scope). (c.args.found.now.items ++ members_usages s c.args.component.now.members) ++ view_reads [] s c.args.component.now.template.nodes)
    (first_scope c.in_ok-table.table _ (member_names c.args.component.now.members) _ c.in_ok-table.ensures (c.as_slice-2.ensures.value ∙ c.in_ok-names.ensures ∙ ap member_names c.as_slice.ensures) meaning_of-outside)
