use Rattle.std.proofs.Common.{◌≡◌, ◌∙◌, refl, ap, sym, subst, not, IsTrue, List, Bool, bytes_eq}
use Rattle.std.specs.HashSet.{contains}
use Rattle.ng_scopes.specs.Names.{Scope, nothing}
use Rattle.ng_scopes.specs.Scope.{kept_in}
use Rattle.ng_scopes.specs.Declarations.{member_scope, member_names}
use Rattle.ng_scopes.proofs.ScopeLaws.{first_scope}
use Rattle.ng_quiet.specs.Quiet.{KeepsFields}
use Rattle.ng_quiet.specs.Methods.{call_graph, assigning, called_methods}
use Rattle.ng_quiet.proofs.FieldLaws.{meets, keeps_are}
use Rattle.ng_quiet.proofs.fields.keeps_fields.Goals as goal

pub returns : goal.returns
returns c =
    let scope : kept_in c.in_ok-table.table nothing 0 ≡ member_scope c.args.component.now.members =
    first_scope c.in_ok-table.table _ (member_names c.args.component.now.members) nothing c.in_ok-table.ensures (c.as_slice.ensures.value ∙ c.in_ok-names.ensures ∙ ap member_names c.as_slice-members.ensures) refl in
    let graph : c.as_slice-2.result.now ≡ call_graph (member_scope c.args.component.now.members) c.args.component.now.members =
    c.as_slice-2.ensures.value ∙ c.in_ok-methods.ensures.graph ∙ ap (λ (s : Scope). call_graph s c.as_slice-members.result.now) scope ∙ ap (call_graph (member_scope c.args.component.now.members)) c.as_slice-members.ensures in
    let flags : c.as_slice-5.result.now ≡ assigning (member_scope c.args.component.now.members) c.args.component.now.members =
    c.as_slice-5.ensures.value ∙ c.in_ok-methods.ensures.assigning ∙ ap (λ (s : Scope). assigning s c.as_slice-members.result.now) scope ∙ ap (assigning (member_scope c.args.component.now.members)) c.as_slice-members.ensures in
    let starts : c.as_slice-3.result.now ≡ called_methods (contains bytes_eq c.args.called.now) 0 c.args.component.now.members =
    c.as_slice-3.ensures.value ∙ c.in_ok-starts.ensures ∙ ap (called_methods (contains bytes_eq c.args.called.now) 0) c.as_slice-members.ensures in
    subst (λ (b : Bool). (IsTrue (not b) → KeepsFields (contains bytes_eq c.args.called.now) c.args.component.now) × (KeepsFields (contains bytes_eq c.args.called.now) c.args.component.now → IsTrue (not b)))
    (sym (c.meet.ensures ∙ ap (λ (m : List Bool). meets m c.as_slice-5.result.now) c.as_slice-4.ensures.value))
    (keeps_are c.args.component.now (contains bytes_eq c.args.called.now) c.as_slice-2.result.now c.as_slice-3.result.now c.as_slice-5.result.now c.in_ok-marks.marks.items graph starts flags c.in_ok-marks.ensures)
