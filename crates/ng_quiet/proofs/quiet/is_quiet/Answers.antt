use Rattle.std.proofs.Common.{◌≡◌, ◌∙◌, ap, sym, subst, map, List, Bool, Bor, bytes_eq}
use Rattle.std.specs.HashSet.{contains}
use Rattle.ng_ast.specs.declared.Decl.{Decl}
use Rattle.ng_ast.specs.declared.Component.{Component}
use Rattle.ng_hosts.specs.Hosts.{Name, components}
use Rattle.ng_quiet.specs.Quiet.{IsQuiet, reads_steadily, is_called}
use Rattle.ng_quiet.specs.Used.{AllKeep, MarksSkipped}
use Rattle.ng_quiet.proofs.QuietLaws.{quiet_is, same_answer}
use Rattle.ng_quiet.proofs.quiet.is_quiet.Goals as goal

pub returns : goal.returns
returns c =
    let are : map (λ (r : Bor Component). r.now) c.as_slice-2.result.now ≡ components c.args.app.now.decls =
    ap (map (λ (r : Bor Component). r.now)) c.as_slice-2.ensures.value ∙ c.in_ok-components.ensures ∙ ap components c.as_slice-decls.ensures in
    let same : c.as_slice.result.now ≡ c.as_slice-2.result.now = c.as_slice.ensures.value ∙ sym c.as_slice-2.ensures.value in
    let marked : MarksSkipped (map (λ (r : Bor Component). r.now) c.as_slice-2.result.now) c.as_slice-3.result.now =
    subst (λ (m : List Bool). MarksSkipped (map (λ (r : Bor Component). r.now) c.as_slice-2.result.now) m) (sym c.as_slice-3.ensures.value)
    (subst (λ (l : List (Bor Component)). MarksSkipped (map (λ (r : Bor Component). r.now) l) c.in_ok-marks.marks.items) same c.in_ok-marks.ensures) in
    same_answer c.all_keep.result
    (AllKeep (map (λ (r : Bor Component). r.now) c.as_slice-2.result.now) c.as_slice-3.result.now c.in_ok-survey.survey.steady.items (contains bytes_eq c.in_ok-survey.survey.called)) (IsQuiet c.args.app.now)
    (quiet_is c.args.app.now _ _ _ (contains bytes_eq c.in_ok-survey.survey.called) are marked (c.in_ok-survey.ensures.steady ∙ ap (λ (ds : List Decl). map reads_steadily (components ds)) c.as_slice-decls.ensures)
    (λ (n : Name). c.in_ok-survey.ensures.called n ∙ ap (λ (ds : List Decl). is_called ds n) c.as_slice-decls.ensures))
    c.all_keep.ensures
