use Rattle.std.proofs.Common.{sym, ap, ◌∙◌, subst}
use Rattle.std.specs.List.{list_all}
use Rattle.ng_ast.specs.declared.Component.{Component}
use Rattle.ng_ast.specs.declared.Member.{Member}
use Rattle.ng_semantics.specs.Declared.{initial_fields}
use Rattle.ng_semantics.specs.First.{IsFirst, is_whole, names_of}
use Rattle.ng_update.proofs.engine.FlatEngine.start.Goals as goal

pub initial-requires : goal.initial-requires
initial-requires c =
    let p = c.requires.first in
    ap (list_all (λ (m : Member). is_whole m.kind)) (c.as_slice.ensures ∙ ap (λ (k : Component). k.members) (c.component_of-component.ensures p.0 p.1)) ∙ p.2.fields

pub invariant_of-result : goal.invariant_of-result
invariant_of-result c =
    let p = c.requires.first in
    record {
      first = subst IsFirst (sym (c.component_of-component.ensures p.0 p.1)) p.2;
      named = c.in_ok-fields.ensures.names ∙ ap names_of c.as_slice.ensures;
    }

pub returns : goal.returns
returns c = record {
  ok = λ k alone.
      let same = c.component_of-component.ensures k alone in
      let world = c.in_ok-fields.ensures.values ∙ ap initial_fields (c.as_slice.ensures ∙ ap (λ (m : Component). m.members) same) in
      (λ j. record { component = same j; world = world j });
}
