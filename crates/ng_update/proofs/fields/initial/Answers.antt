use Rattle.std.proofs.Common.{◌++◌, ◌∷◌, [], sym, ap, ◌∙◌, take, arith}
use Rattle.std.proofs.lemmas.List.{map_more, map-append}
use Rattle.ng_semantics.specs.Declared.{initial_in}
use Rattle.ng_semantics.specs.First.{names_of}
use Rattle.ng_ast.specs.declared.Member.{Member}
use Rattle.ng_update.specs.Fields.{entry, world_of, names_in}
use Rattle.ng_update.proofs.Lists.{kept_more}
use Rattle.ng_update.proofs.fields.initial.Goals as goal

pub loop-member-preserved : goal.loop-member-preserved
loop-member-preserved c =
    let m = c.member-item.result in
    let f = c.in_ok-initial_field.field-0 in
    let members = c.args.members.now in
    let i = c.loop-member.member-index in
    record {
      values = ap world_of c.in_ok-push.ensures.items ∙ map-append entry c.loop-member.fields.items (f ∷ []) ∙ ap (λ es. es ++ entry f ∷ []) c.loop-member.invariant.values
          ∙ sym (kept_more (λ (m : Member). initial_in m m.kind) members i m (entry f) (omega arith) c.member-item.is c.in_ok-initial_field.ensures.value);
      names = ap names_in c.in_ok-push.ensures.items ∙ map-append (λ f. f.name) c.loop-member.fields.items (f ∷ []) ∙ ap (λ ns. ns ++ f.name ∷ []) c.loop-member.invariant.names
          ∙ ap (λ n. names_of (take i members) ++ n ∷ []) (c.in_ok-initial_field.ensures.name ∙ ap (λ (k : Member). k.name) c.member-item.is)
          ∙ sym (map_more (λ (k : Member). k.name) members i m (omega arith));
    }
