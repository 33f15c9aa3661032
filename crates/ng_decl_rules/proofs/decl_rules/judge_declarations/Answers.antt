use Rattle.std.proofs.Common.{◌∙◌, ap, drop}
use Rattle.std.specs.List.{flat_map}
use Rattle.ng_ast.specs.declared.refusals.Rule.TheVariants as rule
use Rattle.ng_parts.specs.Sites.{repeats}
use Rattle.ng_parts.specs.Entries.{named}
use Rattle.ng_breaks.specs.Least.{least_of, of_rule}
use Rattle.ng_decl_rules.specs.MemberRules.{Names}
use Rattle.ng_decl_rules.specs.DeclRules.{boots, declared_sites, each_breaks, root_breaks}
use Rattle.ng_decl_rules.proofs.Laws.{names_of, least_four}
use Rattle.ng_decl_rules.proofs.decl_rules.judge_declarations.Goals as goal

pub returns : goal.returns
returns c = least_four (of_rule rule.N02 (repeats (declared_sites c.args.decls.now))) (root_breaks c.args.decls.now (boots c.args.decls.now)) (of_rule rule.N02 (drop 1 (boots c.args.decls.now)))
    (flat_map (each_breaks (named c.args.decls.now)) c.args.decls.now)
    c.args.best.now c.judge_entries.new.best c.judge_root.new.best c.judge_second.new.best c.judge_all.new.best c.in_ok-judge_entries.ensures
    (c.in_ok-judge_root.ensures ∙ ap (λ bs. least_of c.judge_entries.new.best (root_breaks c.args.decls.now bs)) (c.as_slice.ensures.value ∙ c.in_ok-boots.ensures))
    (c.in_ok-judge_second.ensures ∙ ap (λ bs. least_of c.judge_root.new.best (of_rule rule.N02 (drop 1 bs))) (c.as_slice-2.ensures.value ∙ c.in_ok-boots.ensures))
    (c.in_ok-judge_all.ensures ∙ ap (λ (n : Names). least_of c.judge_second.new.best (flat_map (each_breaks n) c.args.decls.now)) (names_of c.in_ok-index.index c.args.decls.now c.in_ok-index.ensures))
