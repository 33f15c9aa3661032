use Rattle.std.proofs.Common.{◌≡◌, ◌∙◌, ◌==◌, ap, bytes_eq, sym, length, false}
use Rattle.std.specs.HashMap.{get}
use Rattle.ng_breaks.specs.Least.{least_of}
use Rattle.ng_decl_rules.proofs.Laws.{names_of, root_some}
use Rattle.ng_decl_rules.proofs.decl_rules.judge_root.Goals as goal

pub returns : goal.returns
returns c = let e : (length c.args.boots.now == 0) ≡ false = sym c.is_empty.ensures ∙ c.if-is_empty.false in
    c.in_ok-judge_boots.ensures ∙ ap (least_of c.args.best.now) (root_some c.args.decls.now c.args.boots.now (get bytes_eq c.args.index.now) (names_of c.args.index.now c.args.decls.now c.requires) e)
