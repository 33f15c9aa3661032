use Rattle.std.proofs.Common.{◌∙◌, ap, arith, sym}
use Rattle.std.proofs.lemmas.List.{at_drop_all}
use Rattle.ng_breaks.specs.Least.{least_of}
use Rattle.ng_decl_rules.specs.Barred.{flags_from}
use Rattle.ng_decl_rules.proofs.Flags.{flags_law}
use Rattle.ng_decl_rules.proofs.member_rules.judge_flags.Goals as goal

pub returns : goal.returns
returns c =
    sym (at_drop_all (λ fs. least_of c.loop-flag.best (flags_from c.loop-flag.barred c.args.place fs)) c.args.flags.now c.loop-flag.flag-index (omega arith))
    ∙ c.loop-flag.invariant ∙ ap (least_of c.args.best.now) (sym (flags_law c.args.place c.args.flags.now))
