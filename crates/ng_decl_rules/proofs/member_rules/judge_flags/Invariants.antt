use Rattle.std.proofs.Common.{◌≡◌, drop}
use Rattle.ng_breaks.specs.Least.{least_of}
use Rattle.ng_decl_rules.specs.Barred.{none_barred, flags_from}
use Rattle.ng_decl_rules.proofs.member_rules.judge_flags.Given as goal

abbrev pub invariant-loop-flag : goal.invariant-loop-flag
invariant-loop-flag l = least_of l.best (flags_from l.barred l.place (drop l.flag-index l.flags)) ≡ least_of l.initial.best (flags_from none_barred l.place l.flags)
