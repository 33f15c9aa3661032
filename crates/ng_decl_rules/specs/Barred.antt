-- The flags of an `inject` that can't stand any more, read from left to right.
use Rattle.std.specs.Prelude.{Bool, false, ◌||◌, List, [], ◌∷◌, ◌++◌}
use Rattle.ng_ast.specs.declared.Place.{Place}
use Rattle.ng_ast.specs.declared.Flag.{Flag}
use Rattle.ng_ast.specs.declared.Flag.TheVariants as flag
use Rattle.ng_ast.specs.declared.refusals.Refusal.{Refusal}
use Rattle.ng_ast.specs.declared.refusals.Rule.TheVariants as rule
use Rattle.ng_breaks.specs.Least.{broken}
use Rattle.ng_decl_rules.specs.declared.member_rules.Barred.{Barred}
use Rattle.ng_decl_rules.specs.MemberRules.{flag_word, clashes}

-- whether a flag can't stand any more
abbrev pub bars : Barred → Flag → Bool
bars b flag.Optional = b.optional
bars b flag.Own = b.own
bars b flag.Skip = b.skip
bars b flag.Host = b.host

abbrev pub none_barred : Barred
none_barred = record { optional = false; own = false; skip = false; host = false }

-- those after one flag more
abbrev pub barred_after : Barred → Flag → Barred
barred_after b f = record {
  optional = b.optional || clashes f flag.Optional;
  own = b.own || clashes f flag.Own;
  skip = b.skip || clashes f flag.Skip;
  host = b.host || clashes f flag.Host;
}

-- the breaks of the flags that follow
abbrev pub flags_from : Barred → Place → List Flag → List Refusal
flags_from b p [] = []
flags_from b p (f ∷ fs) = broken (bars b f) rule.N21 p (flag_word f) ++ flags_from (barred_after b f) p fs
