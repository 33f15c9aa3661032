-- Four truth values say what all flags before say.
use Rattle.std.proofs.Common.{◌≡◌, refl, sym, ◌∙◌, ap, Bool, true, false, ◌||◌, List, [], ◌∷◌, ◌++◌}
use Rattle.std.proofs.lemmas.List.Folds.{list_any-append}
use Rattle.std.specs.List.{list_any}
use Rattle.ng_ast.specs.declared.Place.{Place}
use Rattle.ng_ast.specs.declared.Flag.{Flag}
use Rattle.ng_ast.specs.declared.Flag.TheVariants as flag
use Rattle.ng_ast.specs.declared.refusals.Rule.TheVariants as rule
use Rattle.ng_breaks.specs.Least.{broken}
use Rattle.ng_decl_rules.specs.declared.member_rules.Barred.{Barred}
use Rattle.ng_decl_rules.specs.MemberRules.{flag_word, clashes, flags_after}
use Rattle.ng_decl_rules.specs.Barred.{bars, none_barred, barred_after, flags_from}

or_false : (a : Bool) → (a || false) ≡ a
or_false true = refl
or_false false = refl

none_bars : (g : Flag) → bars none_barred g ≡ false
none_bars flag.Optional = refl
none_bars flag.Own = refl
none_bars flag.Skip = refl
none_bars flag.Host = refl

bars_after : (b : Barred) (f g : Flag) → bars (barred_after b f) g ≡ (bars b g || clashes f g)
bars_after b f flag.Optional = refl
bars_after b f flag.Own = refl
bars_after b f flag.Skip = refl
bars_after b f flag.Host = refl

any_more : (p : Flag → Bool) (before : List Flag) (f : Flag) → list_any p (before ++ f ∷ []) ≡ (list_any p before || p f)
any_more p before f = list_any-append p before (f ∷ []) ∙ ap (λ t. list_any p before || t) (or_false (p f))

flags_same : (before : List Flag) (b : Barred) (p : Place) (fs : List Flag) → ((g : Flag) → bars b g ≡ list_any (λ e. clashes e g) before)
    → flags_after before p fs ≡ flags_from b p fs
flags_same before b p [] h = refl
flags_same before b p (f ∷ fs) h =
    ap (λ t. broken t rule.N21 p (flag_word f) ++ flags_after (before ++ f ∷ []) p fs) (sym (h f))
    ∙ ap (λ r. broken (bars b f) rule.N21 p (flag_word f) ++ r)
    (flags_same (before ++ f ∷ []) (barred_after b f) p fs (λ g. bars_after b f g ∙ ap (λ t. t || clashes f g) (h g) ∙ sym (any_more (λ e. clashes e g) before f)))

-- the breaks of flags with none before them
pub flags_law : (p : Place) (fs : List Flag) → flags_after [] p fs ≡ flags_from none_barred p fs
flags_law p fs = flags_same [] none_barred p fs none_bars
