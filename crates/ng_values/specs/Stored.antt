-- Whether two stored forms are one, as a test.
use Rattle.std.specs.Prelude.{◌≡◌, Bool, true, false, ◌&&◌, nat_eq, refl}
use Rattle.std.specs.Bool.{Decides}
use Rattle.std.proofs.Common.{ap}
use Rattle.std.proofs.lemmas.Bool.Decides.{Decides-like, Decides-and, Decides-eqb}
use base.Stored.{Gv, gnil, gnum, gcons}

-- two stored forms
abbrev pub is_one : Gv → Gv → Bool
is_one gnil gnil = true
is_one (gnum m) (gnum n) = nat_eq m n
is_one (gcons a b) (gcons c d) = is_one a c && is_one b d
is_one _ _ = false

pub is_one_decides : (a b : Gv) → Decides (is_one a b) (a ≡ b)
is_one_decides gnil gnil = (λ h. refl, λ e. refl)
is_one_decides (gnum m) (gnum n) = Decides-like (nat_eq m n) (ap gnum) (λ (e : gnum m ≡ gnum n). cc) (Decides-eqb m n)
is_one_decides (gcons a b) (gcons c d) =
    Decides-like (is_one a c && is_one b d) (λ (p : (a ≡ c) × (b ≡ d)). cc) (λ (e : gcons a b ≡ gcons c d). (cc, cc)) (Decides-and (is_one a c) (is_one b d) (is_one_decides a c) (is_one_decides b d))
is_one_decides gnil (gnum n) = (λ h. cc, λ e. cc)
is_one_decides gnil (gcons c d) = (λ h. cc, λ e. cc)
is_one_decides (gnum m) gnil = (λ h. cc, λ e. cc)
is_one_decides (gnum m) (gcons c d) = (λ h. cc, λ e. cc)
is_one_decides (gcons a b) gnil = (λ h. cc, λ e. cc)
is_one_decides (gcons a b) (gnum n) = (λ h. cc, λ e. cc)
