-- One level of what an outlet shows.
use Rattle.std.specs.Prelude.{◌≡◌, ℕ, ◌<◌, if◌then◌else◌, Option, None, refl}
use Rattle.std.proofs.Common.{ap, arith}
use Rattle.ng_values.specs.Kinds.{truth}
use Rattle.ng_ast.specs.declared.OutletForm.{OutletForm, out-OutletForm, roll-OutletForm, size-OutletForm}
use Rattle.ng_ast.specs.declared.OutletForm.TheOpen.{OutletForm-F}
use Rattle.ng_ast.specs.declared.OutletForm.TheVariants as outlet
use Rattle.ng_ast.specs.declared.OutletForm.TheViews.{roll-out-OutletForm, sized-Choose}
use Rattle.ng_meaning.specs.Steps.{◌>>=◌, pure}
use Rattle.ng_meaning.specs.Levels.{whole_is}
use Rattle.ng_meaning.specs.Expressions.{Scope, Meaning, mean_value, most_calls}
use Rattle.ng_meaning.specs.Places.{Outlines}
use Rattle.ng_meaning.specs.Bindings.{outlet_layer, outlet_shown}

outlet_alike : (os : Outlines) (f g : OutletForm → Scope → Meaning (Option ℕ)) (l : OutletForm-F OutletForm)
    → ((u : OutletForm) → size-OutletForm u < size-OutletForm (roll-OutletForm l) → f u ≡ g u) → outlet_layer os f l ≡ outlet_layer os g l
outlet_alike os f g (OutletForm-F.Choose p c a b) h =
    let d = h a (omega (arith, ap size-OutletForm (outlet.rolls-Choose p c a b), sized-Choose p c a b)) in
    let e = h b (omega (arith, ap size-OutletForm (outlet.rolls-Choose p c a b), sized-Choose p c a b)) in
    λ i s. mean_value most_calls s c >>= (λ w. if truth w then d i s else e i s)
outlet_alike os f g (OutletForm-F.Name p name) h = refl
outlet_alike os f g OutletForm-F.Null h = refl

-- An outlet shows one level over what its parts show.
pub outlet_is : (os : Outlines) (o : OutletForm) → outlet_shown os o ≡ outlet_layer os (outlet_shown os) (out-OutletForm o)
outlet_is os = whole_is out-OutletForm size-OutletForm (λ s. pure None) (outlet_layer os) (λ f g t h. outlet_alike os f g (out-OutletForm t) (λ u small. h u (omega (arith, ap size-OutletForm (roll-out-OutletForm t)))))
