-- The components at positions.
use Rattle.std.proofs.Common.{◌≡◌, refl, sym, ◌∙◌, ap, ℕ, ◌+◌, Bool, true, false, cond, List, [], ◌∷◌, ◌++◌, length, append_assoc, length-append, filter, arith}
use Rattle.std.specs.List.{flat_map}
use Rattle.ng_ast.specs.declared.TAttr.{TAttr}
use Rattle.ng_ast.specs.declared.Component.{Component}
use Rattle.ng_selectors.specs.Fits.{fits}
use Rattle.ng_hosts.specs.Hosts.{Name, seen_attrs, is_reserved, hosts, when_at, positions, host_positions}
use Rattle.ng_hosts.specs.Index.{component_at}

pub at_front : (front cs : List Component) (c : Component) → component_at (front ++ c ∷ cs) (length front) ≡ c ∷ []
at_front [] cs c = refl
at_front (d ∷ front) cs c = at_front front cs c

-- one component of those behind the front
step : (t : Bool) (whole : List Component) (c : Component) (at : ℕ) (later : List ℕ) (more : List Component) → component_at whole at ≡ c ∷ [] → flat_map (component_at whole) later ≡ more
    → flat_map (component_at whole) (when_at t at ++ later) ≡ cond t (c ∷ more) more
step true whole c at later more is rest = ap (λ l. l ++ flat_map (component_at whole) later) is ∙ ap (λ l. c ∷ l) rest
step false whole c at later more is rest = rest

-- the components of a kind, where those of the list stand behind these
found : (wanted : Component → Bool) (front cs : List Component) (at : ℕ) → at ≡ length front → flat_map (component_at (front ++ cs)) (positions wanted at cs) ≡ filter wanted cs
found wanted front [] at is = refl
found wanted front (c ∷ cs) at is =
    step (wanted c) (front ++ c ∷ cs) c at (positions wanted (at + 1) cs) (filter wanted cs) (ap (component_at (front ++ c ∷ cs)) is ∙ at_front front cs c)
    (ap (λ l. flat_map (component_at l) (positions wanted (at + 1) cs)) (sym (append_assoc front (c ∷ []) cs))
    ∙ found wanted (front ++ c ∷ []) cs (at + 1) (omega (arith, length-append front (c ∷ []))))

-- the components that an element matches stand at their positions
pub hosts_at : (cs : List Component) (tag : Name) (attrs : List TAttr) → flat_map (component_at cs) (host_positions cs tag attrs) ≡ hosts cs tag attrs
hosts_at cs tag attrs = by (is_reserved tag)
  where
    by : (t : Bool) → flat_map (component_at cs) (cond t [] (positions (λ c. fits c.selector tag (seen_attrs attrs)) 0 cs)) ≡ cond t [] (filter (λ c. fits c.selector tag (seen_attrs attrs)) cs)
    by true = refl
    by false = found (λ c. fits c.selector tag (seen_attrs attrs)) [] cs 0 refl
