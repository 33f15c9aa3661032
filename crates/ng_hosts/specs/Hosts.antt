-- The components that an element of a template matches.
use Rattle.std.specs.Prelude.{ℕ, ◌+◌, Bool, true, false, ◌||◌, if◌then◌else◌, bytes_eq, codes, List, [], ◌∷◌, ◌++◌, filter}
use Rattle.std.specs.List.{flat_map}
use Rattle.ng_ast.specs.declared.AttrForm.{AttrForm}
use Rattle.ng_ast.specs.declared.AttrForm.TheVariants as form
use Rattle.ng_ast.specs.declared.TAttr.{TAttr}
use Rattle.ng_ast.specs.declared.Component.{Component}
use Rattle.ng_ast.specs.declared.Decl.{Decl}
use Rattle.ng_ast.specs.declared.Decl.TheVariants as decl
use Rattle.ng_selectors.specs.declared.Attr.{Attr}
use Rattle.ng_selectors.specs.Fits.{fits}

-- a name, as its bytes
abbrev pub Name : Type 0
Name = List ℕ

abbrev pub component_in : Decl → List Component
component_in (decl.Component c) = c ∷ []
component_in (decl.Service s) = []
component_in (decl.Pipe p) = []
component_in (decl.Environment e) = []
component_in (decl.Token p n) = []
component_in (decl.Bootstrap p n env) = []

-- the components of an application, in the order of the file
abbrev pub components : List Decl → List Component
components = flat_map component_in

-- the three tags that are never a component's host
abbrev pub is_reserved : Name → Bool
is_reserved tag = bytes_eq tag (codes "ng-content") || (bytes_eq tag (codes "ng-container") || bytes_eq tag (codes "ng-template"))

-- the name of the event of `[(x)]`
abbrev pub change_of : Name → Name
change_of x = x ++ codes "Change"

abbrev pub counted : Name → Name → Attr
counted n v = record { name = n; value = v }

-- The attributes that selectors see: static ones with their values, and the names of interpolated, property and two-way bindings and
-- of listeners with the empty value.
abbrev pub seen_form : Name → AttrForm → List Attr
seen_form n (form.Static v) = counted n v ∷ []
seen_form n (form.Joined pieces) = counted n [] ∷ []
seen_form n (form.Property e) = counted n [] ∷ []
seen_form n (form.Listener stmts) = counted n [] ∷ []
seen_form n (form.Both y) = counted n [] ∷ counted (change_of n) [] ∷ []
seen_form n (form.Attribute e) = []
seen_form n (form.Class e) = []
seen_form n (form.Style unit e) = []
seen_form n form.Reference = []
seen_form n (form.Variable k) = []
seen_form n (form.Outlet o) = []
seen_form n (form.Context e) = []

abbrev pub seen_attrs : List TAttr → List Attr
seen_attrs = flat_map (λ a. seen_form a.name a.form)

-- the components whose selector an element matches, in the order of the file
abbrev pub hosts : List Component → Name → List TAttr → List Component
hosts cs tag attrs = if is_reserved tag then [] else filter (λ c. fits c.selector tag (seen_attrs attrs)) cs

-- the position, if it is wanted
abbrev pub when_at : Bool → ℕ → List ℕ
when_at true at = at ∷ []
when_at false at = []

-- the positions of the components of a kind, the first of which is at this position
abbrev pub positions : (Component → Bool) → ℕ → List Component → List ℕ
positions wanted at [] = []
positions wanted at (c ∷ cs) = when_at (wanted c) at ++ positions wanted (at + 1) cs

-- the same components by their positions, from 0
abbrev pub host_positions : List Component → Name → List TAttr → List ℕ
host_positions cs tag attrs = if is_reserved tag then [] else positions (λ c. fits c.selector tag (seen_attrs attrs)) 0 cs
