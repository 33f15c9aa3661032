-- What an application holds: the state of each live instance and service.
use Rattle.std.specs.Prelude.{Bool, true, false, ◌&&◌, List, [], ◌∷◌, ◌++◌, Option, bytes_eq, is_some, option_and_then, unwrap_or}
use Rattle.std.specs.List.{list_any}
use Rattle.std.specs.Map.{lookup}
use Rattle.ng_values.specs.declared.value.Value.{Value}
use Rattle.ng_values.specs.declared.value.Value.TheVariants as val
use Rattle.ng_ast.specs.declared.Member.{Member}
use Rattle.ng_tree.specs.declared.Site.{Site}
use Rattle.ng_tree.specs.declared.Item.{Item}
use Rattle.ng_meaning.specs.Lists.{Text, look, change_at}
use Rattle.ng_meaning.specs.Declared.{initial_values}
use Rattle.ng_meaning.specs.Same.{same_site}

-- what an instance or a service holds: the members that it was declared with, the values of its fields, signals and inputs, and the items that
-- its `inject` members were given
pub record Held : Type 0 where
  pub members : List Member
  pub values : List (Text × Value)
  pub items : List (Text × Item)

-- what each live instance and service holds, in the order in which they were born
abbrev pub World : Type 0
World = List (Site × Held)

-- what a site holds, where it is live
abbrev pub held : World → Site → Option Held
held world at = lookup (same_site at) world

-- whether a site is live
abbrev pub is_live : World → Site → Bool
is_live world at = is_some (held world at)

-- the value of a field, a signal or an input
abbrev pub value_at : World → Site → Text → Option Value
value_at world at name = option_and_then (λ h. look name h.values) (held world at)

-- the same, and null where there is none
abbrev pub value_or_null : World → Site → Text → Value
value_or_null world at name = unwrap_or (value_at world at name) val.Null

-- the same site with another value of a field, a signal or an input
abbrev pub with_value : Text → Value → Held → Held
with_value name w h = record h { values = change_at (bytes_eq name) (λ _. w) h.values }

-- a value written
abbrev pub written : Site → Text → Value → World → World
written at name w = change_at (same_site at) (with_value name w)

-- the same site with one more injected item
abbrev pub with_item : Text → Item → Held → Held
with_item name i h = record h { items = h.items ++ (name, i) ∷ [] }

-- an item given to an `inject` member
abbrev pub given : Site → Text → Item → World → World
given at name i = change_at (same_site at) (with_item name i)

-- a site is born: its fields, signals and inputs have their initial values
abbrev pub born : Site → List Member → List (Text × Item) → World → World
born at ms items world = world ++ (at, record { members = ms; values = initial_values ms; items = items }) ∷ []

-- a signal that was read, with the value that it had
pub record Read : Type 0 where
  pub at : Site
  pub signal : Text
  pub value : Value

-- whether a signal is among those that were read
abbrev pub has_read : Site → Text → List Read → Bool
has_read at signal = list_any (λ r. bytes_eq signal r.signal && same_site at r.at)

-- the signals that were read, and then one more unless it is among them
abbrev pub add_read : Read → List Read → List Read
add_read r rs = elim (has_read r.at r.signal rs) [ true ↦ rs | false ↦ rs ++ r ∷ [] ]
