-- A running application: its component and what its fields hold.
use Rattle.std.specs.Prelude.{◌≡◌, List, [], codes, refl}
use Rattle.std.specs.Coded.{Coded, code_by, coded×, coded_list, coded_ℕ}
use Rattle.ng_values.specs.declared.value.Value.TheVariants as value
use Rattle.ng_values.specs.contracts.value.Value as value_row
use Rattle.ng_ast.specs.declared.App.{App}
use Rattle.ng_ast.specs.declared.Component.{Component}
use Rattle.ng_ast.specs.contracts.Component as component_row
use Rattle.ng_tree.specs.declared.PNode.{PNode}
use Rattle.ng_semantics.specs.Text.{Text}
use Rattle.ng_semantics.specs.Declared.{initial_fields}
use Rattle.ng_semantics.specs.Meaning.{World}
use Rattle.ng_semantics.specs.Tree.{State, settle, page}
use Rattle.ng_semantics.specs.Events.{On, Handled, handle}
use Rattle.ng_semantics.specs.First.{IsFirst, IsAlone, names_of}
use Rattle.ng_update.specs.declared.fields.Field.{Field}
use Rattle.ng_update.specs.Fields.{names_in}

pub record Running : Type 0 where
  pub component : Component
  pub world : World

-- it is stored as the pair of the two
abbrev pub running_code : Coded Running
running_code = code_by (Component × World) (coded× component_row.the_row.coded (coded_list (coded× (coded_list coded_ℕ) value_row.the_row.coded))) (λ r. (r.component, r.world)) (λ p. record { component = p.0; world = p.1 }) (λ _. refl)

-- The component has the first form, and the fields are those of its members.
pub record IsSound (c : Component) (fields : List Field) : Type 0 where
  pub first : IsFirst c
  pub named : names_in fields ≡ names_of c.members

-- the state in which the fields hold this, after a pass
abbrev pub shown : Running → State
shown r = settle r.component (record { world = r.world; tree = [] })

-- the page that is shown
abbrev pub page_of : Running → PNode
page_of r = page r.component (shown r)

-- what comes of a click on the first element of a tag
abbrev pub click_on : Running → Text → Handled
click_on r tag = handle r.component (shown r) (On (codes "click") tag 1 value.Null)

-- the application at its start
abbrev pub Starts : App → Running → Type 0
Starts app r = (c : Component) → IsAlone app c → r ≡ record { component = c; world = initial_fields c.members }
