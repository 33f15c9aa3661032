-- A few selectors, computed.
use Rattle.std.specs.Prelude.{◌≡◌, true, List, [], ◌∷◌, codes, Some, None, refl}
use Rattle.ng_ast.specs.declared.One.{One}
use Rattle.ng_ast.specs.declared.SelPart.{SelPart}
use Rattle.ng_ast.specs.declared.SelPart.TheVariants as kind
use Rattle.ng_ast.specs.declared.Selector.{Selector}
use Rattle.ng_selectors.specs.declared.Attr.{Attr}
use Rattle.ng_tokens.specs.Lexis.{Text}
use Rattle.ng_selectors.specs.Parse.{selector_of, alternatives, alternative, negation, one, parts, part}
use Rattle.ng_selectors.specs.Fits.{fits, one_fits}
use Rattle.ng_selectors.specs.Slots.{slot}

bare : List SelPart → One
bare ps = record { tag = None; parts = ps }

class_attr : Text → Attr
class_attr v = record { name = codes "class"; value = v }

only : One → Selector
only a = record { list = a ∷ [] }

reads_a_list : selector_of (codes "a.b , *") ≡ Some (record { list = record { tag = Some (codes "a"); parts = kind.Class (codes "b") ∷ [] } ∷ bare [] ∷ [] })
unfolding selector_of alternatives alternative negation one parts part bare
reads_a_list = refl

reads_parts : selector_of (codes "[x='q r'][y=z]:not(.c)") ≡ Some (only (bare (kind.Is (codes "x") (codes "q r") ∷ kind.Is (codes "y") (codes "z") ∷ kind.Not (bare (kind.Class (codes "c") ∷ [])) ∷ [])))
unfolding selector_of alternatives alternative negation one parts part bare only
reads_parts = refl

refuses_blanks : selector_of (codes " a") ≡ None
unfolding selector_of alternatives alternative negation one parts part
refuses_blanks = refl

refuses_star_and_class : selector_of (codes "*.c") ≡ None
unfolding selector_of alternatives alternative negation one parts part
refuses_star_and_class = refl

no_part_of_a_word : fits (only (bare (kind.Not (bare (kind.Class (codes "b") ∷ [])) ∷ []))) (codes "q") (class_attr (codes "a b-c") ∷ []) ≡ true
unfolding
    fits one_fits bare only class_attr Rattle.ng_ast.specs.declared.SelPart.TheViews.out-SelPart Rattle.ng_ast.specs.declared.SelPart.TheViews.roll-SelPart Rattle.ng_ast.specs.declared.SelPart.TheBlock.the_depth
    Rattle.ng_ast.specs.declared.SelPart.TheBlock.hidden-the_row-One-1 Rattle.ng_ast.specs.declared.SelPart.TheBlock.shown-the_row-One-1
    denote.Hole.Carrier.out denote.Hole.Carrier.roll denote.Hole.Carrier.fold denote.Hole.Carrier.hidden denote.Hole.Carrier.shown denote.Hole.Rolled.depth
no_part_of_a_word = refl

the_first_that_fits : slot (only (bare []) ∷ only (record { tag = Some (codes "p"); parts = [] }) ∷ only (bare (kind.Class (codes "a") ∷ [])) ∷ []) (codes "q") (class_attr (codes "a") ∷ []) ≡ Some 2
unfolding
    fits one_fits bare only class_attr Rattle.ng_ast.specs.declared.SelPart.TheViews.out-SelPart Rattle.ng_ast.specs.declared.SelPart.TheViews.roll-SelPart Rattle.ng_ast.specs.declared.SelPart.TheBlock.the_depth
    Rattle.ng_ast.specs.declared.SelPart.TheBlock.hidden-the_row-One-1 Rattle.ng_ast.specs.declared.SelPart.TheBlock.shown-the_row-One-1
    denote.Hole.Carrier.out denote.Hole.Carrier.roll denote.Hole.Carrier.fold denote.Hole.Carrier.hidden denote.Hole.Carrier.shown denote.Hole.Rolled.depth
the_first_that_fits = refl
