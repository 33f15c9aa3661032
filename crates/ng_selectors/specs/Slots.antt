-- The slot that content goes to.
use Rattle.std.specs.Prelude.{ℕ, Bool, true, false, not, ◌&&◌, List, [], ◌∷◌, Option, Some, None, position}
use Rattle.std.specs.Option.{option_or}
use Rattle.ng_tokens.specs.Lexis.{Text}
use Rattle.ng_ast.specs.declared.One.{One}
use Rattle.ng_ast.specs.declared.SelPart.{SelPart}
use Rattle.ng_ast.specs.declared.Selector.{Selector}
use Rattle.ng_selectors.specs.declared.Attr.{Attr}
use Rattle.ng_selectors.specs.Fits.{fits}

-- nothing is said of the tag
abbrev pub no_tag : Option Text → Bool
no_tag None = true
no_tag (Some t) = false

-- nothing else is said
abbrev pub no_parts : List SelPart → Bool
no_parts [] = true
no_parts (p ∷ ps) = false

-- a single alternative, without tag and parts
abbrev pub is_star : List One → Bool
is_star (a ∷ []) = no_tag a.tag && no_parts a.parts
is_star _ = false

-- the selector of the default slot: `*` alone
abbrev pub is_default : Selector → Bool
is_default s = is_star s.list

-- the slot for what no other slot takes
abbrev pub default_slot : List Selector → Option ℕ
default_slot slots = position is_default slots

-- the first slot but the default whose selector fits
abbrev pub fitting_slot : List Selector → Text → List Attr → Option ℕ
fitting_slot slots tag attrs = position (λ s. not (is_default s) && fits s tag attrs) slots

-- the slot of an element: the first that fits, and otherwise the default
abbrev pub slot : List Selector → Text → List Attr → Option ℕ
slot slots tag attrs = option_or (fitting_slot slots tag attrs) (default_slot slots)
