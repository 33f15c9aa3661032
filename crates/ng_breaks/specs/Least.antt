-- The break that is answered: the least by the byte of its place and then by the number of its rule, and of several with that
-- pair the first of the list.
use Rattle.std.specs.Prelude.{ℕ, Bool, true, false, ◌&&◌, ◌||◌, if◌then◌else◌, ◌==◌, nat_lt, List, [], ◌∷◌, map, Option, Some, None}
use Rattle.ng_ast.specs.declared.Place.{Place}
use Rattle.ng_ast.specs.declared.refusals.Refusal.{Refusal}
use Rattle.ng_ast.specs.declared.refusals.Rule.{Rule}
use Rattle.ng_ast.specs.declared.refusals.Rule.TheVariants as rule
use Rattle.ng_parts.specs.declared.site.Site.{Site}
use Rattle.ng_parts.specs.Sites.{Name}

-- the number of a rule
abbrev pub number : Rule → ℕ
number rule.Syntax = 0
number rule.Limit = 0
number rule.N01 = 1
number rule.N02 = 2
number rule.N03 = 3
number rule.N04 = 4
number rule.N05 = 5
number rule.N06 = 6
number rule.N07 = 7
number rule.N08 = 8
number rule.N09 = 9
number rule.N10 = 10
number rule.N11 = 11
number rule.N12 = 12
number rule.N13 = 13
number rule.N14 = 14
number rule.N15 = 15
number rule.N16 = 16
number rule.N17 = 17
number rule.N18 = 18
number rule.N19 = 19
number rule.N20 = 20
number rule.N21 = 21
number rule.N22 = 22
number rule.N23 = 23
number rule.N24 = 24
number rule.N25 = 25
number rule.N26 = 26
number rule.N27 = 27
number rule.N28 = 28
number rule.N29 = 29
number rule.N30 = 30

-- whether a break comes before another
abbrev pub is_before : Refusal → Refusal → Bool
is_before a b = nat_lt a.place.byte b.place.byte || (a.place.byte == b.place.byte && nat_lt (number a.rule) (number b.rule))

-- whether a break comes before what was found
abbrev pub comes_first : Refusal → Option Refusal → Bool
comes_first b None = true
comes_first b (Some a) = is_before b a

-- the earlier of what was found and a break, and what was found where neither is before the other
abbrev pub earlier : Option Refusal → Refusal → Option Refusal
earlier best b = if comes_first b best then Some b else best

-- the least of what was found and of more
abbrev pub least_of : Option Refusal → List Refusal → Option Refusal
least_of best [] = best
least_of best (b ∷ bs) = least_of (earlier best b) bs

abbrev pub least : List Refusal → Option Refusal
least = least_of None

-- a break
abbrev pub refusal : Rule → Place → Name → Refusal
refusal r p n = record { rule = r; place = p; name = n }

-- the break of a rule, where it is broken
abbrev pub broken : Bool → Rule → Place → Name → List Refusal
broken true r p n = refusal r p n ∷ []
broken false r p n = []

-- the breaks of a rule at some sites
abbrev pub of_rule : Rule → List Site → List Refusal
of_rule r = map (λ s. refusal r s.place s.name)
