-- The first of some places: the one with the least byte, and of several with that byte the first of the list.
use Rattle.std.specs.Prelude.{Bool, true, false, nat_lt, if◌then◌else◌, List, [], ◌∷◌, Option, Some, None}
use Rattle.ng_ast.specs.declared.Place.{Place}

-- whether a place comes before what was found
abbrev pub comes_first : Place → Option Place → Bool
comes_first p None = true
comes_first p (Some q) = nat_lt p.byte q.byte

-- the earlier of what was found and a place
abbrev pub earlier : Option Place → Place → Option Place
earlier best p = if comes_first p best then Some p else best

-- the least of what was found and of more
abbrev pub least_of : Option Place → List Place → Option Place
least_of best [] = best
least_of best (p ∷ ps) = least_of (earlier best p) ps

abbrev pub least : List Place → Option Place
least = least_of None

-- the place, if it is wanted
abbrev pub when : Bool → Place → List Place
when true p = p ∷ []
when false p = []
