-- Names with their places, and lists of them.
use Rattle.std.specs.Prelude.{ℕ, Bool, true, false, bytes_eq, List, [], ◌∷◌, ◌++◌}
use Rattle.std.specs.List.{list_any}
use Rattle.ng_ast.specs.declared.Place.{Place}
use Rattle.ng_parts.specs.declared.site.Site.{Site}

-- a name, as its bytes
abbrev pub Name : Type 0
Name = List ℕ

abbrev pub site : Place → Name → Site
site p n = record { place = p; name = n }

-- the site, if it is wanted
abbrev pub when : Bool → Site → List Site
when true s = s ∷ []
when false s = []

abbrev pub is_among : List Name → Name → Bool
is_among names n = list_any (λ m. bytes_eq m n) names

-- those whose name is among the names before, or stands earlier in the list
abbrev pub repeats_after : List Name → List Site → List Site
repeats_after before [] = []
repeats_after before (s ∷ ss) = when (is_among before s.name) s ++ repeats_after (s.name ∷ before) ss

-- those whose name stands earlier in the list
abbrev pub repeats : List Site → List Site
repeats = repeats_after []
