-- The order of values: by kind, in the order of the variants, and then by content.
use Rattle.std.specs.Prelude.{ℕ, List}
use Rattle.std.specs.Cmp.Lexicographic.{slice_cmp}
use Rattle.std.specs.Ordering.{bool_cmp, int_cmp, nat_cmp, ordering_then}
use Rattle.std.specs.declared.cmp.Ordering.{Ordering}
use Rattle.std.specs.declared.cmp.Ordering.TheVariants.{Equal}
use Rattle.ng_values.specs.declared.plain.Plain.{Plain, out-Plain}
use Rattle.ng_values.specs.declared.plain.Plain.TheOpen.{Plain-F}
use Rattle.ng_values.specs.declared.value.Value.{Value}
use Rattle.ng_values.specs.declared.value.Value.TheVariants as v
use Rattle.ng_values.specs.Folded.{folded}
use Rattle.ng_values.specs.View.{layer}

-- the place of a kind among the six
abbrev pub rank : {A : Type 0} → Plain-F A → ℕ
rank Plain-F.Null = 0
rank (Plain-F.Bool b) = 1
rank (Plain-F.Int z) = 2
rank (Plain-F.Text t) = 3
rank (Plain-F.List ds) = 4
rank (Plain-F.Rec ps) = 5

-- the contents of two values of one kind, with what is inside the first as its order against another: false before true, numbers by size,
-- texts by bytes, lists item by item, records pair by pair with the key before the value, and what ends first before what goes on
abbrev pub content : Plain-F (Plain → Ordering) → Plain-F Plain → Ordering
content (Plain-F.Bool a) (Plain-F.Bool b) = bool_cmp a b
content (Plain-F.Int x) (Plain-F.Int y) = int_cmp x y
content (Plain-F.Text s) (Plain-F.Text t) = slice_cmp nat_cmp s t
content (Plain-F.List fs) (Plain-F.List ds) = slice_cmp (λ f d. f d) fs ds
content (Plain-F.Rec fs) (Plain-F.Rec ps) = slice_cmp (λ f p. ordering_then (slice_cmp nat_cmp f.0 p.0) (f.1 p.1)) fs ps
content _ _ = Equal

-- one level of two values
abbrev pub order_layer : Plain-F (Plain → Ordering) → Plain-F Plain → Ordering
order_layer l m = ordering_then (nat_cmp (rank l) (rank m)) (content l m)

-- one level of a value against a value
abbrev pub order_step : Plain-F (Plain → Ordering) → Plain → Ordering
order_step l d = order_layer l (out-Plain d)

-- the order of two values
abbrev pub order : Plain → Plain → Ordering
order = folded (λ d. Equal) order_step

-- the order of two pairs
abbrev pub order_pair : List ℕ × Plain → List ℕ × Plain → Ordering
order_pair p q = ordering_then (slice_cmp nat_cmp p.0 q.0) (order p.1 q.1)

-- the place of a value's kind
abbrev pub rank_of : Value → ℕ
rank_of w = rank (layer w)

-- the contents of two values of one kind
abbrev pub content_of : Value → Value → Ordering
content_of (v.Bool a) (v.Bool b) = bool_cmp a b
content_of (v.Int x) (v.Int y) = int_cmp x y
content_of (v.Text s) (v.Text t) = slice_cmp nat_cmp s t
content_of (v.List ds) (v.List es) = slice_cmp order ds es
content_of (v.Rec ps) (v.Rec qs) = slice_cmp order_pair ps qs
content_of _ _ = Equal
