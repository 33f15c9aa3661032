-- What is known of the items of a constant while it is read: that they are within the limits, and how much they weigh.
use Rattle.std.specs.Prelude.{◌≡◌, ℕ, Bool, true, false, List, [], map}
use Rattle.ng_values.specs.declared.plain.Plain.{Plain}
use Rattle.ng_values.specs.declared.value.Value.{Value}
use Rattle.ng_values.specs.Make.{put_all}
use Rattle.ng_values.specs.Measure.{list_weight, rec_weight, pair_weight}
use Rattle.ng_values.specs.View.{plain_items, plain_pairs}
use Rattle.ng_tokens.specs.Lexis.{Text}
use Rattle.ng_declare.specs.declared.halt.Halt.{Halt}
use Rattle.ng_declare.specs.declared.halt.Halt.TheVariants as h
use Rattle.ng_declare.specs.Constants.{fits_list, fits_rec}

-- a key with the weight of its pair
abbrev pub measure : List ℕ × Plain → List ℕ × ℕ
measure q = (q.0, pair_weight q)

-- the keys of a record of these, each with the weight of its pair
abbrev pub measures : List (Text × Value) → List (List ℕ × ℕ)
measures ps = map measure (put_all [] (plain_pairs ps))

pub record ItemsWeigh (items : List Value) (weight : ℕ) : Type 0 where
  pub fits : fits_list items ≡ true
  pub weighs : weight ≡ list_weight (plain_items items)

pub record PairsWeigh (pairs : List (Text × Value)) (weights : List (List ℕ × ℕ)) (weight : ℕ) : Type 0 where
  pub fits : fits_rec pairs ≡ true
  pub kept : weights ≡ measures pairs
  pub weighs : weight ≡ rec_weight (put_all [] (plain_pairs pairs))

-- a refusal where a test fails, or want of memory
abbrev pub Fits : Bool → Halt → Type 0
Fits fits (h.Limit p) = fits ≡ false
Fits fits h.Memory = Unit {0}
Fits fits _ = ⊥
