-- The equations of `json`.
use Rattle.std.proofs.Common.{◌≡◌, ℕ, ℤ, Bool, List, [], ◌∷◌, ◌++◌, map, codes, if◌then◌else◌, ap, ◌∙◌}
use Rattle.std.specs.Fmt.{signed_decimal}
use Rattle.std.proofs.lemmas.Simd.{map-map}
use Rattle.ng_values.specs.declared.plain.Plain.{Plain, roll-Plain}
use Rattle.ng_values.specs.declared.plain.Plain.TheOpen.{Plain-F}
use Rattle.ng_values.specs.Folded.{folded-roll}
use Rattle.ng_values.specs.Text.{with_commas}
use Rattle.ng_values.specs.Json.{json, json_step, json_text, json_pair}

pub json-Null : json (roll-Plain Plain-F.Null) ≡ codes "null"
json-Null = folded-roll [] json_step Plain-F.Null

pub json-Bool : (b : Bool) → json (roll-Plain (Plain-F.Bool b)) ≡ (if b then codes "true" else codes "false")
json-Bool b = folded-roll [] json_step (Plain-F.Bool b)

pub json-Int : (z : ℤ) → json (roll-Plain (Plain-F.Int z)) ≡ signed_decimal z
json-Int z = folded-roll [] json_step (Plain-F.Int z)

pub json-Text : (t : List ℕ) → json (roll-Plain (Plain-F.Text t)) ≡ json_text t
json-Text t = folded-roll [] json_step (Plain-F.Text t)

pub json-List : (vs : List Plain) → json (roll-Plain (Plain-F.List vs)) ≡ 91 ∷ with_commas (map json vs) ++ 93 ∷ []
json-List vs = folded-roll [] json_step (Plain-F.List vs)

pub json-Rec : (ps : List (List ℕ × Plain)) → json (roll-Plain (Plain-F.Rec ps)) ≡ 123 ∷ with_commas (map json_pair ps) ++ 125 ∷ []
json-Rec ps =
    folded-roll [] json_step (Plain-F.Rec ps)
    ∙ ap (λ ts. 123 ∷ with_commas ts ++ 125 ∷ []) (map-map (λ (q : List ℕ × List ℕ). json_text q.0 ++ 58 ∷ q.1) (λ (q : List ℕ × Plain). (q.0, json q.1)) ps)

pub ruleset jsons = (json-Null, json-Bool, json-Int, json-Text, json-List, json-Rec)
