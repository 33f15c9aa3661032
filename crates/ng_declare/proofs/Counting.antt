-- Counts of members and of declarations.
use Rattle.std.proofs.Common.{◌≡◌, ℕ, ◌+◌, ◌≤◌, true, false, cond, List, [], ◌∷◌, ◌++◌, length, refl, ◌∙◌, ap, arith, length-append}
use Rattle.std.proofs.lemmas.List.Sums.{sum_by_push}
use Rattle.std.specs.Prelude.{Bool, nat_le, nat_lt, count_by, ◌&&◌}
use Rattle.ng_declare.specs.declared.entries.Entry.{Entry}
use Rattle.ng_declare.specs.declared.entries.Entry.TheVariants as entry
use Rattle.ng_declare.specs.declared.limits.Counts.{Counts}
use Rattle.ng_declare.specs.Grammar.{is_component, is_service, is_pipe, is_environment, few_of_each}
use Rattle.ng_declare.specs.Members.{are_few as few_members}
use Rattle.ng_declare.specs.Counts.{counted, with_entry, IsSmall}

-- one member more is few where there are fewer than may be
pub few_more : {A : Type 0} (found : List A) (a : A) → nat_lt (length found) 256 ≡ few_members (found ++ a ∷ [])
few_more found a = same (length found) (length (found ++ a ∷ [])) (omega (arith, length-append found (a ∷ [])))
  where
    same : (n m : ℕ) → m ≡ n + 1 → nat_lt n 256 ≡ nat_le m 256
    same n m e = grind arith

-- a list with one more item that passes the test, or does not
count_yes : {A : Type 0} (p : A → Bool) (found : List A) (a : A) → p a ≡ true → count_by p (found ++ a ∷ []) ≡ count_by p found + 1
count_yes p found a e = sum_by_push (λ x. cond (p x) 1 0) found a ∙ ap (λ b. count_by p found + cond b 1 0) e

count_no : {A : Type 0} (p : A → Bool) (found : List A) (a : A) → p a ≡ false → count_by p (found ++ a ∷ []) ≡ count_by p found
count_no p found a e =
    let none : count_by p found + 0 ≡ count_by p found = omega arith in
    sum_by_push (λ x. cond (p x) 1 0) found a ∙ ap (λ b. count_by p found + cond b 1 0) e ∙ none

same_counts : (c d : Counts) → c.components ≡ d.components → c.services ≡ d.services → c.pipes ≡ d.pipes → c.environments ≡ d.environments → c ≡ d
same_counts c d e f g h = λ i. record { components = e i; services = f i; pipes = g i; environments = h i }

pub counted-push : (found : List Entry) (e : Entry) → counted (found ++ e ∷ []) ≡ with_entry (counted found) e
counted-push found (entry.Component c) =
    let e : Entry = entry.Component c in
    same_counts (counted (found ++ e ∷ [])) (with_entry (counted found) e) (count_yes is_component found e refl) (count_no is_service found e refl) (count_no is_pipe found e refl) (count_no is_environment found e refl)
counted-push found (entry.Service c) =
    let e : Entry = entry.Service c in
    same_counts (counted (found ++ e ∷ [])) (with_entry (counted found) e) (count_no is_component found e refl) (count_yes is_service found e refl) (count_no is_pipe found e refl) (count_no is_environment found e refl)
counted-push found (entry.Pipe c) =
    let e : Entry = entry.Pipe c in
    same_counts (counted (found ++ e ∷ [])) (with_entry (counted found) e) (count_no is_component found e refl) (count_no is_service found e refl) (count_yes is_pipe found e refl) (count_no is_environment found e refl)
counted-push found (entry.Environment c) =
    let e : Entry = entry.Environment c in
    same_counts (counted (found ++ e ∷ [])) (with_entry (counted found) e) (count_no is_component found e refl) (count_no is_service found e refl) (count_no is_pipe found e refl) (count_yes is_environment found e refl)
counted-push found (entry.Token p n) =
    let e : Entry = entry.Token p n in
    same_counts (counted (found ++ e ∷ [])) (counted found) (count_no is_component found e refl) (count_no is_service found e refl) (count_no is_pipe found e refl) (count_no is_environment found e refl)
counted-push found (entry.Bootstrap p n o) =
    let e : Entry = entry.Bootstrap p n o in
    same_counts (counted (found ++ e ∷ [])) (counted found) (count_no is_component found e refl) (count_no is_service found e refl) (count_no is_pipe found e refl) (count_no is_environment found e refl)

-- where there are few of each, the counts are small
pub small_counts : (found : List Entry) → few_of_each found ≡ true → IsSmall (counted found)
small_counts found e = small (count_by is_component found) (count_by is_service found) (count_by is_pipe found) (count_by is_environment found) e
  where
    small : (a b c d : ℕ) → (nat_le a 256 && nat_le b 256 && nat_le c 256 && nat_le d 256) ≡ true → (a ≤ 256) × (b ≤ 256) × (c ≤ 256) × (d ≤ 256)
    small a b c d e = grind arith
