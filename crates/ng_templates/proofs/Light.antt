-- No builder reads a heavy part.
use Rattle.std.proofs.Common.{◌≡◌, ℕ, [], ◌∷◌, ◌++◌, length, refl, ap}
use Rattle.std.specs.Prelude.{true, false, nat_lt, Result, Ok, Err}
use Rattle.ng_lex.specs.declared.markup.Markup.TheVariants as m
use Rattle.ng_lex.specs.declared.markup.Part.{Part}
use Rattle.ng_lex.specs.declared.markup.Shape.{Shape}
use Rattle.ng_nodes.specs.declared.builder.Builder.{Builder}
use Rattle.ng_nodes.specs.declared.state.State.{State}
use Rattle.ng_nodes.specs.Texts.{Parts}
use Rattle.ng_nodes.specs.Limits.{is_heavy}
use Rattle.ng_nodes.specs.Machine.{Stop, and_then, arrive, checked, step, begin, after}
use Rattle.ng_nodes.specs.Reading.{HasRead}
use Rattle.ng_nodes.proofs.Limited.{read_light}

last_stuck : (d n : ℕ) (t : Part) (st last : State) → is_heavy t.markup ≡ true → and_then (step d n st t) (λ next. after d n next []) ≡ Ok last → ⊥
unfolding step
last_stuck d n t st last heavy e = by (arrive (nat_lt (length st.outer) d) t.markup t.place st) refl e
  where
    by : (r : Result State Stop) → arrive (nat_lt (length st.outer) d) t.markup t.place st ≡ r → and_then (and_then r (checked n)) (λ next. after d n next []) ≡ Ok last → ⊥
    by (Ok next) f g = let light : is_heavy t.markup ≡ false = read_light (nat_lt (length st.outer) d) t.markup t.place st next f in cc
    by (Err s) f g = cc

first_stuck : (d n : ℕ) (more : Parts) (last : State) → ((next : State) → after d n next more ≡ Ok last → ⊥) → (r : Result State Stop) → and_then r (λ next. after d n next more) ≡ Ok last → ⊥
first_stuck d n more last stuck (Ok next) e = stuck next e
first_stuck d n more last stuck (Err s) e = cc

stuck : (d n : ℕ) (front : Parts) (t : Part) (st last : State) → is_heavy t.markup ≡ true → after d n st (front ++ t ∷ []) ≡ Ok last → ⊥
unfolding after
stuck d n [] t st last heavy e = last_stuck d n t st last heavy e
stuck d n (u ∷ front) t st last heavy e = first_stuck d n (front ++ t ∷ []) last (λ next f. stuck d n front t next last heavy f) (step d n st u) e

pub heavy_unread : (front : Parts) (t : Part) (b : Builder) (shape : Shape) → t.markup ≡ m.Heavy shape → HasRead (front ++ t ∷ []) b → ⊥
heavy_unread front t b shape is read = stuck 32 4096 front t begin b.state (ap is_heavy is) read
