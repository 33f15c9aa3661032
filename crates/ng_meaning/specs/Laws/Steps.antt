-- What follows from an answer that steps gave.
use Rattle.std.specs.Prelude.{◌≡◌, Result, Ok, Err, refl}
use Rattle.ng_meaning.specs.Steps.{Steps, and_then, ◌>>=◌, pure}

module _ {S F A B : Type 0} where
  then_ok : (r : Result A F) (s : S) (f : A → Steps S F B) (b : B) → (and_then r s f).0 ≡ Ok b → (a : A) × (r ≡ Ok a) × ((f a s).0 ≡ Ok b)
  then_ok (Ok a) s f b e = (a, refl, e)
  then_ok (Err x) s f b e = cc

  -- where two steps gave an answer, the first one did, and the second one did from there
  pub bind_ok : (m : Steps S F A) (f : A → Steps S F B) (s : S) (b : B) → ((m >>= f) s).0 ≡ Ok b → (a : A) × ((m s).0 ≡ Ok a) × ((f a (m s).1).0 ≡ Ok b)
  bind_ok m f s b e = then_ok (m s).0 (m s).1 f b e

  -- a step of which the answer is changed
  pub map_ok : (m : Steps S F A) (g : A → B) (s : S) (b : B) → ((m >>= (λ a. pure (g a))) s).0 ≡ Ok b → (a : A) × ((m s).0 ≡ Ok a) × (b ≡ g a)
  map_ok m g s b e = let r = bind_ok m (λ a. pure (g a)) s b e in (r.0, r.1, cc)
