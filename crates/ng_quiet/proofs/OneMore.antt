-- What comes of one part more of a list.
use Rattle.std.proofs.Common.{◌≡◌, refl, sym, ◌∙◌, ap, ℕ, ◌+◌, ◌<◌, List, [], ◌∷◌, ◌++◌, append-nil, length, map, take, get_or}
use Rattle.std.proofs.lemmas.List.{take_more, map-append}
use Rattle.std.proofs.lemmas.Grind.{flat_map-append}
use Rattle.std.specs.Borrow.{Bor}
use Rattle.std.specs.List.{flat_map}

-- a list with what comes of one part more
pub joined_more : {A B : Type 0} (f : A → List B) (xs : List A) (i : ℕ) (x : A) (old new : List B) → i < length xs → x ≡ get_or xs i x → old ≡ flat_map f (take i xs) → new ≡ old ++ f x
    → new ≡ flat_map f (take (i + 1) xs)
joined_more f xs i x old new small is so_far pushed =
    pushed ∙ ap (λ l. l ++ f x) so_far ∙ ap (λ l. flat_map f (take i xs) ++ l) (sym (append-nil (f x))) ∙ sym (flat_map-append f (take i xs) (x ∷ []))
    ∙ ap (λ z. flat_map f (take i xs ++ z ∷ [])) is ∙ ap (flat_map f) (sym (take_more xs i x small))

-- a list with the image of one part more
pub mapped_more : {A B : Type 0} (f : A → B) (xs : List A) (i : ℕ) (x : A) (y : B) (old new : List B) → i < length xs → x ≡ get_or xs i x → old ≡ map f (take i xs) → new ≡ old ++ y ∷ [] → y ≡ f x
    → new ≡ map f (take (i + 1) xs)
mapped_more f xs i x y old new small is so_far pushed image =
    pushed ∙ ap (λ z. old ++ z ∷ []) image ∙ ap (λ l. l ++ f x ∷ []) so_far ∙ sym (map-append f (take i xs) (x ∷ []))
    ∙ ap (λ z. map f (take i xs ++ z ∷ [])) is ∙ ap (map f) (sym (take_more xs i x small))

images : {A B C : Type 0} (g : B → C) (h : A → B) (xs : List A) → map g (map h xs) ≡ map (λ x. g (h x)) xs
images g h [] = refl
images g h (x ∷ xs) = ap (λ l. g (h x) ∷ l) (images g h xs)

-- the same of a list of references
pub pointed_more : {A B : Type 0} (g : A → B) (xs : List (Bor A)) (i : ℕ) (x : Bor A) (y : B) (old new : List B) → i < length xs → x ≡ get_or xs i x → old ≡ map g (map (λ r. r.now) (take i xs)) → new ≡ old ++ y ∷ [] → y ≡ g x.now
    → new ≡ map g (map (λ r. r.now) (take (i + 1) xs))
pointed_more g xs i x y old new small is so_far pushed image =
    mapped_more (λ r. g r.now) xs i x y old new small is (so_far ∙ images g (λ r. r.now) (take i xs)) pushed image ∙ sym (images g (λ r. r.now) (take (i + 1) xs))
