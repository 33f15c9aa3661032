-- The least place, with one item of a list more.
use Rattle.std.proofs.Common.{◌≡◌, ℕ, ◌+◌, ◌<◌, List, [], ◌∷◌, ◌++◌, append-nil, length, map, take, drop, get_or, sym, ◌∙◌, ap, Option}
use Rattle.std.specs.Prelude.{Bool, ◌||◌}
use Rattle.std.specs.List.{flat_map}
use Rattle.std.proofs.lemmas.List.{take_more, at_drop_more, map-append}
use Rattle.std.proofs.lemmas.Grind.{flat_map-append}
use Rattle.ng_ast.specs.declared.Place.{Place}
use Rattle.ng_ast.specs.declared.Decl.{Decl}
use Rattle.ng_ast.specs.declared.TAttr.{TAttr}
use Rattle.ng_unbuilt.specs.Least.{earlier, least_of}
use Rattle.ng_unbuilt.specs.LeastLaws.{least_of-append}
use Rattle.ng_unbuilt.specs.Forms.{is_component, decl_forms, forms_after}

flat_map_next : {A B : Type 0} (f : A → List B) (xs : List A) (i : ℕ) (x : A) → i < length xs → x ≡ get_or xs i x → flat_map f (take i xs) ++ f x ≡ flat_map f (take (i + 1) xs)
flat_map_next f xs i x small is =
    ap (λ r. flat_map f (take i xs) ++ r) (sym (append-nil (f x))) ∙ sym (flat_map-append f (take i xs) (x ∷ []))
    ∙ ap (λ y. flat_map f (take i xs ++ y ∷ [])) is ∙ ap (flat_map f) (sym (take_more xs i x small))

pub least_next : {A : Type 0} (f : A → List Place) (xs : List A) (i : ℕ) (x : A) (first best new : Option Place) → i < length xs → x ≡ get_or xs i x
    → best ≡ least_of first (flat_map f (take i xs)) → new ≡ least_of best (f x) → new ≡ least_of first (flat_map f (take (i + 1) xs))
least_next f xs i x first best new small is so_far now =
    now ∙ ap (λ b. least_of b (f x)) so_far ∙ sym (least_of-append first (flat_map f (take i xs)) (f x)) ∙ ap (least_of first) (flat_map_next f xs i x small is)

-- the same, where each item has items
pub least_next_of : {A B : Type 0} (f : B → List Place) (g : A → List B) (xs : List A) (i : ℕ) (x : A) (first best new : Option Place) → i < length xs → x ≡ get_or xs i x
    → best ≡ least_of first (flat_map f (flat_map g (take i xs))) → new ≡ least_of best (flat_map f (g x)) → new ≡ least_of first (flat_map f (flat_map g (take (i + 1) xs)))
least_next_of f g xs i x first best new small is so_far now =
    now ∙ ap (λ b. least_of b (flat_map f (g x))) so_far ∙ sym (least_of-append first (flat_map f (flat_map g (take i xs))) (flat_map f (g x)))
    ∙ ap (least_of first) (sym (flat_map-append f (flat_map g (take i xs)) (g x))) ∙ ap (λ ys. least_of first (flat_map f ys)) (flat_map_next g xs i x small is)

pub place_next : (xs : List TAttr) (i : ℕ) (x : TAttr) (first best new : Option Place) → i < length xs → x ≡ get_or xs i x
    → best ≡ least_of first (map (λ a. a.place) (take i xs)) → new ≡ earlier best x.place → new ≡ least_of first (map (λ a. a.place) (take (i + 1) xs))
place_next xs i x first best new small is so_far now =
    let place : TAttr → Place = λ a. a.place in
    now ∙ ap (λ b. earlier b x.place) so_far ∙ sym (least_of-append first (map place (take i xs)) (x.place ∷ []))
    ∙ ap (least_of first) (sym (map-append place (take i xs) (x ∷ [])) ∙ ap (λ y. map place (take i xs ++ y ∷ [])) is ∙ ap (map place) (sym (take_more xs i x small)))

-- one declaration more
pub decl_next : (ds : List Decl) (i : ℕ) (d : Decl) (seen : Bool) (all best new : Option Place) → i < length ds → d ≡ get_or ds i d
    → all ≡ least_of best (forms_after seen (drop i ds)) → new ≡ least_of best (decl_forms seen d) → all ≡ least_of new (forms_after (seen || is_component d) (drop (i + 1) ds))
decl_next ds i d seen all best new small is so_far now =
    so_far ∙ ap (least_of best) (at_drop_more (forms_after seen) ds i d small ∙ ap (λ x. forms_after seen (x ∷ drop (i + 1) ds)) (sym is))
    ∙ least_of-append best (decl_forms seen d) (forms_after (seen || is_component d) (drop (i + 1) ds)) ∙ ap (λ b. least_of b (forms_after (seen || is_component d) (drop (i + 1) ds))) (sym now)
