-- Lists, from an index on.
use Rattle.std.proofs.Common.{◌≡◌, ℕ, zero, suc, ◌+◌, ◌<◌, ◌≤◌, List, [], ◌∷◌, ◌++◌, length, get_or, take, drop, Bool, IsTrue, Option, Some, None, refl, sym, ap, ◌∙◌, arith, add-one, drop-cons, append-nil}
use Rattle.std.specs.List.{filter_map, flat_map, list_all, cons_option}
use Rattle.std.proofs.lemmas.Bool.{and_parts}
use Rattle.std.proofs.lemmas.List.{take_more}
use Rattle.std.proofs.lemmas.List.Elements.{filter_map-append}
use Rattle.std.proofs.lemmas.Grind.{flat_map-append}
use Rattle.ng_semantics.specs.Text.{head_of}

module _ {X : Type 0} where
  pub drop_at : (xs : List X) (i : ℕ) (x : X) → i < length xs → x ≡ get_or xs i x → drop i xs ≡ x ∷ drop (i + 1) xs
  drop_at xs i x h is = rw add-one (drop-cons xs i x h ∙ ap (λ y. y ∷ drop (suc i) xs) (sym is))

  pub drop_end : (xs : List X) (i : ℕ) → length xs ≤ i → drop i xs ≡ []
  drop_end [] zero h = refl
  drop_end [] (suc i) h = refl
  drop_end (x ∷ xs) zero h = absurd (omega arith)
  drop_end (x ∷ xs) (suc i) h = drop_end xs i (omega arith)

  pub take_end : (xs : List X) (i : ℕ) → length xs ≤ i → take i xs ≡ xs
  take_end [] zero h = refl
  take_end [] (suc i) h = refl
  take_end (x ∷ xs) zero h = absurd (omega arith)
  take_end (x ∷ xs) (suc i) h = ap (λ ys. x ∷ ys) (take_end xs i (omega arith))

  -- a slice that is written whole
  pub whole : (new old : List X) (len : ℕ) → len ≡ length old → length new ≡ length old → take len (new ++ drop (length new) old) ≡ new
  whole new old len e h =
      ap (λ rest. take len (new ++ rest)) (drop_end old (length new) (omega arith)) ∙ ap (take len) (append-nil new) ∙ take_end new len (omega arith)

  all_get : (p : X → Bool) (xs : List X) (i : ℕ) (d : X) → IsTrue (list_all p xs) → i < length xs → IsTrue (p (get_or xs i d))
  all_get p [] i d all h = absurd (omega arith)
  all_get p (x ∷ xs) zero d all h = (and_parts (p x) (list_all p xs) all).0
  all_get p (x ∷ xs) (suc i) d all h = all_get p xs i d (and_parts (p x) (list_all p xs) all).1 (omega arith)

  pub all_at : (p : X → Bool) (xs : List X) (i : ℕ) (x : X) → IsTrue (list_all p xs) → i < length xs → x ≡ get_or xs i x → IsTrue (p x)
  all_at p xs i x all h is = ap p is ∙ all_get p xs i x all h

module _ {X Y : Type 0} (f : X → Option Y) where
  pub kept_more : (xs : List X) (i : ℕ) (x : X) (y : Y) → i < length xs → x ≡ get_or xs i x → f x ≡ Some y
      → filter_map f (take (i + 1) xs) ≡ filter_map f (take i xs) ++ y ∷ []
  kept_more xs i x y h is e =
      ap (filter_map f) (take_more xs i x h) ∙ filter_map-append f (take i xs) (get_or xs i x ∷ [])
      ∙ ap (λ o. filter_map f (take i xs) ++ cons_option o []) (ap f (sym is) ∙ e)

  pub head_hit : (xs : List X) (i : ℕ) (x : X) (y : Y) → i < length xs → x ≡ get_or xs i x → f x ≡ Some y
      → head_of (filter_map f (drop i xs)) ≡ Some y
  head_hit xs i x y h is e =
      ap (λ ys. head_of (filter_map f ys)) (drop_at xs i x h is) ∙ ap (λ o. head_of (cons_option o (filter_map f (drop (i + 1) xs)))) e

  pub head_miss : (xs : List X) (i : ℕ) (x : X) → i < length xs → x ≡ get_or xs i x → f x ≡ None
      → head_of (filter_map f (drop i xs)) ≡ head_of (filter_map f (drop (i + 1) xs))
  head_miss xs i x h is e =
      ap (λ ys. head_of (filter_map f ys)) (drop_at xs i x h is) ∙ ap (λ o. head_of (cons_option o (filter_map f (drop (i + 1) xs)))) e

module _ {Y : Type 0} where
  pub head_append_some : (xs ys : List Y) (y : Y) → head_of xs ≡ Some y → head_of (xs ++ ys) ≡ Some y
  head_append_some [] ys y e = cc
  head_append_some (x ∷ xs) ys y e = e

  pub head_append_none : (xs ys : List Y) → head_of xs ≡ None → head_of (xs ++ ys) ≡ head_of ys
  head_append_none [] ys e = refl
  head_append_none (x ∷ xs) ys e = cc

pub flat_map_at : {X A : Type 0} (f : X → List A) (xs : List X) (i : ℕ) (x : X) → i < length xs → x ≡ get_or xs i x
    → flat_map f (take (i + 1) xs) ≡ flat_map f (take i xs) ++ f x
flat_map_at f xs i x h is =
    ap (flat_map f) (take_more xs i x h) ∙ flat_map-append f (take i xs) (get_or xs i x ∷ [])
    ∙ ap (λ y. flat_map f (take i xs) ++ (f y ++ [])) (sym is) ∙ ap (λ zs. flat_map f (take i xs) ++ zs) (append-nil (f x))
