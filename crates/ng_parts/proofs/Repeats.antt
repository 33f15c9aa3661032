-- A set holds the names that were seen.
use Rattle.std.proofs.Common.{◌≡◌, ℕ, ◌<◌, Bool, true, false, cond, List, ◌∷◌, ◌++◌, length, get_or, ap, ◌∙◌, sym, append_assoc, bytes_eq, not, subst, drop, ◌+◌, ◌||◌, refl}
use Rattle.std.proofs.lemmas.List.{drop_more}
use Rattle.std.specs.HashSet.{HashSet, contains}
use Rattle.ng_parts.specs.declared.site.Site.{Site}
use Rattle.ng_parts.specs.Sites.{Name, is_among, when, repeats_after}

abbrev pub Keys : {S : Type 0} → HashSet Name S → List Name → Type 0
Keys set seen = (q : Name) → contains bytes_eq set q ≡ is_among seen q

-- What is left to find, after the names that were seen.
pub record Left {S : Type 0} (set : HashSet Name S) (found rest whole : List Site) : Type 0 where
  pub seen : List Name
  pub keys : Keys set seen
  pub all : found ++ repeats_after seen rest ≡ whole

cond_or : (a b : Bool) → cond a true b ≡ (a || b)
cond_or true b = refl
cond_or false b = refl

not_not : (a b : Bool) → a ≡ not b → not a ≡ b
not_not a true e = ap not e
not_not a false e = ap not e

-- one more name
pub left_more : {S : Type 0} (set new : HashSet Name S) (found more xs : List Site) (i : ℕ) (x : Site) (whole : List Site) (key : Name) (is_new : Bool)
    → i < length xs → x ≡ get_or xs i x → Left set found (drop i xs) whole → key ≡ x.name
    → is_new ≡ not (contains bytes_eq set key)
    → ((q : Name) → contains bytes_eq new q ≡ cond (bytes_eq key q) true (contains bytes_eq set q))
    → more ≡ found ++ when (not is_new) x
    → Left new more (drop (i + 1) xs) whole
left_more set new found more xs i x whole key is_new small is left same added updates pushed =
    let e : not is_new ≡ is_among left.seen x.name = not_not is_new _ added ∙ left.keys key ∙ ap (is_among left.seen) same in
    let cut : drop i xs ≡ x ∷ drop (i + 1) xs = drop_more xs i x small ∙ ap (λ u. u ∷ drop (i + 1) xs) (sym is) in
    record {
      seen = x.name ∷ left.seen;
      keys = subst (λ n. Keys new (n ∷ left.seen)) same (λ q. updates q ∙ ap (cond (bytes_eq key q) true) (left.keys q) ∙ cond_or (bytes_eq key q) (is_among left.seen q));
      all = ap (λ z. z ++ repeats_after (x.name ∷ left.seen) (drop (i + 1) xs)) (pushed ∙ ap (λ b. found ++ when b x) e)
          ∙ append_assoc found (when (is_among left.seen x.name) x) (repeats_after (x.name ∷ left.seen) (drop (i + 1) xs))
          ∙ ap (λ r. found ++ repeats_after left.seen r) (sym cut) ∙ left.all;
    }
